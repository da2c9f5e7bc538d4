-- Codes of classes: below `several` a code has one byte, so two bytes with such a code are the same exactly if their codes are.
use Prim.Native.Nat.{ℕ, ◌+◌, ◌-◌, ◌<◌}
use mathlib.Core.Path.{◌≡◌, refl, ap, sym, subst, ◌∙◌}
use mathlib.Core.Bool.{Bool, true, false}
use mathlib.Core.Logic.{inl, inr}
use native.Mathlib.Omega.{arith}
use borrow.Author.Tests.{eqb-true, eq-eqb, ne_eqb, lt-ltb}
use lib.Dec.{eqb, ltb}
use Rattle.laws.specs.Lists.{when◌then◌else◌}
use Rattle.laws.proofs.Tests.{same?}
use Rattle.byte_classes.specs.declared.ByteClass.TheVariants.{Digit, Letter, Comma, Equals, LineEnd, Other}
use Rattle.byte_classes.specs.Classes.{within, class_of}
use Rattle.byte_classes.specs.Codes.{several, code_of}
use Rattle.byte_classes.proofs.Ranges.{ends}

-- the byte of a code
abbrev single : ℕ → ℕ
single n = when ltb n 10 then 48 + n else (when eqb n 10 then 44 else (when eqb n 11 then 61 else 10))

one_byte : (b : ℕ) → code_of (class_of b) < several → single (code_of (class_of b)) ≡ b
unfolding class_of
one_byte b = by_tests_lem (within 48 57 b) refl (within 97 122 b) (eqb b 44) refl (eqb b 61) refl (eqb b 10) refl
  where
    by_tests_lem : (t : Bool) → within 48 57 b ≡ t → (u : Bool) → (v : Bool) → eqb b 44 ≡ v → (x : Bool) → eqb b 61 ≡ x → (y : Bool) → eqb b 10 ≡ y
        → let n = code_of (when t then Digit (b - 48) else (when u then Letter else (when v then Comma else (when x then Equals else (when y then LineEnd else Other)))))
        in n < several → single n ≡ b
    by_tests_lem true et u v ev x ex y ey h = let (k, l) = ends 48 57 b et in simp (lt-ltb (b - 48) 10 (omega (arith, l))) (omega (arith, k))
    by_tests_lem false et true v ev x ex y ey h = absurd (omega (arith, h))
    by_tests_lem false et false true ev x ex y ey h = sym (eqb-true b 44 ev)
    by_tests_lem false et false false ev true ex y ey h = sym (eqb-true b 61 ex)
    by_tests_lem false et false false ev false ex true ey h = sym (eqb-true b 10 ey)
    by_tests_lem false et false false ev false ex false ey h = absurd (omega (arith, h))

pub same_code : (a b : ℕ) → code_of (class_of b) < several → eqb (code_of (class_of a)) (code_of (class_of b)) ≡ eqb a b
same_code a b h = elim (same? (code_of (class_of a)) (code_of (class_of b))) [
  | inl (e, t) ↦ t ∙ sym (eq-eqb a b (sym (one_byte a (subst (λ n. n < several) (sym e) h)) ∙ ap single e ∙ one_byte b h))
  | inr (e, t) ↦ t ∙ sym (ne_eqb a b (λ q. e (ap (λ x. code_of (class_of x)) q)))
]
