-- A byte belongs to the class that `class_of` gives it, and to no other.
use Prim.Native.Nat.{ℕ, ◌-◌}
use Prim.Native.Char.{Char, code}
use Prim.Native.String.{String, [] as end, ◌∷◌ as ◌then◌}
use mathlib.Core.Path.{◌≡◌, refl, ap, sym, ◌∙◌}
use mathlib.Core.Bool.{Bool, true, false, not}
use native.Mathlib.Omega.{arith}
use borrow.Author.Tests.{eqb-true}
use lib.Dec.{eqb}
use Rattle.laws.specs.Lists.{when◌then◌else◌, every}
use Rattle.laws.proofs.EachMember.{every_each}
use Rattle.laws.proofs.Tests.{not-false}
use Rattle.byte_classes.specs.declared.ByteClass.{ByteClass}
use Rattle.byte_classes.specs.declared.ByteClass.TheVariants.{Digit, Letter, Comma, Equals, LineEnd, Other}
use Rattle.byte_classes.specs.Classes.{within, class_of, is_in, decimal, lower_case, classed, Belongs}
use Rattle.byte_classes.proofs.Ranges.{inside, above, ends, runs, place}
use Rattle.byte_classes.proofs.Characters.{digit_in, letter_in, digit_placed, sign_in}

-- a byte of one character's class is that character
sign_only : (c : Char) (b : ℕ) → is_in (c then end) b ≡ true → class_of b ≡ class_of (code c)
sign_only c b h = ap class_of (eqb-true b (code c) (sym (sign_in c b) ∙ h))

absent : (s : String) (b : ℕ) (t : Bool) → is_in s b ≡ t → not (is_in s b) ≡ true → t ≡ false
absent s b t e h = sym e ∙ not-false (is_in s b) h

-- no other class
pub only : (b : ℕ) (c : ByteClass) → Belongs b c → class_of b ≡ c
unfolding Belongs class_of
only b (Digit d) h = let (k, (l, e)) = digit_placed b d h in rw (inside 48 57 b k l) (ap Digit (sym e))
only b Letter h =
    let letter = sym (letter_in b) ∙ h in
    let (k, _) = ends 97 122 b letter in
    simp (above 48 57 b (omega (arith, k)), letter)
only b Comma h = sign_only "," b h
only b Equals h = sign_only "=" b h
only b LineEnd h = sign_only "\n" b h
only b Other h =
    let (h1, (h2, (h3, (h4, (h5, _))))) = every_each (λ s. not (is_in s b)) classed h in
    simp (
      absent decimal b _ (digit_in b) h1,
      absent lower_case b _ (letter_in b) h2,
      absent "," b _ (sign_in "," b) h3,
      absent "=" b _ (sign_in "=" b) h4,
      absent "\n" b _ (sign_in "\n" b) h5,
    )

-- its class
pub belongs : (b : ℕ) → Belongs b (class_of b)
unfolding Belongs class_of every runs
belongs b = by_tests_lem (within 48 57 b) refl (within 97 122 b) refl (eqb b 44) refl (eqb b 61) refl (eqb b 10) refl
  where
    by_tests_lem : (t : Bool) → within 48 57 b ≡ t → (u : Bool) → within 97 122 b ≡ u → (v : Bool) → eqb b 44 ≡ v
        → (x : Bool) → eqb b 61 ≡ x → (y : Bool) → eqb b 10 ≡ y
        → Belongs b (when t then Digit (b - 48) else (when u then Letter else (when v then Comma else (when x then Equals else (when y then LineEnd else Other)))))
    by_tests_lem true et u eu v ev x ex y ey = place decimal 48 57 b refl ∙ simp et
    by_tests_lem false et true eu v ev x ex y ey = letter_in b ∙ eu
    by_tests_lem false et false eu true ev x ex y ey = sign_in "," b ∙ ev
    by_tests_lem false et false eu false ev true ex y ey = sign_in "=" b ∙ ex
    by_tests_lem false et false eu false ev false ex true ey = sign_in "\n" b ∙ ey
    by_tests_lem false et false eu false ev false ex false ey =
        simp (digit_in b ∙ et, letter_in b ∙ eu, sign_in "," b ∙ ev, sign_in "=" b ∙ ex, sign_in "\n" b ∙ ey)
