-- The first line of a text: what stands before its first byte 10, and what follows that byte.
use mathlib.Core.Path.{◌≡◌, refl, ap, subst}
use mathlib.Core.Bool.{Bool, true, false}
use Rattle.std.specs.Prelude.{Option, Some, None}
use mathlib.Core.List.{List, [], ◌∷◌, ◌++◌}
use Prim.Native.Nat.{ℕ}
use lib.Dec.{eqb}
use borrow.Author.Tests.{eqb-true}
use Rattle.laws.proofs.Options.{some_inj, none_some}
use Rattle.text.specs.Numbers.{newline}
use Rattle.text.specs.Lines.{first_line}
use Rattle.text.specs.Texts.{line_text}
use Rattle.text.proofs.Commas.{Without}

pub first_line_lem : (l rest : List ℕ) → Without newline l → first_line (line_text l ++ rest) ≡ Some (l, rest)
unfolding first_line
first_line_lem [] rest h = refl
first_line_lem (b ∷ l) rest (h, k) = rw (h, first_line) (rw (first_line_lem l rest k, first_line))

-- a text that begins with this line
abbrev Begins : List ℕ → List ℕ × List ℕ → Type 0
Begins text p = (text ≡ line_text p.0 ++ p.1) × Without newline p.0

pub line_first : (text : List ℕ) (p : List ℕ × List ℕ) → first_line text ≡ Some p → (text ≡ line_text p.0 ++ p.1) × Without newline p.0
unfolding first_line
line_first [] p e = none_some e
line_first (b ∷ text) p e = by_test (eqb b newline) refl (first_line text) (line_first text) e
  where
    by_test : (t : Bool) → eqb b newline ≡ t → (o : Option (List ℕ × List ℕ)) → ((q : List ℕ × List ℕ) → o ≡ Some q → Begins text q)
        → ◌≡◌ {A = Option (List ℕ × List ℕ)}
        (elim t [ true ↦ Some ([], text) | false ↦ elim o [ None ↦ None | Some q ↦ Some (b ∷ q.0, q.1) ] ]) (Some p)
        → Begins (b ∷ text) p
    by_test true h o f e = subst (Begins (b ∷ text)) (some_inj e) (ap (λ c. c ∷ text) (eqb-true b newline h), tt)
    by_test false h None f e = none_some e
    by_test false h (Some q) f e = let (t, w) = f q refl in subst (Begins (b ∷ text)) (some_inj e) (ap (λ r. b ∷ r) t, (h, w))
