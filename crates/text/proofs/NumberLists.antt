-- Numbers with commas between as texts: what the printer prints is what the reader accepts.
use mathlib.Core.Path.{◌≡◌, refl, ap₂, ◌∙◌, subst}
use mathlib.Core.Bool.{false}
use Rattle.std.specs.Prelude.{Option, Some, None}
use mathlib.Core.List.{List, [], ◌∷◌, ◌++◌}
use Prim.Native.Nat.{ℕ, ◌≤◌}
use lib.Dec.{eqb}
use Rattle.laws.specs.Lists.{null}
use Rattle.laws.proofs.Tests.{true_false}
use Rattle.laws.proofs.Options.{some_inj, none_some}
use Rattle.laws.proofs.EachMember.{Each, each_append}
use Rattle.text.specs.Numbers.{comma, max_number, is_digit, number, digits, parts, read_all, numbers, comma_digits}
use Rattle.text.proofs.Commas.{Without, joined, one_part, more_parts, parts_null, joined_parts}
use Rattle.text.proofs.Numbers.{number_digits_lem, digits_number, digits_without}

-- what the reader can hold
abbrev pub AllSmall : List ℕ → Type 0
AllSmall ns = Each (λ n. n ≤ max_number) ns

-- no byte of theirs is c, where c is neither a digit nor a comma
pub comma_digits_without : (ns : List ℕ) (c : ℕ) → is_digit c ≡ false → eqb comma c ≡ false → Without c (comma_digits ns)
unfolding comma_digits
comma_digits_without [] c f g = tt
comma_digits_without (n ∷ []) c f g = digits_without n c f
comma_digits_without (n ∷ (m ∷ ns)) c f g =
    each_append (λ b. eqb b c ≡ false) (digits n) (comma ∷ comma_digits (m ∷ ns)) (digits_without n c f) (g, comma_digits_without (m ∷ ns) c f g)

read_next : (l : List ℕ) (ls : List (List ℕ)) (n : ℕ) (ns : List ℕ) → number l ≡ Some n → read_all ls ≡ Some ns → read_all (l ∷ ls) ≡ Some (n ∷ ns)
unfolding read_all
read_next l ls n ns e f = rw (e, read_all) (rw (f, read_all))

-- what is printed for numbers is read as those numbers
pub numbers_digits : (n : ℕ) (ns : List ℕ) → AllSmall (n ∷ ns) → numbers (comma_digits (n ∷ ns)) ≡ Some (n ∷ ns)
unfolding comma_digits read_all
numbers_digits n [] (h, _) = rw (one_part (digits n) (digits_without n comma refl)) (read_next (digits n) [] n [] (number_digits_lem n h) refl)
numbers_digits n (m ∷ ns) (h, k) =
    rw (more_parts (digits n) (comma_digits (m ∷ ns)) (digits_without n comma refl))
    (read_next (digits n) (parts (comma_digits (m ∷ ns))) n (m ∷ ns) (number_digits_lem n h) (numbers_digits m ns k))

-- parts that are read are the digits of what is read
abbrev Parts : List (List ℕ) → List ℕ → Type 0
Parts [] [] = Unit {0}
Parts [] (n ∷ ns) = ⊥
Parts (l ∷ ls) [] = ⊥
Parts (l ∷ ls) (n ∷ ns) = ((digits n ≡ l) × (n ≤ max_number)) × Parts ls ns

read_all_lem : (ls : List (List ℕ)) (ns : List ℕ) → read_all ls ≡ Some ns → Parts ls ns
unfolding read_all
read_all_lem [] ns e = subst (λ ns. Parts [] ns) (some_inj e) tt
read_all_lem (l ∷ ls) ns e = first (number l) refl (read_all ls) (read_all_lem ls) e
  where
    first : (o : Option ℕ) → number l ≡ o → (r : Option (List ℕ)) → ((ns : List ℕ) → r ≡ Some ns → Parts ls ns)
        → elim o [ None ↦ None | Some n ↦ elim r [ None ↦ None | Some ns ↦ Some (n ∷ ns) ] ] ≡ Some ns → Parts (l ∷ ls) ns
    first None p r f e = none_some e
    first (Some n) p None f e = none_some e
    first (Some n) p (Some ms) f e = subst (λ ns. Parts (l ∷ ls) ns) (some_inj e) (digits_number l n p, f ms refl)

parts_joined : (l : List ℕ) (ls : List (List ℕ)) (ns : List ℕ) → Parts (l ∷ ls) ns
    → (comma_digits ns ≡ joined (l ∷ ls)) × (null ns ≡ false) × AllSmall ns
unfolding comma_digits joined
parts_joined l ls [] p = absurd p
parts_joined l [] (n ∷ []) ((d, h), _) = (d, refl, (h, tt))
parts_joined l [] (n ∷ (m ∷ ns)) (_, p) = absurd p
parts_joined l (k ∷ ls) (n ∷ []) (_, p) = absurd p
parts_joined l (k ∷ ls) (n ∷ (m ∷ ns)) ((d, h), p) =
    let (e, _, s) = parts_joined k ls (m ∷ ns) p in
    (ap₂ (λ (x y : List ℕ). x ++ (comma ∷ y)) d e, refl, (h, s))

-- what is read as numbers is printed for those numbers
pub digits_numbers : (l ns : List ℕ) → numbers l ≡ Some ns → (comma_digits ns ≡ l) × (null ns ≡ false) × AllSmall ns
digits_numbers l ns e = some_part (parts l) (parts_null l) (joined_parts l) (read_all_lem (parts l) ns e)
  where
    some_part : (ls : List (List ℕ)) → null ls ≡ false → joined ls ≡ l → Parts ls ns → (comma_digits ns ≡ l) × (null ns ≡ false) × AllSmall ns
    some_part [] h j p = true_false h
    some_part (m ∷ ls) h j p = let (c, f, s) = parts_joined m ls ns p in (c ∙ j, f, s)
