-- The parts of a line between its commas.
use mathlib.Core.Path.{◌≡◌, refl, ap}
use mathlib.Core.Bool.{Bool, true, false}
use mathlib.Core.List.{List, [], ◌∷◌, ◌++◌}
use Prim.Native.Nat.{ℕ}
use lib.Dec.{eqb}
use borrow.Author.Tests.{eqb-true}
use Rattle.laws.specs.Lists.{when◌then◌else◌, null}
use Rattle.laws.proofs.Tests.{true_false}
use Rattle.laws.proofs.EachMember.{Each}
use Rattle.text.specs.Numbers.{comma, into_first, parts}

-- no byte of the list is b
abbrev pub Without : ℕ → List ℕ → Type 0
Without b l = Each (λ c. eqb c b ≡ false) l

-- lists with commas between
unfoldable pub joined : List (List ℕ) → List ℕ
joined [] = []
joined (l ∷ []) = l
joined (l ∷ (m ∷ ls)) = l ++ (comma ∷ joined (m ∷ ls))

pub one_part : (l : List ℕ) → Without comma l → parts l ≡ l ∷ []
unfolding parts
one_part [] h = refl
one_part (b ∷ l) (h, k) = rw (h, one_part l k)

pub more_parts : (l m : List ℕ) → Without comma l → parts (l ++ (comma ∷ m)) ≡ l ∷ parts m
unfolding parts
more_parts [] m h = refl
more_parts (b ∷ l) m (h, k) = rw (h, more_parts l m k)

pub parts_null : (l : List ℕ) → null (parts l) ≡ false
unfolding parts
parts_null [] = refl
parts_null (b ∷ l) = by_test (eqb b comma) (parts l)
  where
    by_test : (t : Bool) (ls : List (List ℕ)) → null (when t then [] ∷ ls else into_first b ls) ≡ false
    by_test true ls = refl
    by_test false [] = refl
    by_test false (m ∷ ls) = refl

-- the parts of a line with commas between are the line
pub joined_parts : (l : List ℕ) → joined (parts l) ≡ l
unfolding parts joined
joined_parts [] = refl
joined_parts (b ∷ l) = by_test (eqb b comma) refl (parts l) (parts_null l) (joined_parts l)
  where
    by_test : (t : Bool) → eqb b comma ≡ t → (ls : List (List ℕ)) → null ls ≡ false → joined ls ≡ l
        → joined (when t then [] ∷ ls else into_first b ls) ≡ b ∷ l
    by_test t e [] h j = true_false h
    by_test true e (m ∷ ls) h j = rw (eqb-true b comma e) (ap (λ r. comma ∷ r) j)
    by_test false e (m ∷ []) h j = ap (λ r. b ∷ r) j
    by_test false e (m ∷ (n ∷ ls)) h j = ap (λ r. b ∷ r) j
