-- Lists and ranges of numbers: what a test over all of them says of each.
use mathlib.Core.Path.{◌≡◌, refl, ap, ◌∙◌}
use mathlib.Core.Bool.{Bool, true, false, ◌||◌}
use mathlib.Core.Logic.{inl, inr}
use mathlib.Core.List.{List, [], ◌∷◌, ◌++◌}
use Prim.Native.Nat.{ℕ, zero, suc, ◌+◌, ◌<◌}
use native.Mathlib.Omega.{arith}
use native.Mathlib.Nat.{not-suc-le-zero}
use lib.Dec.{eqb}
use Rattle.laws.specs.Lists.{when◌then◌else◌, null, any, member, sift, all}
use Rattle.laws.proofs.Tests.{true_false, eqb_self, same?, and_true, and_true_left, and_true_right, or_true_left, or_true_right}

-- what holds below n holds of each number below n
pub all_below : (p : ℕ → Bool) (n : ℕ) → all p n ≡ true → (c : ℕ) → c < n → p c ≡ true
unfolding all
all_below p zero e c h = absurd (not-suc-le-zero h)
all_below p (suc n) e c h = elim (same? c n) [
  | inl s ↦ ap p s.0 ∙ and_true_right (all p n) (p n) e
  | inr s ↦ all_below p n (and_true_left (all p n) (p n) e) c (let d = s.0 in omega arith)
]

pub all_true : (p : ℕ → Bool) (n : ℕ) → ((c : ℕ) → c < n → p c ≡ true) → all p n ≡ true
unfolding all
all_true p zero h = refl
all_true p (suc n) h = and_true (all p n) (p n) (all_true p n (λ c i. h c (omega arith))) (h n (omega arith))

pub null_append : {A : Type 0} (l m : List A) → null l ≡ false → null (l ++ m) ≡ false
null_append [] m e = true_false e
null_append (a ∷ l) m e = refl

pub sift_append : {A : Type 0} (p : A → Bool) (l m : List A) → sift p (l ++ m) ≡ sift p l ++ sift p m
unfolding sift
sift_append p [] m = refl
sift_append p (a ∷ l) m = by_test (p a) (sift_append p l m)
  where
    by_test : (b : Bool) {r : List _} → r ≡ sift p l ++ sift p m
        → (when b then a ∷ r else r) ≡ (when b then a ∷ sift p l else sift p l) ++ sift p m
    by_test true e = ap (λ r. a ∷ r) e
    by_test false e = e

pub member_head : (n : ℕ) (l : List ℕ) → member n (n ∷ l) ≡ true
unfolding any
member_head n l = or_true_left (eqb n n) (member n l) (eqb_self n)

pub member_tail : (n a : ℕ) (l : List ℕ) → member n l ≡ true → member n (a ∷ l) ≡ true
unfolding any
member_tail n a l e = or_true_right (eqb n a) (member n l) e

-- how often a number stands in a list
unfoldable pub count : ℕ → List ℕ → ℕ
count n [] = 0
count n (a ∷ l) = (when eqb n a then 1 else 0) + count n l

pub count_append : (n : ℕ) (l m : List ℕ) → count n (l ++ m) ≡ count n l + count n m
unfolding count
count_append n [] m = omega arith
count_append n (a ∷ l) m = rw (count_append n l m) (omega arith)

pub count_head : (n : ℕ) (l : List ℕ) → count n (n ∷ l) ≡ suc (count n l)
unfolding count
count_head n l = rw (eqb_self n) (omega arith)

-- a number stands nowhere in a list exactly if it is no member
pub absent_count : (n : ℕ) (l : List ℕ) → member n l ≡ false → count n l ≡ 0
unfolding count any
absent_count n [] e = refl
absent_count n (a ∷ l) e = by_test (eqb n a) (absent_count n l) e
  where
    by_test : (b : Bool) → (member n l ≡ false → count n l ≡ 0) → b || member n l ≡ false → (when b then 1 else 0) + count n l ≡ 0
    by_test true f e = true_false e
    by_test false f e = let z = f e in omega arith

pub count_absent : (n : ℕ) (l : List ℕ) → count n l ≡ 0 → member n l ≡ false
unfolding count any
count_absent n [] e = refl
count_absent n (a ∷ l) e = by_test (eqb n a) (count_absent n l) e
  where
    by_test : (b : Bool) → (count n l ≡ 0 → member n l ≡ false) → (when b then 1 else 0) + count n l ≡ 0 → b || member n l ≡ false
    by_test true f e = let z : ⊥ = omega arith in absurd z
    by_test false f e = f (omega arith)
