-- Elements stored from one index on and from another, where neither stretch meets the other: the order does not matter.
use mathlib.Core.Path.{◌≡◌, refl, ap, sym, ◌∙◌}
use mathlib.Core.Logic.{◌≢◌}
use mathlib.Core.List.{List, [], ◌∷◌}
use Prim.Native.Nat.{ℕ, suc, ◌+◌, ◌≤◌, ◌<◌}
use native.Mathlib.Omega.{arith}
use lib.ListN.{length, set}
use lib.Seq.{sets, set_comm}

module _ {A : Type 0} where
  -- one element, none of whose index is among the others'
  set_sets : (l : List A) (i : ℕ) (a : A) (j : ℕ) (ys : List A) → ((k : ℕ) → k < length ys → i ≢ j + k) → set (sets l j ys) i a ≡ sets (set l i a) j ys
  set_sets l i a j [] h = refl
  set_sets l i a j (y ∷ ys) h =
      set_sets (set l j y) i a (suc j) ys (λ k g e. h (suc k) (omega arith) (omega arith))
      ∙ ap (λ (x : List A). sets x (suc j) ys) (set_comm l j i y a (λ e. h 0 (omega arith) (omega arith)))

  pub sets_commute : (l : List A) (i : ℕ) (xs : List A) (j : ℕ) (ys : List A) → i + length xs ≤ j → sets (sets l i xs) j ys ≡ sets (sets l j ys) i xs
  sets_commute l i [] j ys h = refl
  sets_commute l i (x ∷ xs) j ys h =
      sets_commute (set l i x) (suc i) xs j ys (omega arith)
      ∙ ap (λ (m : List A). sets m (suc i) xs) (sym (set_sets l i x j ys (λ k g e. absurd (omega arith))))
