-- Numbers that are counted at most once, one number more.
use mathlib.Core.Path.{◌≡◌}
use mathlib.Core.Bool.{false}
use mathlib.Core.List.{List, [], ◌∷◌, ◌++◌}
use mathlib.Core.Logic.{inl, inr, ◌↔◌}
use Prim.Native.Nat.{ℕ, ◌≤◌}
use native.Mathlib.Omega.{arith}
use Rattle.laws.specs.Lists.{member}
use Rattle.laws.proofs.Tests.{same?}
use Rattle.laws.proofs.Lists.{count, count_head, count_append, absent_count, count_absent}

abbrev pub Apart : List ℕ → Type 0
Apart l = (n : ℕ) → count n l ≤ 1

pub apart_left : (l m : List ℕ) → Apart (l ++ m) → Apart l
apart_left l m h n = omega (arith, h n, count_append n l m)

-- one number more
pub apart_one : (l : List ℕ) (v : ℕ) → Apart (l ++ (v ∷ [])) ↔ ((member v l ≡ false) × Apart l)
unfolding count
apart_one l v = (
  (λ h. (count_absent v l (omega (arith, h v, count_append v l (v ∷ []), count_head v [])), apart_left l (v ∷ []) h)),
  (λ (e, h) n.
      let i = h n in
      rw (count_append n l (v ∷ []))
      (elim (same? n v) [
        | inl s ↦ rw (s.1, s.0) (omega (arith, absent_count v l e))
        | inr s ↦ rw s.1 (omega arith)
      ])),
)
