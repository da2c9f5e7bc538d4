-- No number stands twice in a list exactly if each is counted at most once.
use mathlib.Core.Path.{◌≡◌}
use mathlib.Core.Logic.{inl, inr}
use mathlib.Core.List.{List, [], ◌∷◌}
use Prim.Native.Nat.{ℕ, ◌≤◌}
use native.Mathlib.Omega.{arith}
use Rattle.laws.proofs.Tests.{same?}
use Rattle.laws.proofs.Lists.{count, count_head, absent_count, count_absent}
use Rattle.algebra.specs.WellFormed.{Distinct}

pub distinct_count : (l : List ℕ) → Distinct l → (n : ℕ) → count n l ≤ 1
unfolding count
distinct_count [] h n = omega arith
distinct_count (a ∷ l) (e, h) n = elim (same? n a) [
  | inl p ↦ let z : count n l ≡ 0 = rw p.0 (absent_count a l e) in rw p.1 (omega arith)
  | inr p ↦ let z = distinct_count l h n in rw p.1 (omega arith)
]

pub count_distinct : (l : List ℕ) → ((n : ℕ) → count n l ≤ 1) → Distinct l
unfolding count
count_distinct [] h = tt
count_distinct (a ∷ l) h = (
  count_absent a l (let i = h a in omega (arith, count_head a l)),
  count_distinct l (λ n. let i = h n in omega arith),
)
