-- Rows one behind the other in a store, and the tests on them, one row at a time. w is the number of columns.
use Rattle.std.specs.Prelude.{Bool, ◌&&◌, ◌||◌, List, ℕ, ◌+◌, ◌-◌, ◌*◌, eqb, take, drop}
use Rattle.algebra.specs.Columns.{Cols}
use Rattle.relation.specs.Rows.{Row, ordered, is_less, absent_zero}

-- row i of those that begin at an index of the store
abbrev pub row_from : ℕ → List ℕ → ℕ → ℕ → Row
row_from w store start i = take w (drop (start + w * i) store)

-- row i is the first or greater than the one before it
abbrev pub row_ascends : ℕ → List ℕ → ℕ → ℕ → Bool
row_ascends w store start i = eqb i 0 || is_less (ordered (row_from w store start (i - 1)) (row_from w store start i))

-- its absent slots are 0, too
abbrev pub row_ok : ℕ → Cols → List ℕ → ℕ → ℕ → Bool
row_ok w D store start i = absent_zero w D (row_from w store start i) && row_ascends w store start i
