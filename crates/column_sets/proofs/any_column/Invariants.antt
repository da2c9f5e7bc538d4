use Prim.Native.Nat.{ℕ, ◌≤◌, ◌-◌}
use mathlib.Core.Path.{◌≡◌}
use mathlib.Core.Bool.{Bool, true, not}
use Rattle.laws.specs.Lists.{all}
use Rattle.relation.specs.declared.Columns.{Columns}
use Rattle.relation.specs.Rows.{columns, cols_of}
use Rattle.column_sets.proofs.any_column.Given as goal

abbrev pub test : Columns → ℕ → Bool
test cols c = not (cols_of columns cols c)

abbrev pub invariant-loop-c : goal.invariant-loop-c
invariant-loop-c l = (l.c ≤ columns) × (all (test l.cols) l.c ≡ true)

abbrev pub decreases-loop-c : goal.decreases-loop-c
decreases-loop-c l = columns - l.c
