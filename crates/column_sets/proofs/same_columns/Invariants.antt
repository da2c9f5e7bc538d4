use Prim.Native.Nat.{ℕ, ◌≤◌, ◌-◌}
use mathlib.Core.Path.{◌≡◌}
use mathlib.Core.Bool.{Bool, true}
use Rattle.laws.specs.Lists.{all}
use Rattle.relation.specs.declared.Columns.{Columns}
use Rattle.relation.specs.Rows.{columns, cols_of}
use Rattle.relation.specs.Columnwise.{same_at}
use Rattle.column_sets.proofs.same_columns.Given as goal

abbrev pub test : Columns → Columns → ℕ → Bool
test a b = same_at (cols_of columns a) (cols_of columns b)

abbrev pub invariant-loop-c : goal.invariant-loop-c
invariant-loop-c l = (l.c ≤ columns) × (all (test l.a l.b) l.c ≡ true)

abbrev pub decreases-loop-c : goal.decreases-loop-c
decreases-loop-c l = columns - l.c
