use Prim.Native.Nat.{◌≤◌, ◌-◌}
use mathlib.Core.Bool.{false}
use Rattle.laws.proofs.Indexed.{Written}
use Rattle.algebra.specs.Columns.{both}
use Rattle.relation.specs.Rows.{columns, cols_of}
use Rattle.column_sets.proofs.both.Given as goal

abbrev pub invariant-loop-c : goal.invariant-loop-c
invariant-loop-c l = (l.c ≤ columns) × Written false (both (cols_of columns l.a) (cols_of columns l.b)) columns l.joined.has l.c

abbrev pub decreases-loop-c : goal.decreases-loop-c
decreases-loop-c l = columns - l.c
