use Prim.Native.Nat.{◌≤◌}
use mathlib.Core.Bool.{false}
use Rattle.laws.specs.Lists.{member}
use Rattle.laws.proofs.Indexed.{Written}
use Rattle.relation.specs.Rows.{columns}
use Rattle.row_reading.specs.NumberArrays.{listed}
use Rattle.loading.proofs.table_reader.columns_of.Given as goal

abbrev pub invariant-loop-c : goal.invariant-loop-c
invariant-loop-c l = (l.c ≤ columns) × Written false (λ k. member k (listed l.cols)) columns l.set.has l.c
