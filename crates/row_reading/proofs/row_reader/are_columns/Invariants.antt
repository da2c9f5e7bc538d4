use Prim.Native.Nat.{◌≤◌}
use mathlib.Core.Path.{◌≡◌}
use lib.ListN.{drop}
use Rattle.relation.specs.Rows.{columns}
use Rattle.row_reading.specs.NumberArrays.{listed}
use Rattle.row_reading.proofs.RowLists.{within}
use Rattle.row_reading.proofs.row_reader.are_columns.Given as goal

abbrev pub invariant-loop-k : goal.invariant-loop-k
invariant-loop-k l = (l.k ≤ l.count) × (within columns l.low (drop l.k (listed l.numbers)) ≡ within columns 0 (listed l.numbers))
