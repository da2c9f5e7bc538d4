use Prim.Native.Nat.{◌≤◌}
use mathlib.Core.Path.{◌≡◌}
use lib.ListN.{drop, replicate}
use Rattle.relation.specs.Rows.{columns}
use Rattle.text.specs.Lines.{filled}
use Rattle.row_reading.specs.NumberArrays.{listed}
use Rattle.row_reading.proofs.row_reader.row_of.Given as goal

abbrev pub invariant-loop-k : goal.invariant-loop-k
invariant-loop-k l = (l.k ≤ l.count) × (filled l.row.slots (drop l.k (listed l.cols)) (drop l.k (listed l.values)) ≡ filled (replicate columns 0) (listed l.cols) (listed l.values))
