use Prim.Native.Nat.{◌-◌}
use Rattle.relation.specs.Rows.{columns}
use Rattle.row_reading.proofs.NumberLists.{Turn}
use Rattle.row_reading.proofs.list_reader.read_numbers.Given as goal

abbrev pub invariant-loop-found : goal.invariant-loop-found
invariant-loop-found l = Turn l.line l.from l.found l.at

abbrev pub decreases-loop-found : goal.decreases-loop-found
decreases-loop-found l = columns - l.found.count
