use Rattle.row_reading.specs.NumberArrays.{listed}
use Rattle.loading.proofs.RowWalks.{RowTurn}
use Rattle.loading.proofs.table_reader.read_rows.Given as goal

abbrev pub invariant-loop-i : goal.invariant-loop-i
invariant-loop-i l = RowTurn (listed l.cols) l.text l.initial.c l.count l.write l.from l.initial.store l.store l.c l.above l.at l.i
