use Rattle.loading.proofs.TableWalks.{TableTurn}
use Rattle.loading.proofs.table_reader.read_tables.Given as goal

abbrev pub invariant-loop-i : goal.invariant-loop-i
invariant-loop-i l = TableTurn l.text l.initial.c l.count l.write l.initial.store l.store l.database l.c l.at l.i
