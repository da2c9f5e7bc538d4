use Rattle.relation.specs.Rows.{columns}
use Rattle.reading.proofs.ReaderLawsQuery.{Turn}
use Rattle.reading.proofs.query_reader.read_lines.Given as goal

abbrev pub invariant-loop-i : goal.invariant-loop-i
invariant-loop-i l = Turn columns l.text l.initial.c l.count l.query l.c l.i
