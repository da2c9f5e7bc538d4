use mathlib.Core.Path.{ap, sym}
use Rattle.database.specs.Refusals.{verdict}
use Rattle.reading.proofs.ReaderLawsQuery.{end_more}
use Rattle.reading.proofs.query_reader.at_end.Goals as goal

pub returns-then-c-text : goal.returns-then-c-text
returns-then-c-text c = ap verdict (sym (end_more c.args.text.now c.args.c c.args.count c.args.limit c.if-c-text.true))
