-- `write_query` meets its contract: the text is measured, and stored where it fits.
use borrow.Author.Rules.{rules}
use mathlib.Core.Path.{refl}
use Rattle.output.proofs.Measured.{same_reference, short_reply, whole_reply}
use Rattle.query_writing.proofs.write_query.Goals as goal

pub returns-then-out-measure : goal.returns-then-out-measure
returns-then-out-measure c = short_reply c.args.out.now c.of-measure.ensures c.put_query.ensures c.if-out-measure.true

pub returns : goal.returns
returns c =
    let same = same_reference c.put_query-2.ensures in
    whole_reply c.args.out.now c.of-measure.ensures c.put_query.ensures refl refl c.if-out-measure.false c.put_query-2.ensures (search rules)
