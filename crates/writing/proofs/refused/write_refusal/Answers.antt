-- `write_refusal` meets its contract: the text is measured, and stored where it fits.
use borrow.Author.Rules.{rules}
use mathlib.Core.Path.{refl}
use Rattle.output.proofs.Measured.{same_reference, short_reply, whole_reply}
use Rattle.writing.proofs.refused.write_refusal.Goals as goal

pub returns-then-out-measure : goal.returns-then-out-measure
returns-then-out-measure c =
    let r = short_reply c.args.out.now c.of-measure.ensures c.put_refusal.ensures.0 c.if-out-measure.true in
    (r.0, r.1, c.put_refusal.ensures.1)

pub returns : goal.returns
returns c =
    let same = same_reference c.put_refusal-2.ensures.0 in
    let r = whole_reply c.args.out.now c.of-measure.ensures c.put_refusal.ensures.0 refl refl c.if-out-measure.false c.put_refusal-2.ensures.0 (search rules) in
    (r.0, r.1, c.put_refusal.ensures.1)
