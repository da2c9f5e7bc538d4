-- `write_answer` meets its contract: the text is measured, and stored where it fits. The numbers in it are of the types that there is room for.
use borrow.Author.Rules.{rules}
use native.Mathlib.Omega.{arith}
use mathlib.Core.Path.{refl}
use lib.Dec.{lit≤}
use Rattle.relation.specs.Rows.{columns as width}
use Rattle.output.proofs.Measured.{same_reference, short_reply, whole_reply}
use Rattle.writing.proofs.Rooms.{answer_room_lem}
use Rattle.writing.proofs.answers.write_answer.Goals as goal

pub returns-then-out-measure : goal.returns-then-out-measure
returns-then-out-measure c =
    let room =
    answer_room_lem width c.args.columns c.args.count c.args.rows.now c.args.ran (lit≤ tt) (omega (arith, c.ranges.count)) (λ i. omega (arith, c.type_inv.rows i))
    (omega (arith, c.ranges.ran)) in
    let r = short_reply c.args.out.now c.of-measure.ensures c.put_answer.ensures c.if-out-measure.true in
    (r.0, r.1, room)

pub returns : goal.returns
returns c =
    let room =
    answer_room_lem width c.args.columns c.args.count c.args.rows.now c.args.ran (lit≤ tt) (omega (arith, c.ranges.count)) (λ i. omega (arith, c.type_inv.rows i))
    (omega (arith, c.ranges.ran)) in
    let same = same_reference c.put_answer-2.ensures in
    let r = whole_reply c.args.out.now c.of-measure.ensures c.put_answer.ensures refl refl c.if-out-measure.false c.put_answer-2.ensures (search rules) in
    (r.0, r.1, room)
