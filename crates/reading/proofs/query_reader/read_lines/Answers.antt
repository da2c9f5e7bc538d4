-- `read_lines` meets its contract: a turn of the loop is one line more.
use mathlib.Core.Path.{ap, sym, ◌∙◌}
use Rattle.relation.specs.Rows.{columns}
use Rattle.text.specs.Replies.{query_reply}
use Rattle.text.proofs.ReplyLaws.{handed_on}
use Rattle.reading.proofs.ReaderLawsQuery.{turn_none, turn_more, turn_stops, turn_all, ended_reply}
use Rattle.reading.proofs.query_reader.read_lines.Goals as goal

pub loop-i-init : goal.loop-i-init
loop-i-init c = turn_none columns c.args.text.now c.args.first c.args.count _ c.requires c.no_nodes-query.ensures

pub returns-in_default : goal.returns-in_default
returns-in_default c =
    ap query_reply
    (sym
    (turn_stops columns c.args.text.now c.args.first c.args.count c.loop-i.query c.loop-i.c c.loop-i.i c.loop-i.invariant c.loop-i-test.true c.args.limit
    (sym c.in_default.ensures)))

pub loop-i-preserved : goal.loop-i-preserved
loop-i-preserved c =
    rw c.with_node-query.ensures
    (turn_more columns c.args.text.now c.args.first c.args.count c.loop-i.query c.loop-i.c c.loop-i.i c.loop-i.invariant c.loop-i-test.true c.in-Some.node c.in-Some.next
    (sym c.in-Some.ensures))

pub due_node-requires : goal.due_node-requires
due_node-requires c = c.loop-i.invariant.placed

pub returns-in_err-at_end : goal.returns-in_err-at_end
returns-in_err-at_end c =
    handed_on c.from_residual.result _ c.from_residual.ensures.1
    ∙ ap (λ v. ended_reply v c.loop-i.query) c.in_err-at_end.ensures
    ∙ turn_all columns c.args.text.now c.args.first c.args.count c.loop-i.query c.loop-i.c c.loop-i.i c.loop-i.invariant c.loop-i-test.false c.args.limit

pub returns : goal.returns
returns c =
    ap (λ v. ended_reply v c.loop-i.query) c.in_ok-at_end.ensures
    ∙ turn_all columns c.args.text.now c.args.first c.args.count c.loop-i.query c.loop-i.c c.loop-i.i c.loop-i.invariant c.loop-i-test.false c.args.limit
