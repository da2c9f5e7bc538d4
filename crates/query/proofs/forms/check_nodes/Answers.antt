-- `forms::check_nodes`: the nodes passed so far are on the form.
use borrow.Author.Count.{below_more}
use native.Mathlib.Omega.{arith}
use native.Mathlib.Nat.{not-suc-le-zero}
use mathlib.Core.Path.{◌≡◌, ap, sym, ◌∙◌}
use Rattle.relation.specs.Rows.{columns}
use Rattle.database.specs.Refusals.{verdict}
use Rattle.query.specs.Lines.{on_form}
use Rattle.query.proofs.FormNodes.{formed, all_formed, one_unformed}
use Rattle.query.proofs.forms.check_nodes.Lts as lts
use Rattle.query.proofs.forms.check_nodes.Reads as reads
use Rattle.query.proofs.forms.check_nodes.Tie as tie
use Rattle.query.proofs.forms.check_nodes.Goals as goal

abbrev After-on_form : Type 0
After-on_form = lts.After-on_form tie.the-claims reads.Pre reads.Post goal.the-invariant-loop-i goal.the-decreases-loop-i

-- what the test says of the node
tested : (c : After-on_form)
    → formed columns c.args.query c.loop-i.i ≡ c.on_form.result
tested c = sym (c.on_form.ensures ∙ ap (on_form columns) c.node_at.ensures)

pub loop-i-init : goal.loop-i-init
loop-i-init c k h = absurd (not-suc-le-zero h)

pub returns-then-not-on_form : goal.returns-then-not-on_form
returns-then-not-on_form c =
    ap verdict (sym (one_unformed columns c.args.query c.loop-i.i (omega arith) (tested c.before ∙ c.if-not-on_form.true) c.loop-i.invariant))

pub loop-i-preserved : goal.loop-i-preserved
loop-i-preserved c = below_more _ _ c.loop-i.invariant (tested c.before ∙ c.if-not-on_form.false)

pub returns : goal.returns
returns c =
    ap verdict (sym (all_formed columns c.args.query (λ i h. c.loop-i.invariant i (omega arith))))
