-- `forms::check_form` tests the count (2), then the nodes (1).
use native.Mathlib.Omega.{arith}
use Prim.Native.Nat.{min}
use mathlib.Core.Path.{ap, sym, ◌∙◌}
use Rattle.relation.specs.Rows.{columns}
use Rattle.database.specs.Refusals.{verdict}
use Rattle.query.specs.Lines.{node_limit}
use Rattle.query.proofs.FormNodes.{form_counted, form_empty, form_over}
use Rattle.query.proofs.forms.check_form.Goals.{then-query-eq0-via-then-query-eq0, then-query-eq0-via-else-query-eq0+then-query-min}
use Rattle.query.proofs.forms.check_form.Goals as goal

pub returns-then-query-eq0 : goal.returns-then-query-eq0
returns-then-query-eq0 c = elim c.then-query-eq0.branch [
  | then-query-eq0-via-then-query-eq0 w ↦ ap verdict (sym (form_empty columns c.args.query (min c.args.limit node_limit) (omega (arith, w.if-query-eq0.true))))
  | then-query-eq0-via-else-query-eq0+then-query-min w ↦ ap verdict (sym (form_over columns c.args.query (min c.args.limit node_limit) (omega (arith, w.if-query-min.true, w.min.ensures))))
]

pub returns : goal.returns
returns c =
    c.check_nodes.ensures
    ∙ ap verdict (sym (form_counted columns c.args.query (min c.args.limit node_limit) (omega arith) (omega arith)))
