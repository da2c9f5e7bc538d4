-- `stages::check_query`: the refusal of the form, or what the later stages leave.
use borrow.Author.Rules.{rules}
use native.Mathlib.Omega.{arith}
use Prim.Native.Nat.{min}
use mathlib.Core.Path.{◌≡◌, ap, sym, ◌∙◌}
use Rattle.std.specs.Prelude.{Err}
use Rattle.relation.specs.Rows.{columns}
use Rattle.database.specs.Stored.{schema}
use Rattle.query.specs.Lines.{node_limit}
use Rattle.query.specs.Facts.{checked_value}
use Rattle.checking.proofs.StageReplies.{form_refused, form_passed, form_says}
use Rattle.checking.proofs.stages.check_query.Goals as goal

pub check_shape-requires : goal.check_shape-requires
check_shape-requires c =
    let (h, k, f) = form_says c.args.query (min c.args.limit node_limit) (sym c.in_ok-check_form.was ∙ c.check_form.ensures) in
    (h, omega arith, f)

pub returns-in_err-check_form : goal.returns-in_err-check_form
returns-in_err-check_form c =
    let G = schema columns c.args.database in
    let told : c.from_residual.result ≡ Err c.in_err-check_form.field-0.0 = search rules in
    told
    ∙ ap (checked_value G c.args.query) (sym (form_refused c.args.query G (min c.args.limit node_limit) (sym c.in_err-check_form.was ∙ c.check_form.ensures)))

pub returns : goal.returns
returns c =
    let G = schema columns c.args.database in
    c.check_shape.ensures
    ∙ ap (checked_value G c.args.query) (sym (form_passed c.args.query G (min c.args.limit node_limit) (sym c.in_ok-check_form.was ∙ c.check_form.ensures)))
