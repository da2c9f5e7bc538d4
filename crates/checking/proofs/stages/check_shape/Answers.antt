-- `stages::check_shape`: the refusal of the shape, or what the later stages leave.
use borrow.Author.Rules.{rules}
use mathlib.Core.Path.{◌≡◌, ap, sym, ◌∙◌}
use Rattle.std.specs.Prelude.{Err}
use Rattle.algebra.specs.Term.{Term}
use Rattle.relation.specs.Rows.{columns}
use Rattle.database.specs.Stored.{schema}
use Rattle.database.specs.Refusals.{Reply, ◌>>=◌}
use Rattle.query.specs.Check.{split_term}
use Rattle.query.specs.Facts.{checked_value}
use Rattle.query.proofs.Lengths.{nodes_length}
use Rattle.checking.specs.CheckStages.{pass_term}
use Rattle.checking.proofs.StageReplies.{shape_refused, shape_passed}
use Rattle.checking.proofs.stages.check_shape.Goals as goal

pub check_split-requires : goal.check_split-requires
check_split-requires c =
    (shape_passed c.args.query (sym c.in_ok-shape.was ∙ c.shape.ensures) (nodes_length c.args.query _ c.well_formed.0 c.requires.1) c.requires.1, c.requires.2)

pub returns-in_err-shape : goal.returns-in_err-shape
returns-in_err-shape c =
    let G = schema columns c.args.database in
    let told : c.from_residual.result ≡ Err c.in_err-shape.field-0.0 = search rules in
    told
    ∙ ap (λ (r : Reply Term). checked_value G c.args.query (pass_term G (r >>= split_term)))
    (sym (shape_refused c.args.query (sym c.in_err-shape.was ∙ c.shape.ensures)))
