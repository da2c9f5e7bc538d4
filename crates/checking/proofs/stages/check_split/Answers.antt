-- `stages::check_split`: the refusal of the split, or what the passes leave of the split sheet.
use borrow.Author.Rules.{rules}
use mathlib.Core.Path.{◌≡◌, refl, ap, sym, ◌∙◌}
use Rattle.std.specs.Prelude.{Ok, Err}
use Rattle.algebra.specs.Term.{Term}
use Rattle.relation.specs.Rows.{columns}
use Rattle.database.specs.Stored.{schema}
use Rattle.database.specs.Refusals.{Reply}
use Rattle.query.specs.Facts.{padded, checked_value}
use Rattle.query.specs.Shape.{starts, shape_of}
use Rattle.checking.specs.CheckStages.{pass_term}
use Rattle.checking.proofs.StageReplies.{shape_passed, split_refused, split_passed}
use Rattle.checking.proofs.stages.check_split.Goals as goal

pub shape-requires : goal.shape-requires
shape-requires c = (split_passed c.args.query c.args.start c.requires.0 c.requires.1 (sym c.in_ok-sheet.was ∙ c.split.ensures)).range

pub unwrap-requires : goal.unwrap-requires
unwrap-requires c =
    let y = split_passed c.args.query c.args.start c.requires.0 c.requires.1 (sym c.in_ok-sheet.was ∙ c.split.ensures) in
    let reads : c.shape.result ≡ Ok (padded 0 (starts 0 y.term)) = c.shape.ensures ∙ ap shape_of y.is in
    rw reads refl

pub check_passes-requires : goal.check_passes-requires
check_passes-requires c =
    let y = split_passed c.args.query c.args.start c.requires.0 c.requires.1 (sym c.in_ok-sheet.was ∙ c.split.ensures) in
    (shape_passed _ (sym c.unwrap.ensures ∙ c.shape.ensures) y.counted y.range.1, y.formed, y.given)

pub returns-in_err-sheet : goal.returns-in_err-sheet
returns-in_err-sheet c =
    let G = schema columns c.args.database in
    let told : c.from_residual.result ≡ Err c.in_err-sheet.field-0.0 = search rules in
    told
    ∙ ap (λ (r : Reply Term). checked_value G c.args.query (pass_term G r)) (sym (split_refused c.args.query (sym c.in_err-sheet.was ∙ c.split.ensures)))

pub returns : goal.returns
returns c =
    let G = schema columns c.args.database in
    let y = split_passed c.args.query c.args.start c.requires.0 c.requires.1 (sym c.in_ok-sheet.was ∙ c.split.ensures) in
    c.check_passes.ensures ∙ ap (λ (r : Reply Term). checked_value G c.args.query (pass_term G r)) y.reads
