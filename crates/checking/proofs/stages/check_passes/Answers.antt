-- `stages::check_passes`: the refusal of the two passes, or the facts.
use borrow.Author.Rules.{rules}
use mathlib.Core.Path.{◌≡◌, ap, sym, ◌∙◌}
use Rattle.std.specs.Prelude.{Err}
use Rattle.relation.specs.Rows.{columns}
use Rattle.database.specs.Stored.{schema}
use Rattle.query.specs.Lines.{nodes, term_of}
use Rattle.query.specs.Facts.{checked_value}
use Rattle.checking.proofs.StageReplies.{first_refused, second_refused, passes_passed, shaped_facts}
use Rattle.checking.proofs.stages.check_passes.Goals as goal

pub returns-in_err-first_pass : goal.returns-in_err-first_pass
returns-in_err-first_pass c =
    let G = schema columns c.args.database in
    let told : c.from_residual.result ≡ Err c.in_err-first_pass.field-0.0 = search rules in
    told ∙ ap (checked_value G c.args.query) (sym (first_refused G (term_of (nodes c.args.split)) (sym c.in_err-first_pass.was ∙ c.first_pass.ensures)))

pub returns-in_err-second_pass : goal.returns-in_err-second_pass
returns-in_err-second_pass c =
    let G = schema columns c.args.database in
    let told : c.from_residual-in_err-second_pass.result ≡ Err c.in_err-second_pass.field-0.0 = search rules in
    told
    ∙ ap (checked_value G c.args.query)
    (sym (second_refused G (term_of (nodes c.args.split)) (sym c.in_ok-first_pass.was ∙ c.first_pass.ensures) (sym c.in_err-second_pass.was ∙ c.second_pass.ensures)))

pub returns : goal.returns
returns c =
    let G = schema columns c.args.database in
    shaped_facts c.args.query c.args.split c.args.start c.requires.0 c.requires.2 c.args.database _ (c.free_sets-free.ensures G) _
    c.column_sets-columns.ensures
    ∙ ap (checked_value G c.args.query)
    (sym (passes_passed G (term_of (nodes c.args.split)) (sym c.in_ok-first_pass.was ∙ c.first_pass.ensures) (sym c.in_ok-second_pass.was ∙ c.second_pass.ensures)))
