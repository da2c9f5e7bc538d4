-- `stages::check`: the refusal of the database, or what the check of the query replies.
use borrow.Author.Rules.{rules}
use Prim.Native.Nat.{min}
use mathlib.Core.Path.{◌≡◌, ap, sym, ◌∙◌}
use Rattle.std.specs.Prelude.{Err}
use Rattle.relation.specs.Rows.{columns}
use Rattle.database.specs.Stored.{schema}
use Rattle.query.specs.Lines.{node_limit}
use Rattle.query.specs.Facts.{checked_value}
use Rattle.checking.proofs.StageReplies.{book_refused, book_passed}
use Rattle.checking.proofs.stages.check.Goals as goal

pub returns-in_err-check_database : goal.returns-in_err-check_database
returns-in_err-check_database c =
    let told : c.from_residual.result ≡ Err c.in_err-check_database.field-0.0 = search rules in
    told
    ∙ ap (checked_value (schema columns c.args.database) c.args.query)
    (sym (book_refused columns (min c.args.limit node_limit) c.args.query c.args.database c.args.store.now (sym c.in_err-check_database.was ∙ c.check_database.ensures)))

pub returns : goal.returns
returns c =
    c.check_query.ensures
    ∙ ap (checked_value (schema columns c.args.database) c.args.query)
    (sym (book_passed columns (min c.args.limit node_limit) c.args.query c.args.database c.args.store.now (sym c.in_ok-check_database.was ∙ c.check_database.ensures)))
