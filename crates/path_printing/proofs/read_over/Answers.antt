-- `read_over`: each test in turn.
use mathlib.Core.Path.{ap, sym, ◌∙◌}
use Rattle.relation.specs.Rows.{columns}
use Rattle.database.proofs.Verdicts.{verdict_accepted}
use Rattle.query.specs.Lines.{node_limit}
use Rattle.text.specs.Replies.{query_reply}
use Rattle.text.proofs.ReplyLaws.{handed_on}
use Rattle.paths.specs.Reader.{path_limit, read_path}
use Rattle.paths.specs.Sheets.{path_nodes}
use Rattle.path_printing.proofs.Over.{off_grammar, long_book, bad_book, loaded}
use Rattle.path_printing.proofs.read_over.Goals as goal

pub returns-in_err-check_path : goal.returns-in_err-check_path
returns-in_err-check_path c =
    handed_on c.from_residual.result _ c.from_residual.ensures.1
    ∙ ap query_reply (sym (off_grammar c.args.path.now c.args.book.now c.in_err-check_path.ensures))

pub returns-then-book-gt-BYTES_TAKEN : goal.returns-then-book-gt-BYTES_TAKEN
returns-then-book-gt-BYTES_TAKEN c =
    let (p, read) = verdict_accepted (read_path path_limit c.args.path.now) c.in_ok-check_path.ensures in
    ap query_reply (sym (long_book c.args.path.now c.args.book.now p read c.if-book-gt-BYTES_TAKEN.true))

pub returns-in_err-database : goal.returns-in_err-database
returns-in_err-database c =
    let (p, read) = verdict_accepted (read_path path_limit c.args.path.now) c.in_ok-check_path.ensures in
    handed_on c.from_residual-in_err-database.result _ c.from_residual-in_err-database.ensures.1
    ∙ ap query_reply (sym (bad_book c.args.path.now c.args.book.now p read c.if-book-gt-BYTES_TAKEN.false c.in_err-database.ensures.value))

pub returns : goal.returns
returns c =
    let (p, read) = verdict_accepted (read_path path_limit c.args.path.now) c.in_ok-check_path.ensures in
    c.read_path.ensures
    ∙ ap query_reply
    (ap (path_nodes columns node_limit c.args.path.now c.in_ok-database.database) c.in_ok-database.ensures.store_after
    ∙ sym (loaded c.args.path.now c.args.book.now p read c.if-book-gt-BYTES_TAKEN.false c.in_ok-database.ensures.value))
