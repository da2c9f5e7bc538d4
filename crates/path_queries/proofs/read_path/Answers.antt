-- `read_path`: each test in turn.
use mathlib.Core.Path.{ap, sym, ◌∙◌}
use Prim.Native.Nat.{min}
use Rattle.relation.specs.Rows.{columns}
use Rattle.database.proofs.Verdicts.{verdict_accepted}
use Rattle.query.specs.Lines.{node_limit}
use Rattle.text.specs.Replies.{query_reply}
use Rattle.text.proofs.ReplyLaws.{handed_on}
use Rattle.paths.specs.Reader.{path_limit, read_path}
use Rattle.path_queries.proofs.Stages.{off_grammar, off_form, bad_name, named}
use Rattle.path_queries.proofs.read_path.Goals as goal

pub returns-in_err-check_path : goal.returns-in_err-check_path
returns-in_err-check_path c =
    let told = handed_on c.from_residual.result _ c.from_residual.ensures.1 in
    told ∙ ap query_reply (sym (off_grammar columns (min c.args.limit node_limit) c.args.path.now c.args.database c.args.store.now c.in_err-check_path.ensures))

pub returns-in_err-check_database : goal.returns-in_err-check_database
returns-in_err-check_database c =
    let (p, read) = verdict_accepted (read_path path_limit c.args.path.now) c.in_ok-check_path.ensures in
    let told = handed_on c.from_residual-in_err-check_database.result _ c.from_residual-in_err-check_database.ensures.1 in
    told
    ∙ ap query_reply (sym (off_form columns (min c.args.limit node_limit) c.args.path.now c.args.database c.args.store.now p read c.in_err-check_database.ensures))

pub returns-in_err-check_names : goal.returns-in_err-check_names
returns-in_err-check_names c =
    let (p, read) = verdict_accepted (read_path path_limit c.args.path.now) c.in_ok-check_path.ensures in
    let told = handed_on c.from_residual-in_err-check_names.result _ c.from_residual-in_err-check_names.ensures.1 in
    told
    ∙ ap query_reply (sym (bad_name columns (min c.args.limit node_limit) c.args.path.now c.args.database c.args.store.now p read c.in_ok-check_database.ensures
    (c.in_err-check_names.ensures p read)))

pub returns : goal.returns
returns c =
    let (p, read) = verdict_accepted (read_path path_limit c.args.path.now) c.in_ok-check_path.ensures in
    c.write_path.ensures p read
    ∙ ap query_reply (sym (named columns (min c.args.limit node_limit) c.args.path.now c.args.database c.args.store.now p read c.in_ok-check_database.ensures
    (c.in_ok-check_names.ensures p read)))
