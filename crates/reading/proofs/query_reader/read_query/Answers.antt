use mathlib.Core.Path.{ap, sym, ◌∙◌}
use Rattle.relation.specs.Rows.{columns}
use Rattle.text.specs.Numbers.{bytes, max_number}
use Rattle.text.specs.Replies.{query_reply}
use Rattle.text.proofs.ReaderLawsDue.{opened_placed}
use Rattle.reading.proofs.ReaderLawsQuery.{behind_nodes, nodes_opened}
use Rattle.reading.proofs.query_reader.read_query.Goals as goal

pub read_lines-requires : goal.read_lines-requires
unfolding bytes
read_lines-requires c =
    opened_placed (bytes "nodes=") max_number c.args.text.now c.in-Ok.count c.in-Ok.first c.in-Ok.ensures

pub returns-in-Ok : goal.returns-in-Ok
unfolding bytes
returns-in-Ok c =
    c.read_lines.ensures
    ∙ ap (λ o. query_reply (behind_nodes columns c.args.text.now c.args.limit o)) c.in-Ok.ensures
    ∙ ap query_reply (sym (nodes_opened columns c.args.text.now c.args.limit))

pub returns-in-Err : goal.returns-in-Err
unfolding bytes
returns-in-Err c =
    ap (λ o. query_reply (behind_nodes columns c.args.text.now c.args.limit o)) c.in-Err.ensures
    ∙ ap query_reply (sym (nodes_opened columns c.args.text.now c.args.limit))
