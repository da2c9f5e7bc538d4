-- Queries as texts: the accepted texts are exactly those printed for queries on the form, and each is read as the query it was printed for.
use mathlib.Core.Path.{◌≡◌, subst}
use mathlib.Core.Bool.{◌&&◌}
use mathlib.Core.List.{List}
use Prim.Native.Nat.{ℕ, ◌≤◌}
use lib.Dec.{leb}
use lib.ListN.{length}
use borrow.Author.Tests.{leb-true, le-leb}
use Rattle.laws.proofs.EachMember.{Each, both_true}
use Rattle.database.specs.declared.Refusal.TheVariants.{QueryForm, NodeCount}
use Rattle.database.specs.Refusals.{accepted, require}
use Rattle.database.proofs.Replies.{accepted_same}
use Rattle.query.specs.declared.Node.{Node}
use Rattle.text.specs.Numbers.{max_number}
use Rattle.text.specs.Texts.{read_nodes, query_text}
use Rattle.text.proofs.ReplyLaws.{bind_accepted, required}
use Rattle.text.proofs.Exact.{due_exact}
use Rattle.text.proofs.Counted.{counted_reads, counted_printed}
use Rattle.text.proofs.Lines.{GoodNode, node_exact, nodes_plain, count_tested}

-- a query's text is read as the query
pub query_round_trip : (w limit : ℕ) (ns : List Node) → 1 ≤ length ns → length ns ≤ limit → length ns ≤ max_number → Each (GoodNode w) ns
    → read_nodes w limit (query_text ns) ≡ accepted ns
unfolding read_nodes query_text
query_round_trip w limit ns low high small good =
    rw (counted_reads QueryForm "nodes=" max_number nodes_plain (due_exact QueryForm (node_exact w)) (count_tested limit) ns small small good)
    (rw (le-leb 1 (length ns) low, le-leb (length ns) limit high))

-- an accepted text is the text of the query read, which is on the form
pub read_printed : (w limit : ℕ) (text : List ℕ) (ns : List Node) → read_nodes w limit text ≡ accepted ns
    → (text ≡ query_text ns) × (1 ≤ length ns) × (length ns ≤ limit) × (length ns ≤ max_number) × Each (GoodNode w) ns
unfolding read_nodes query_text
read_printed w limit text ns e =
    let (ms, same, few, good, last) =
    counted_printed QueryForm "nodes=" max_number nodes_plain (due_exact QueryForm (node_exact w)) (count_tested limit) text ns e in
    bind_accepted (require (leb 1 (length ms) && leb (length ms) limit) (NodeCount 2)) _ last λ _ range read.
    let (low, high) = both_true (leb 1 (length ms)) (leb (length ms) limit) (required _ _ tt range) in
    subst (λ ns. (text ≡ query_text ns) × (1 ≤ length ns) × (length ns ≤ limit) × (length ns ≤ max_number) × Each (GoodNode w) ns) (accepted_same read)
    (same, leb-true 1 (length ms) low, leb-true (length ms) limit high, few, good)
