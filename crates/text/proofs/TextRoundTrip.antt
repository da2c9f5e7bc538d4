-- The text forms: a text is read as a query, or as the tables of a database, exactly if it is the text printed for them and they are on the form.
-- So reading what was printed gives it back, and what is read was printed. The one exception is the empty text, a second way to write no tables.
use mathlib.Core.Path.{◌≡◌, sym, ◌∙◌, ap}
use mathlib.Core.List.{List, []}
use mathlib.Core.Logic.{◌↔◌, ◌⊎◌, inl, inr, ⊎_elim}
use Prim.Native.Nat.{ℕ, ◌≤◌}
use lib.ListN.{length}
use Rattle.laws.proofs.EachMember.{Each}
use Rattle.database.specs.Stored.{table_limit}
use Rattle.database.specs.Refusals.{accepted}
use Rattle.query.specs.declared.Node.{Node}
use Rattle.text.specs.Numbers.{max_number}
use Rattle.text.specs.Texts.{read_nodes, query_text, Table, read_database, database_text}
use Rattle.text.proofs.QueryRoundTrip.{query_round_trip, read_printed}
use Rattle.text.proofs.Lines.{GoodNode}
use Rattle.text.proofs.Tables.{GoodTable}
use Rattle.text.proofs.EmptyText.{says_read, read_says}

pub text_round_trip : (w limit : ℕ) (text : List ℕ) (ns : List Node) → (read_nodes w limit text ≡ accepted ns)
    ↔ ((text ≡ query_text ns) × (1 ≤ length ns) × (length ns ≤ limit) × (length ns ≤ max_number) × Each (GoodNode w) ns)
text_round_trip w limit text ns = (read_printed w limit text ns, λ (same, low, high, few, good). rw same (query_round_trip w limit ns low high few good))

pub database_text_round_trip : (w : ℕ) (text : List ℕ) (ts : List Table) → (read_database w text ≡ accepted ts)
    ↔ (((text ≡ database_text ts) ⊎ ((text ≡ []) × (ts ≡ []))) × (length ts ≤ table_limit) × Each (GoodTable w) ts)
database_text_round_trip w text ts = (read_says w text ts, λ (says, few, good). says_read w text ts says few good)

-- two texts read as the same tables are one text, or the two ways to write no tables
pub one_text : (w : ℕ) (text text' : List ℕ) (ts : List Table) → read_database w text ≡ accepted ts → read_database w text' ≡ accepted ts
    → (text ≡ text') ⊎ ((ts ≡ []) × (((text ≡ []) × (text' ≡ database_text [])) ⊎ ((text ≡ database_text []) × (text' ≡ []))))
one_text w text text' ts e e' =
    let says = (read_says w text' ts e').0 in
    ⊎_elim
    (λ p. ⊎_elim (λ q. inl (p ∙ sym q)) (λ (q, none). inr (none, inr (p ∙ ap database_text none, q))) says)
    (λ (p, none). ⊎_elim (λ q. inr (none, inl (p, q ∙ ap database_text none))) (λ (q, _). inl (p ∙ sym q)) says)
    (read_says w text ts e).0
