-- The lines before the first bad line of a query's text are also the first lines of a text without a bad line: so the first bad line is
-- the first that no text on the form has after those before it. Of a database's text this doesn't hold: no row follows the highest one.
use mathlib.Core.Path.{◌≡◌, refl}
use Rattle.std.specs.Prelude.{Option}
use mathlib.Core.List.{List}
use Prim.Native.Nat.{ℕ, ◌-◌}
use native.Mathlib.Omega.{arith}
use lib.Dec.{lit≤}
use Rattle.database.specs.declared.Refusal.TheVariants.{QueryForm}
use Rattle.database.specs.Refusals.{Reply, refused}
use Rattle.query.specs.declared.Node.{Node}
use Rattle.query.specs.declared.Node.TheVariants.{Table}
use Rattle.text.specs.Numbers.{max_number}
use Rattle.text.specs.Lines.{Rest, whole, due, node_line}
use Rattle.text.specs.Texts.{read_nodes}
use Rattle.text.proofs.Exact.{ExactLine, many_again}
use Rattle.text.proofs.Counted.{counted_from}
use Rattle.text.proofs.Lines.{header_exact, count_exact, node_exact, nodes_plain, count_tested}
use Rattle.text.proofs.Carried.{followed, carries_again}
use Rattle.text.proofs.FirstBad.{first_lines}
use Rattle.text.proofs.FirstBadLine.{first_bad_query_line, count_no_line}
use Rattle.text.proofs.Completed.{Completes, Completing, completes_then, completes_due, completes_ended}

-- the due lines of a query's text, with one on the form each
line : {A : Type 0} {form : List ℕ → Option A} {text : A → List ℕ} {Good : A → Type 0} → ExactLine form text Good → (a : A) → Good a
    → Completing QueryForm (List Node) (due QueryForm form)
line {form = form} {text = text} x a h = record {
  carried = λ next _ y. completes_due QueryForm (List Node) (λ n. refl) form (text a) a (x.unbroken a h) (x.reads a h) next y;
}

query_completes : (w limit : ℕ)
    → Completes QueryForm (List Node) (counted_from QueryForm "nodes=" max_number (due QueryForm (node_line w)) (count_tested limit))
query_completes w limit =
    after (line header_exact tt tt) _ λ _.
    after (line (count_exact "nodes=" max_number nodes_plain) 0 (lit≤ tt, lit≤ tt)) _ λ n.
    after (carries_again (λ read _. Completes QueryForm (List Node) read) (many_again (due QueryForm (node_line w))) (λ _. node) n tt) _ λ ns.
    completes_ended QueryForm (List Node) (λ n. refl) (count_tested limit n ns) (count_no_line limit n ns)
  where
    after : {A : Type 0} {part : Rest → Reply (A × Rest)} → Completing QueryForm (List Node) part → (next : A → Rest → Reply (List Node))
        → ((a : A) → Completes QueryForm (List Node) (next a)) → Completes QueryForm (List Node) (followed part next)
    after = completes_then QueryForm (List Node)

    node : Completing QueryForm (List Node) (due QueryForm (node_line w))
    node = line (node_exact w) (Table 0) (refl, (lit≤ tt, tt))

pub query_lines_before : (w limit limit' : ℕ) (text : List ℕ) (k : ℕ) → read_nodes w limit text ≡ refused (QueryForm k)
    → (text' : List ℕ) × (first_lines (k - 1) text ≡ first_lines (k - 1) text') × ((j : ℕ) → read_nodes w limit' text' ≡ refused (QueryForm j) → ⊥)
unfolding read_nodes
query_lines_before w limit limit' text k e =
    let low = (first_bad_query_line w limit limit text k e).counted in
    let (text', same, fine) = (query_completes w limit).completed (whole text) (k - 1) k (omega arith) e in
    (text', same, λ j e'. fine j ((first_bad_query_line w limit' limit text' j e').there text' refl))
