-- "Of a text, number 1 names the first bad line, a missing one being the line after the last", and so does 11.
use mathlib.Core.Path.{◌≡◌, refl, ap, sym, ◌∙◌, subst}
use mathlib.Core.Bool.{Bool, true, false, ◌&&◌}
use Rattle.std.specs.Prelude.{Option, None}
use mathlib.Core.List.{List}
use Prim.Native.Nat.{ℕ, suc, ◌-◌}
use native.Mathlib.Omega.{arith}
use lib.Dec.{leb}
use Rattle.database.specs.declared.Refusal.{Refusal}
use Rattle.database.specs.declared.Refusal.TheVariants.{QueryForm, NodeCount, DatabaseForm}
use Rattle.database.specs.Stored.{table_limit, rows_limit}
use Rattle.database.specs.Refusals.{Reply, refused, accepted, require, number, ◌>>=◌}
use Rattle.database.proofs.Replies.{accepted_refused, refused_same}
use Rattle.query.specs.declared.Node.{Node}
use Rattle.text.specs.Numbers.{max_number}
use Rattle.text.specs.Lines.{Rest, due, count_line, node_line, cols_line, row_line}
use Rattle.text.specs.Texts.{Table, read_table, read_nodes, read_tables, read_database}
use Rattle.text.proofs.Lines.{count_tested}
use Rattle.text.proofs.Tables.{rows_again}
use Rattle.text.proofs.EmptyText.{others_read, refused_some}
use Rattle.text.proofs.Carried.{carries_end, carries_then, carries_again}
use Rattle.text.proofs.LineByLine.{Alike, Linewise, linewise_due}
use Rattle.text.proofs.FirstBad.{first_lines, FirstBad}
use Rattle.text.proofs.FirstLines.{no_lines}
use Rattle.text.proofs.FirstBadCounted.{first_bad_counted}

-- a node count out of its range is no bad line
pub count_no_line : (limit n : ℕ) (ns : List Node) (k : ℕ) → count_tested limit n ns ≡ refused (QueryForm k) → ⊥
count_no_line limit n ns k e = by_test (leb 1 n && leb n limit) e
  where
    by_test : (t : Bool) → (require t (NodeCount 2) >>= λ _. accepted ns) ≡ refused (QueryForm k) → ⊥
    by_test true e = accepted_refused e
    by_test false e = let p = ap number (refused_same e) in omega arith

-- 1, at a limit: for every other limit too
pub first_bad_query_line : (w limit limit' : ℕ) (text : List ℕ) (k : ℕ) → read_nodes w limit text ≡ refused (QueryForm k)
    → FirstBad QueryForm (read_nodes w limit') text k
unfolding read_nodes
first_bad_query_line w limit limit' =
    first_bad_counted QueryForm (λ n. refl) "nodes=" max_number (due QueryForm (node_line w))
    (linewise_due QueryForm (List Node) (λ n. refl) (node_line w))
    (count_tested limit) (count_tested limit') (count_no_line limit) (count_no_line limit')

table_linewise : (w : ℕ) → Linewise DatabaseForm (List Table) (read_table w)
unfolding read_table
table_linewise w =
    carries_then R (line (cols_line w)) λ cs.
    carries_then R (line (count_line "rows=" rows_limit)) λ n.
    carries_then R (carries_again R (rows_again w cs) (λ above. line (row_line w cs above)) n None) λ rows.
    carries_end R (record { columns = cs; rows = rows })
  where
    R : (Rest → Reply (List Table)) → (Rest → Reply (List Table)) → Type 0
    R = Alike DatabaseForm (List Table)

    line : {A : Type 0} (form : List ℕ → Option A) → Linewise DatabaseForm (List Table) (due DatabaseForm form)
    line = linewise_due DatabaseForm (List Table) (λ n. refl)

first_bad_table_line : (w : ℕ) (text : List ℕ) (k : ℕ) → read_tables w text ≡ refused (DatabaseForm k) → FirstBad DatabaseForm (read_tables w) text k
unfolding read_tables
first_bad_table_line w =
    first_bad_counted DatabaseForm (λ n. refl) "tables=" table_limit (read_table w) (table_linewise w)
    (λ _ ts. accepted ts) (λ _ ts. accepted ts) (λ n ts k e. accepted_refused e) (λ n ts k e. accepted_refused e)

-- 11; the empty text, which is not refused, has the first lines of no other
pub first_bad_database_line : (w : ℕ) (text : List ℕ) (k : ℕ) → read_database w text ≡ refused (DatabaseForm k)
    → FirstBad DatabaseForm (read_database w) text k
first_bad_database_line w text k e =
    let some_byte = refused_some w text (DatabaseForm k) e in
    let x = first_bad_table_line w text k (sym (others_read w text some_byte) ∙ e) in
    let low = x.counted in
    let next : k ≡ suc (k - 1) = omega arith in
    record {
      counted = low;
      reached = x.reached;
      before = λ text' f j h e'. x.before text' f j h (sym (others_read w text' (refused_some w text' (DatabaseForm j) e')) ∙ e');
      there = λ text' f.
          let same = subst (λ m. first_lines m text ≡ first_lines m text') next f in
          others_read w text' (λ empty. some_byte (no_lines (k - 1) text (same ∙ ap (first_lines (suc (k - 1))) empty))) ∙ x.there text' f;
    }

-- an accepted text with the same lines before the first bad one has another line there, or ends where the bad text goes on
pub accepted_differs : {B : Type 0} (bad : ℕ → Refusal) (read : List ℕ → Reply B) (text : List ℕ) (k : ℕ) → FirstBad bad read text k
    → (text' : List ℕ) (b : B) → read text' ≡ accepted b → first_lines k text ≡ first_lines k text' → ⊥
accepted_differs bad read text k x text' b e f = accepted_refused (sym e ∙ x.there text' f)
