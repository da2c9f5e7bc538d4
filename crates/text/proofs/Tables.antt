-- Tables of a database's text are read exactly.
use mathlib.Core.Path.{◌≡◌, refl, sym, ◌∙◌, subst}
use mathlib.Core.Bool.{Bool, true, ◌&&◌}
use Rattle.std.specs.Prelude.{Option, Some, None}
use mathlib.Core.List.{List, [], ◌∷◌, ◌++◌, map, flat_map}
use Prim.Native.Nat.{ℕ, ◌≤◌}
use native.Mathlib.Nat.{le_trans}
use lib.Dec.{lit≤}
use lib.ListN.{length}
use Rattle.laws.specs.Lists.{every}
use Rattle.laws.proofs.Tests.{and_true}
use Rattle.laws.proofs.EachMember.{Each, both_true}
use Rattle.relation.specs.Rows.{Row, Rows, slot, ascend}
use Rattle.database.specs.declared.Refusal.TheVariants.{DatabaseForm}
use Rattle.database.specs.Stored.{rows_limit}
use Rattle.database.specs.Refusals.{Reply, accepted}
use Rattle.database.proofs.Replies.{accepted_same}
use Rattle.text.specs.Numbers.{bytes, max_number, digits, comma_digits}
use Rattle.text.specs.Lines.{Rest, due, count_line, cols_line, row_line, follows}
use Rattle.text.specs.Texts.{Table, read_rows, read_table, rows_text, line_text}
use Rattle.text.proofs.Forms.{plain}
use Rattle.text.proofs.ReplyLaws.{bind_accepted}
use Rattle.text.proofs.Exact.{Exact, ExactLine, from, regroup, put_together, due_exact, reads_then, Again, Chain, again_exact}
use Rattle.text.proofs.Lines.{count_exact}
use Rattle.text.proofs.RowLines.{GoodColumns, GoodRow, cols_exact, row_exact}

-- a table that the lines can say, over w columns
pub record GoodTable (w : ℕ) (t : Table) : Type 0 where
  pub columns : GoodColumns w t.columns
  pub rows : Each (GoodRow w t.columns) t.rows
  pub ascends : ascend t.rows ≡ true
  pub few : length t.rows ≤ rows_limit

abbrev row_text : List ℕ → Row → List ℕ
row_text cs r = line_text (bytes "row=" ++ comma_digits (map (slot r) cs))

pub rows_again : (w : ℕ) (cs : List ℕ) → Again (λ above. due DatabaseForm (row_line w cs above)) Some (λ n above. read_rows w cs n above)
unfolding read_rows
rows_again w cs = record { end = λ _ _. refl; more = λ _ _ _. refl }

-- rows that ascend below a row, if there is one
abbrev ascend_below : Option Row → Rows → Bool
ascend_below None rows = ascend rows
ascend_below (Some p) rows = ascend (p ∷ rows)

ascend_next : (above : Option Row) (r : Row) (rows : Rows) → ascend_below above (r ∷ rows) ≡ (follows above r && ascend_below (Some r) rows)
unfolding ascend
ascend_next None r rows = refl
ascend_next (Some p) r rows = refl

ascend_end : (above : Option Row) → ascend_below above [] ≡ true
unfolding ascend
ascend_end None = refl
ascend_end (Some p) = refl

module _ (w : ℕ) (cs : List ℕ) where
  abbrev Below : Option Row → Rows → Type 0
  Below above rows = Chain Some (λ above r. GoodRow w cs r × (follows above r ≡ true)) above rows

  chain_rows : (above : Option Row) (rows : Rows) → Each (GoodRow w cs) rows → ascend_below above rows ≡ true → Below above rows
  chain_rows above [] h e = tt
  chain_rows above (r ∷ rows) (h, hs) e =
      let (f, a) = both_true (follows above r) (ascend_below (Some r) rows) (sym (ascend_next above r rows) ∙ e) in
      ((h, f), chain_rows (Some r) rows hs a)

  rows_chain : (above : Option Row) (rows : Rows) → Below above rows → Each (GoodRow w cs) rows × (ascend_below above rows ≡ true)
  rows_chain above [] h = (tt, ascend_end above)
  rows_chain above (r ∷ rows) ((h, f), hs) =
      let (good, a) = rows_chain (Some r) rows hs in
      ((h, good), ascend_next above r rows ∙ and_true _ _ f a)

  -- so many rows
  abbrev GoodRows : ℕ → Rows → Type 0
  GoodRows n rows = Each (GoodRow w cs) rows × (ascend rows ≡ true) × (length rows ≡ n)

  rows_exact : GoodColumns w cs → (n : ℕ) → Exact (read_rows w cs n None) (flat_map (row_text cs)) (GoodRows n)
  rows_exact g n =
      let x = again_exact (rows_again w cs) (λ above. due_exact DatabaseForm (row_exact w cs g above)) n None in
      record {
        reads = λ rows (good, a, e). x.reads rows (chain_rows None rows good a, e);
        printed = λ s t rows e.
            let (b, (chain, n)) = x.printed s t rows e in
            let (good, a) = rows_chain None rows chain in
            (b, (good, a, n));
      }

rows_count_exact : ExactLine (count_line "rows=" rows_limit) (λ n. bytes "rows=" ++ digits n) (λ n. (n ≤ rows_limit) × (n ≤ max_number))
unfolding plain every bytes
rows_count_exact = count_exact "rows=" rows_limit refl

module _ (w : ℕ) where
  table_reads : (t : Table) → GoodTable w t → (k : ℕ) (rest : List ℕ)
      → (m : ℕ) × (read_table w (from k (rows_text t.columns t.rows ++ rest)) ≡ accepted (t, from m rest))
  unfolding read_table rows_text
  table_reads t h k rest =
      let n = length t.rows in
      let small = le_trans h.few (lit≤ tt) in
      let rows = flat_map (row_text t.columns) t.rows in
      let count = line_text (bytes "rows=" ++ digits n) in
      let reads : Reply (Table × Rest) → Type 0 = λ r. (m : ℕ) × (r ≡ accepted (t, from m rest)) in
      rw (regroup (line_text (bytes "cols=" ++ comma_digits t.columns)) count rows rest)
      (reads_then reads (due_exact DatabaseForm (cols_exact w)) t.columns h.columns k (count ++ (rows ++ rest)) _ λ k₁.
      reads_then reads (due_exact DatabaseForm rows_count_exact) n (h.few, small) k₁ (rows ++ rest) _ λ k₂.
      reads_then reads (rows_exact w t.columns h.columns n) t.rows (h.rows, h.ascends, refl) k₂ rest _ λ k₃.
      (k₃, refl))

  table_printed : (s r : Rest) (t : Table) → read_table w s ≡ accepted (t, r)
      → (s.bytes ≡ rows_text t.columns t.rows ++ r.bytes) × GoodTable w t
  unfolding read_table rows_text
  table_printed s r t e =
      bind_accepted (due DatabaseForm (cols_line w) s) _ e λ (cs, s₁) cols e₁.
      bind_accepted (due DatabaseForm (count_line "rows=" rows_limit) s₁) _ e₁ λ (n, s₂) count e₂.
      bind_accepted (read_rows w cs n None s₂) _ e₂ λ (rows, s₃) lines e₃.
      let (b₁, columns) = (due_exact DatabaseForm (cols_exact w)).printed s s₁ cs cols in
      let (b₂, (few, _)) = (due_exact DatabaseForm rows_count_exact).printed s₁ s₂ n count in
      let (b₃, (good, ascends, counted)) = (rows_exact w cs columns n).printed s₂ s₃ rows lines in
      let columns-line = line_text (bytes "cols=" ++ comma_digits cs) in
      let same = put_together columns-line (line_text (bytes "rows=" ++ digits n)) (flat_map (row_text cs) rows) s₃.bytes b₁ b₂ b₃ in
      subst (λ (p : Table × Rest). (s.bytes ≡ rows_text p.0.columns p.0.rows ++ p.1.bytes) × GoodTable w p.0) (accepted_same e₃)
      (rw counted same, record { columns = columns; rows = good; ascends = ascends; few = rw counted few })

  pub table_exact : Exact (read_table w) (λ (t : Table). rows_text t.columns t.rows) (GoodTable w)
  table_exact = record { reads = table_reads; printed = table_printed }
