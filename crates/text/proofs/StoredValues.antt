-- Tables as a stored database: its columns, row counts and rows are those of the tables.
use mathlib.Core.Path.{◌≡◌, refl, ap, ap₂, sym, ◌∙◌, fun_ext}
use mathlib.Core.Bool.{true}
use mathlib.Core.List.{List, [], ◌∷◌, ◌++◌, map, flat_map, append_assoc, append-nil}
use Prim.Native.Nat.{ℕ, zero, suc, ◌+◌, ◌*◌, ◌≤◌, ◌<◌}
use native.Mathlib.Omega.{arith}
use lib.ListN.{length, get_or, take, drop, length-append, length-map, get_or-append}
use lib.Seq.{take-suc, split_at, drop_at, ext_get_or}
use borrow.Author.Tests.{lt-ltb}
use Rattle.laws.specs.Lists.{member}
use Rattle.laws.proofs.Tabulated.{length_tabulate, get_d_tabulate}
use Rattle.laws.proofs.EachMember.{Each, each_at, each_of_member, get_d_map, flat_map_append}
use Rattle.algebra.specs.Columns.{Cols}
use Rattle.relation.specs.Rows.{cols_of, columns_of, rows_of, entries}
use Rattle.relation.proofs.ColumnsRound.{columns_round}
use Rattle.database.specs.declared.Database.{Database}
use Rattle.database.specs.Stored.{table_cols, row_count, table_start, table_rows}
use Rattle.text.specs.Lines.{ascending}
use Rattle.text.specs.Texts.{Table, column_list, database_value, table_entries, stored_tables}
use Rattle.text.proofs.ColumnLists.{columns_own}
use Rattle.relation.proofs.Entries.{rows_of_entries, entries_length}

-- what stands past the last table
abbrev pub no_table : Table
no_table = record { columns = []; rows = [] }

-- table t of a stored database
abbrev pub stored_table : ℕ → Database → List ℕ → ℕ → Table
stored_table w d store t = record { columns = column_list w (table_cols w d t); rows = table_rows w d store t }

-- the table's columns lie below w and its rows have w slots
pub record Fits (w : ℕ) (t : Table) : Type 0 where
  pub below : Each (λ c. c < w) t.columns
  pub sized : Each (λ r. length r ≡ w) t.rows

value_at : {B : Type 0} (f : Table → B) (ts : List Table) (pad : List B) (e : B) (t : ℕ) → t < length ts
    → get_or (map f ts ++ pad) t e ≡ f (get_or ts t no_table)
value_at f ts pad e t h = get_or-append (map f ts) pad e t (rw (length-map ts f) h) ∙ get_d_map f no_table e ts t h

-- the entries of the tables, parted at one of them
parted : (ts : List Table) (t : ℕ) → t < length ts
    → table_entries ts ≡ table_entries (take t ts) ++ (entries (get_or ts t no_table).rows ++ table_entries (drop (suc t) ts))
unfolding flat_map
parted ts t h =
    ap table_entries (split_at ts t no_table h) ∙ flat_map_append (λ (t : Table). entries t.rows) (take t ts) (get_or ts t no_table ∷ drop (suc t) ts)

module _ (w : ℕ) (ts : List Table) (fits : Each (Fits w) ts) where
  at : (t : ℕ) → t < length ts → Fits w (get_or ts t no_table)
  at = each_at (Fits w) no_table ts fits

  pub value_cols : (t : ℕ) → t < length ts → table_cols w (database_value w ts) t ≡ (λ c. member c (get_or ts t no_table).columns)
  value_cols t h = fun_ext λ c.
      let cs = (get_or ts t no_table).columns in
      rw (lt-ltb t (length ts) h)
      (ap (λ s. cols_of w s c) (value_at (λ (t : Table). columns_of w (λ c. member c t.columns)) ts _ _ t h)
      ∙ ap (λ (D : Cols). D c) (columns_round w (λ c. member c cs) (each_of_member (λ c. c < w) cs (at t h).below)))

  pub value_count : (t : ℕ) → t < length ts → row_count w (database_value w ts) t ≡ length (get_or ts t no_table).rows
  value_count t h = value_at (λ (t : Table). length t.rows) ts _ 0 t h

  value_entries : (t : ℕ) → t < length ts → w * row_count w (database_value w ts) t ≡ length (entries (get_or ts t no_table).rows)
  value_entries t h = ap (λ n. w * n) (value_count t h) ∙ sym (entries_length w (get_or ts t no_table).rows (at t h).sized)

  pub value_start : (t : ℕ) → t ≤ length ts → table_start w (database_value w ts) t ≡ length (table_entries (take t ts))
  unfolding table_start flat_map
  value_start zero h = refl
  value_start (suc t) h =
      let d = database_value w ts in
      let rows = (get_or ts t no_table).rows in
      ap₂ ◌+◌ (value_start t (omega arith)) (value_entries t h)
      ∙ sym (length-append (table_entries (take t ts)) (entries rows))
      ∙ ap length (
      ap (λ l. table_entries (take t ts) ++ l) (sym (append-nil (entries rows)))
      ∙ sym (flat_map_append (λ (t : Table). entries t.rows) (take t ts) (get_or ts t no_table ∷ []))
      ∙ ap table_entries (sym (take-suc ts t no_table h))
      )

  pub value_rows : (rest : List ℕ) (t : ℕ) → t < length ts → table_rows w (database_value w ts) (table_entries ts ++ rest) t ≡ (get_or ts t no_table).rows
  value_rows rest t h =
      let rows = (get_or ts t no_table).rows in
      let later = table_entries (drop (suc t) ts) in
      let front = table_entries (take t ts) in
      ap₂ (λ n k. rows_of w n (drop k (table_entries ts ++ rest))) (value_count t h) (value_start t (omega arith))
      ∙ ap (rows_of w (length rows)) (
      ap (λ l. drop (length front) (l ++ rest)) (parted ts t h)
      ∙ ap (drop (length front)) (append_assoc front (entries rows ++ later) rest)
      ∙ drop_at front ((entries rows ++ later) ++ rest) (length front) refl
      ∙ append_assoc (entries rows) later rest
      )
      ∙ rows_of_entries w rows (later ++ rest) (at t h).sized

  -- there is room for each table
  pub value_room : (rest : List ℕ) (t : ℕ) → t < length ts
      → table_start w (database_value w ts) t + w * row_count w (database_value w ts) t ≤ length (table_entries ts ++ rest)
  value_room rest t h =
      let rows = (get_or ts t no_table).rows in
      let later = table_entries (drop (suc t) ts) in
      let front = table_entries (take t ts) in
      omega (
        arith,
        value_start t (omega arith),
        value_entries t h,
        ap length (parted ts t h),
        length-append front (entries rows ++ later),
        length-append (entries rows) later,
        length-append (table_entries ts) rest,
      )

  -- the stored tables are the tables
  pub value_tables : Each (λ (t : Table). ascending t.columns ≡ true) ts → (rest : List ℕ)
      → stored_tables w (database_value w ts) (table_entries ts ++ rest) ≡ ts
  value_tables up rest =
      ext_get_or no_table (stored_tables w (database_value w ts) (table_entries ts ++ rest)) ts (length_tabulate _ (length ts)) λ t h.
      let k : t < length ts = rw (length_tabulate _ (length ts)) at h in
      get_d_tabulate _ (length ts) t no_table k ∙ same t k
    where
      same : (t : ℕ) → t < length ts → stored_table w (database_value w ts) (table_entries ts ++ rest) t ≡ get_or ts t no_table
      same t k =
          let cs = (get_or ts t no_table).columns in
          let ascends = each_at (λ (t : Table). ascending t.columns ≡ true) no_table ts up t k in
          let columns = ap (column_list w) (value_cols t k) ∙ columns_own w cs ascends (at t k).below in
          let rows = value_rows rest t k in
          λ i. record { columns = columns i; rows = rows i }
