-- Reading a table line by line, and a walk over tables.
use mathlib.Core.Path.{◌≡◌, ap, sym, ◌∙◌, subst}
use mathlib.Core.Bool.{Bool}
use Rattle.std.specs.Prelude.{Option, Some, None}
use mathlib.Core.List.{List, [], ◌∷◌, ◌++◌, map}
use Prim.Native.Nat.{ℕ, ◌+◌, ◌-◌, ◌*◌, ◌≤◌, ◌<◌}
use native.Mathlib.Omega.{arith}
use lib.Dec.{leb}
use lib.ListN.{length, set, replicate, length-append}
use borrow.Author.Tests.{leb-true}
use Rattle.laws.proofs.Tests.{and_true}
use Rattle.laws.proofs.Fronts.{filled_more}
use Rattle.laws.proofs.EachMember.{flat_map_append}
use Rattle.laws.proofs.FlatMaps.{flat_map_none, flat_map_one}
use Rattle.algebra.specs.Columns.{no_cols}
use Rattle.relation.specs.declared.Columns.{Columns}
use Rattle.relation.specs.Rows.{Rows, columns, columns_of, entries}
use Rattle.database.specs.declared.Database.{Database}
use Rattle.database.specs.declared.Refusal.{Refusal}
use Rattle.database.specs.declared.Refusal.TheVariants.{DatabaseForm}
use Rattle.database.specs.Stored.{rows_limit, table_limit}
use Rattle.database.specs.Refusals.{Reply, refused, accepted, ◌>>=◌}
use Rattle.database.proofs.Replies.{accepted_same}
use Rattle.text.specs.declared.line_reader.Cursor.{Cursor}
use Rattle.text.specs.Numbers.{bytes}
use Rattle.text.specs.Lines.{Rest, due, many, cols_line, count_line, if_one}
use Rattle.text.specs.Readings.{numbers_behind}
use Rattle.text.specs.Texts.{Table, read_rows, read_table, database_value, table_entries}
use Rattle.text.specs.Cursors.{rest_at, Placed, due_line, count_form}
use Rattle.text.proofs.Forms.{in_range_lem}
use Rattle.text.proofs.Exact.{due_accepted, many_again}
use Rattle.text.proofs.RowLines.{cols_exact}
use Rattle.text.proofs.Tables.{table_exact}
use Rattle.relation.proofs.Entries.{entries_length}
use Rattle.text.proofs.ReadTables.{good_fits}
use Rattle.text.proofs.ReaderLawsDue.{due_reply, due_reply_lem, count_form_lem}
use Rattle.loading.specs.declared.table_reader.ReadTable.{ReadTable}
use Rattle.loading.specs.Loading.{stores, read_entries, MayStore, Passed, row_entries, table_stored, tables_stored, cols_set, with_table, GoodTable, GoodTables}
use Rattle.laws.proofs.Options.{none_some, some_inj}
use Rattle.row_reading.specs.declared.list_reader.Numbers.{Numbers}
use Rattle.row_reading.specs.NumberArrays.{numbers_of, listed}
use Rattle.row_reading.specs.RowReading.{cols_due}
use Rattle.row_reading.proofs.NumberLists.{listed_of}
use Rattle.row_reading.proofs.RowLists.{columns_few}
use Rattle.loading.proofs.Stores.{may_first, stores_then}
use Rattle.loading.proofs.Walks.{Laid, Walk, walk_none, walk_part, walk_more, walk_stops, walk_kept, walk_length, walk_all, walk_stored}

-- the columns that a due line replies
pub due_cols_next : (o : Option (List ℕ × Cursor)) (ns : Numbers) (c : Cursor) → Some (ns, c) ≡ cols_due o
    → (o ≡ Some (listed ns, c)) × (ns.count ≡ length (listed ns))
due_cols_next None ns c e = none_some (sym e)
due_cols_next (Some p) ns c e =
    let same : (ns, c) ≡ (numbers_of p.0, p.1) = some_inj e in
    let held : ns ≡ numbers_of p.0 = ap (λ (q : Numbers × Cursor). q.0) same in
    let read : p.0 ≡ listed ns = sym (ap listed held ∙ listed_of p.0) in
    (ap (λ l. Some (l, p.1)) read ∙ ap (λ (q : Numbers × Cursor). Some (listed ns, q.1)) (sym same), ap (λ (n : Numbers). n.count) held ∙ ap length read)

-- what a due line that was read says of its value
module _ {A : Type 0} (form : List ℕ → Option A) (text : List ℕ) (c : Cursor) where
  by_form_lem : (a : A) (d : Cursor) → due_line form text c ≡ Some (a, d) → (l : List ℕ) × (form l ≡ Some a)
  by_form_lem a d e =
      let (l, _, f) = due_accepted DatabaseForm form (rest_at text c) (rest_at text d) a
      (due_reply_lem form text c DatabaseForm ∙ ap (due_reply form text c DatabaseForm) e) in
      (l, f)

pub cols_bound : (w : ℕ) (text : List ℕ) (c d : Cursor) (cs : List ℕ) → due_line (cols_line w) text c ≡ Some (cs, d) → length cs ≤ w
cols_bound w text c d cs e =
    let (l, f) = by_form_lem (cols_line w) text c cs d e in
    let good = ((cols_exact w).printed l cs f).1 in
    columns_few w cs (and_true _ _ good.ascends good.below)

pub count_bound : (key : List ℕ) (most : ℕ) (text : List ℕ) (c d : Cursor) (n : ℕ) → due_line (count_form key most) text c ≡ Some (n, d) → n ≤ most
count_bound key most text c d n e =
    let (l, f) = by_form_lem (count_form key most) text c n d e in
    leb-true n most (in_range_lem (λ n. leb n most) (if_one (λ n. n) (numbers_behind key l)) n f).1

-- the lines of a table
module _ (text : List ℕ) (c : Cursor) where
  abbrev pub table_read : Reply (Table × Rest)
  table_read = read_table columns (rest_at text c)

  abbrev made : List ℕ → Rows × Rest → Reply (Table × Rest)
  made cs p = accepted (record { columns = cs; rows = p.0 }, p.1)

  abbrev behind_count : List ℕ → ℕ × Rest → Reply (Table × Rest)
  behind_count cs p = read_rows columns cs p.0 None p.1 >>= made cs

  abbrev behind_cols : List ℕ × Rest → Reply (Table × Rest)
  behind_cols p = due DatabaseForm (count_line "rows=" rows_limit) p.1 >>= behind_count p.0

  by_cols : (o : Option (List ℕ × Cursor)) → due_line (cols_line columns) text c ≡ o
      → table_read ≡ (due_reply (cols_line columns) text c DatabaseForm o >>= behind_cols)
  unfolding read_table
  by_cols o e = ap (λ r. r >>= behind_cols) (due_reply_lem (cols_line columns) text c DatabaseForm ∙ ap (due_reply (cols_line columns) text c DatabaseForm) e)

  pub table_off : due_line (cols_line columns) text c ≡ None → table_read ≡ refused (DatabaseForm c.line)
  table_off e = by_cols None e

  module _ (cs : List ℕ) (second : Cursor) (e : due_line (cols_line columns) text c ≡ Some (cs, second)) where
    by_count : (o : Option (ℕ × Cursor)) → due_line (count_form (bytes "rows=") rows_limit) text second ≡ o
        → table_read ≡ (due_reply (count_form (bytes "rows=") rows_limit) text second DatabaseForm o >>= behind_count cs)
    by_count o q =
        by_cols (Some (cs, second)) e
        ∙ ap (λ f. due DatabaseForm f (rest_at text second) >>= behind_count cs) (count_form_lem "rows=" rows_limit)
        ∙ ap (λ r. r >>= behind_count cs)
        (due_reply_lem (count_form (bytes "rows=") rows_limit) text second DatabaseForm ∙ ap (due_reply (count_form (bytes "rows=") rows_limit) text second DatabaseForm) q)

    pub table_uncounted : due_line (count_form (bytes "rows=") rows_limit) text second ≡ None → table_read ≡ refused (DatabaseForm second.line)
    table_uncounted q = by_count None q

    module _ (n : ℕ) (first : Cursor) (q : due_line (count_form (bytes "rows=") rows_limit) text second ≡ Some (n, first)) where
      abbrev lines : Reply (Rows × Rest)
      lines = read_rows columns cs n None (rest_at text first)

      by_rows : table_read ≡ (lines >>= made cs)
      by_rows = by_count (Some (n, first)) q

      made_same : (p : Rows × Rest) (q : Table × Rest) → made cs p ≡ accepted q → row_entries p ≡ table_stored q
      made_same p q e = ap table_stored (accepted_same e)

      module _ (write : Bool) (from : ℕ) (store : List ℕ) where
        pub rows_may : MayStore table_stored write from store table_read → MayStore row_entries write from store lines
        rows_may may = may_first row_entries table_stored lines (made cs) made_same from store write (subst (MayStore table_stored write from store) by_rows may)

        pub table_stored_lem : MayStore table_stored write from store table_read
            → stores write from (read_entries row_entries lines) store ≡ stores write from (read_entries table_stored table_read) store
        table_stored_lem may =
            stores_then row_entries table_stored lines (made cs) made_same from store write (subst (MayStore table_stored write from store) by_rows may)
            ∙ ap (λ r. stores write from (read_entries table_stored r) store) (sym by_rows)

      pub table_passed : (d : Cursor) → Passed text d lines (λ rows. length rows ≡ n) → (r : ReadTable) → r.columns ≡ cols_set cs → r.rows ≡ n
          → Passed text d table_read (GoodTable r)
      table_passed d p r a b = record {
        placed = p.placed;
        value = record { columns = cs; rows = p.value };
        read = by_rows ∙ ap (λ r. r >>= made cs) p.read;
        good = record { cols = a; rows = b ∙ sym p.good };
      }

      pub table_refused : (q : Refusal) → lines ≡ refused q → table_read ≡ refused q
      table_refused q k = by_rows ∙ ap (λ r. r >>= made cs) k

-- a database with one more table
pub table_added : (ts : List Table) (t : Table) → length ts < table_limit
    → with_table (database_value columns ts) (cols_set t.columns) (length t.rows) ≡ database_value columns (ts ++ (t ∷ []))
table_added ts t h =
    let cols : Table → Columns = λ t. cols_set t.columns in
    let count : Table → ℕ = λ t. length t.rows in
    ap (λ cs. record { tables = length ts + 1; columns = cs; rows = set (map count ts ++ replicate (table_limit - length ts) 0) (length ts) (count t) })
    (filled_more cols table_limit (columns_of columns no_cols) ts t h)
    ∙ ap (λ ns. record { tables = length ts + 1; columns = map cols (ts ++ (t ∷ [])) ++ replicate (table_limit - length (ts ++ (t ∷ []))) (columns_of columns no_cols); rows = ns })
    (filled_more count table_limit 0 ts t h)
    ∙ ap (λ k. record {
      tables = k;
      columns = map cols (ts ++ (t ∷ [])) ++ replicate (table_limit - length (ts ++ (t ∷ []))) (columns_of columns no_cols);
      rows = map count (ts ++ (t ∷ [])) ++ replicate (table_limit - length (ts ++ (t ∷ []))) 0;
    }) (sym (length-append ts (t ∷ [])))

-- how many entries a table's rows take
pub table_size : (s r : Rest) (t : Table) → read_table columns s ≡ accepted (t, r) → (length (entries t.rows) ≡ columns * length t.rows) × (length t.rows ≤ rows_limit)
table_size s r t e =
    let good = ((table_exact columns).printed s r t e).1 in
    (entries_length columns t.rows (good_fits columns t good).sized, good.few)

pub tables_laid : Laid (λ (t : Table). entries t.rows) table_entries
tables_laid = record {
  none = flat_map_none (λ (t : Table). entries t.rows);
  single = flat_map_one (λ (t : Table). entries t.rows);
  joined = flat_map_append (λ (t : Table). entries t.rows);
}

module _ (text : List ℕ) (first : Cursor) (count : ℕ) (write : Bool) (store₀ : List ℕ) where
  abbrev pub tables_read : Reply (List Table × Rest)
  tables_read = many (read_table columns) count (rest_at text first)

  pub record TableTurn (store : List ℕ) (database : Database) (c : Cursor) (at i : ℕ) : Type 0 where
    pub tables : List Table
    pub walk : Walk (many_again (read_table columns)) tables_laid count tt text first write 0 store₀ store c at i tables
    pub value : database ≡ database_value columns tables
    pub spot : at ≤ i * (rows_limit * columns)

  pub table_none : Placed first → (database : Database) → database ≡ database_value columns [] → TableTurn store₀ database first 0 0
  table_none h database e = record {
    tables = [];
    walk = walk_none (many_again (read_table columns)) tables_laid count tt text first write 0 store₀ h;
    value = e;
    spot = omega arith;
  }

  module _ (store : List ℕ) (database : Database) (c : Cursor) (at i : ℕ) (t : TableTurn store database c at i) where
    -- there is room for one table more
    pub table_held : count ≤ table_limit → i < count → database.tables < table_limit
    table_held k h = let long = t.walk.long in omega (arith, ap (λ (d : Database). d.tables) t.value)

    module _ (may : MayStore tables_stored write 0 store₀ tables_read) where
      pub table_length : length store ≡ length store₀
      table_length = walk_length (many_again (read_table columns)) tables_laid count tt text first write 0 store₀ store c at i t.tables t.walk may

      module _ (h : i < count) where
        pub table_may : MayStore table_stored write at store (table_read text c)
        table_may = walk_part (many_again (read_table columns)) tables_laid count tt text first write 0 store₀ store c at i t.tables t.walk may h

        pub table_more : count ≤ table_limit → (d : Cursor) (r : ReadTable) → Passed text d (table_read text c) (GoodTable r)
            → TableTurn (stores write at (read_entries table_stored (table_read text c)) store) (with_table database r.columns r.rows) d
            (at + columns * r.rows) (i + 1)
        table_more k d r p =
            let v = p.value in
            let (size, few) = table_size (rest_at text c) (rest_at text d) v p.read in
            let rows = p.good.rows in
            let long = t.walk.long in
            let spot = t.spot in
            subst (λ s. TableTurn s (with_table database r.columns r.rows) d (at + columns * r.rows) (i + 1))
            (ap (λ r. stores write at (read_entries table_stored r) store) (sym p.read))
            (record {
              tables = t.tables ++ (v ∷ []);
              walk =
                  walk_more (many_again (read_table columns)) tables_laid count tt text first write 0 store₀ store c at i t.tables t.walk may h v d
                  p.placed p.read (at + columns * r.rows) (omega arith);
              value =
                  ap (λ e. with_table e r.columns r.rows) t.value
                  ∙ ap (λ cs. with_table (database_value columns t.tables) cs r.rows) p.good.cols
                  ∙ ap (with_table (database_value columns t.tables) (cols_set v.columns)) rows
                  ∙ table_added t.tables v (omega arith);
              spot = omega arith;
            })

        pub table_stops : (q : Refusal) → table_read text c ≡ refused q → tables_read ≡ refused q
        table_stops q e =
            walk_stops (many_again (read_table columns)) tables_laid count tt text first write 0 store₀ store c at i t.tables t.walk may h q e

        pub table_kept : (q : Refusal) → table_read text c ≡ refused q → store ≡ stores write 0 (read_entries tables_stored tables_read) store₀
        table_kept q e =
            walk_kept (many_again (read_table columns)) tables_laid count tt text first write 0 store₀ store c at i t.tables t.walk may h q e

    pub tables_passed : count ≤ i → Passed text c tables_read (GoodTables (record { database = database; size = at }))
    tables_passed h = record {
      placed = t.walk.placed;
      value = t.tables;
      read = walk_all (many_again (read_table columns)) tables_laid count tt text first write 0 store₀ store c at i t.tables t.walk h;
      good = record { value = t.value; size = let place = t.walk.place in omega arith };
    }

    pub tables_stored_lem : count ≤ i → store ≡ stores write 0 (read_entries tables_stored tables_read) store₀
    tables_stored_lem h = walk_stored (many_again (read_table columns)) tables_laid count tt text first write 0 store₀ store c at i t.tables t.walk h
