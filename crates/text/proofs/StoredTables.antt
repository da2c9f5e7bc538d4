-- The tables of a stored database that passes its test can be printed and read.
use mathlib.Core.Path.{◌≡◌, refl, ap, ap₂, sym, ◌∙◌, subst, fun_ext}
use mathlib.Core.Bool.{true, false, not, ◌&&◌}
use mathlib.Core.List.{List, [], ◌∷◌, ◌++◌, map, flat_map, append-nil}
use Prim.Native.Nat.{ℕ, zero, suc, ◌+◌, ◌*◌, ◌≤◌, ◌<◌}
use native.Mathlib.Omega.{arith}
use native.Mathlib.Decide.{dec_lt}
use lib.Dec.{leb, ltb}
use lib.ListN.{length, get_or, take, drop}
use lib.Seq.{take-add}
use borrow.Author.Tests.{leb-true, lt-ltb, le-ltb}
use Rattle.laws.specs.Lists.{member, all, every, tabulate}
use Rattle.laws.proofs.Tests.{not-false}
use Rattle.laws.proofs.Tabulated.{length_tabulate, get_d_tabulate}
use Rattle.laws.proofs.EachMember.{Each, each_map, each_both, each_tabulate, each_every, both_true, flat_map_append}
use Rattle.algebra.specs.Columns.{Cols}
use Rattle.relation.specs.Rows.{Row, Rows, slot, In, here, there, rows_of, entries, absent_zero, ascend}
use Rattle.relation.specs.Shows.{Shaped}
use Rattle.database.specs.declared.Database.{Database}
use Rattle.database.specs.Refusals.{accepted}
use Rattle.database.specs.Stored.{table_limit, rows_limit, table_cols, row_count, table_start, table_rows, schema, table_ok, check_database}
use Rattle.database.proofs.Stored.{table_below, check_database_iff}
use Rattle.database.proofs.Tested.{table_shows}
use Rattle.text.specs.Numbers.{max_number}
use Rattle.text.specs.Texts.{Table, column_list, database_value, table_entries, stored_tables}
use Rattle.text.proofs.NumberLists.{AllSmall}
use Rattle.text.proofs.RowLines.{GoodColumns, GoodRow}
use Rattle.text.proofs.Tables.{GoodTable}
use Rattle.text.proofs.ColumnLists.{columns_null, columns_ascend, columns_member}
use Rattle.relation.proofs.Entries.{rows_of_length, entries_rows_of}
use Rattle.text.proofs.StoredValues.{no_table, stored_table, Fits, value_cols, value_rows}

-- small entries: of a part, and of a row's slots
small_drop : (n : ℕ) (l : List ℕ) → AllSmall l → AllSmall (drop n l)
small_drop zero l h = h
small_drop (suc n) [] h = tt
small_drop (suc n) (x ∷ l) (_, h) = small_drop n l h

small_take : (n : ℕ) (l : List ℕ) → AllSmall l → AllSmall (take n l)
small_take zero l h = tt
small_take (suc n) [] h = tt
small_take (suc n) (x ∷ l) (h, hs) = (h, small_take n l hs)

small_slot : (r : Row) (c : ℕ) → AllSmall r → slot r c ≤ max_number
small_slot [] c h = omega arith
small_slot (x ∷ r) zero (h, _) = h
small_slot (x ∷ r) (suc c) (_, h) = small_slot r c h

small_slots : (r : Row) (cs : List ℕ) → AllSmall r → AllSmall (map (slot r) cs)
small_slots r [] h = tt
small_slots r (c ∷ cs) h = (small_slot r c h, small_slots r cs h)

small_rows : (w k : ℕ) (xs : List ℕ) → AllSmall xs → Each AllSmall (rows_of w k xs)
unfolding rows_of
small_rows w zero xs h = tt
small_rows w (suc k) xs h = (small_take w xs h, small_rows w k (drop w xs) (small_drop w xs h))

each_in : {P : Row → Type 0} (rows : Rows) → ((r : Row) → In r rows → P r) → Each P rows
each_in [] f = tt
each_in (r ∷ rows) f = (f r here, each_in rows (λ s h. f s (there h)))

-- a table that isn't in the book has no columns
outside : (w : ℕ) (d : Database) (t : ℕ) → d.tables ≤ t → table_cols w d t ≡ (λ _. false)
outside w d t h = fun_ext λ c. rw (le-ltb t d.tables h)

module _ (w : ℕ) (d : Database) (store : List ℕ) where
  -- what the test says of a table beside the shape of its rows
  table_test : (t : ℕ) → table_ok w d store t ≡ true
      → (all (λ c. not (table_cols w d t c)) w ≡ false) × (row_count w d t ≤ rows_limit) × (table_start w d t + w * row_count w d t ≤ length store)
  unfolding table_ok
  table_test t e =
      let none = all (λ c. not (table_cols w d t c)) w in
      let few = leb (row_count w d t) rows_limit in
      let room = leb (table_start w d t + w * row_count w d t) (length store) in
      let zeros = every (absent_zero w (table_cols w d t)) (table_rows w d store t) in
      let (rest, _) = both_true (not none && few && room && zeros) (ascend (table_rows w d store t)) e in
      let (rest, _) = both_true (not none && few && room) zeros rest in
      let (rest, fits) = both_true (not none && few) room rest in
      let (column, count) = both_true (not none) few rest in
      (not-false none column, leb-true (row_count w d t) rows_limit count, leb-true (table_start w d t + w * row_count w d t) (length store) fits)

  stored_columns : w ≤ max_number → (t : ℕ) → table_ok w d store t ≡ true → GoodColumns w (column_list w (table_cols w d t))
  stored_columns wide t e =
      let cs = column_list w (table_cols w d t) in
      let (below, ascends) = columns_ascend w (table_cols w d t) in
      record {
        some_column = columns_null w (table_cols w d t) ∙ (table_test t e).0;
        ascends = ascends;
        below = each_every (λ c. ltb c w) cs (each_map cs (λ c h. lt-ltb c w h) below);
        small = each_map {P = λ c. c < w} {Q = λ c. c ≤ max_number} cs (λ c h. omega arith) below;
      }

  -- the columns of a table are the members of their list
  pub stored_member : (t : ℕ) → table_cols w d t ≡ (λ c. member c (column_list w (table_cols w d t)))
  stored_member t = fun_ext λ c. sym (columns_member w (table_cols w d t) (table_below w d t) c)

  stored_rows : (t : ℕ) → table_ok w d store t ≡ true → AllSmall store → Each (GoodRow w (column_list w (table_cols w d t))) (table_rows w d store t)
  stored_rows t e small =
      each_both (table_rows w d store t) good
      (each_in (table_rows w d store t) (table_shows w d store t e).shaped)
      (small_rows w (row_count w d t) (drop (table_start w d t) store) (small_drop (table_start w d t) store small))
    where
      good : (r : Row) → Shaped w (table_cols w d t) r → AllSmall r → GoodRow w (column_list w (table_cols w d t)) r
      good r h s = record { shaped = subst (λ D. Shaped w D r) (stored_member t) h; small = small_slots r (column_list w (table_cols w d t)) s }

  module _ (checked : check_database w d store ≡ accepted tt) where
    stored_ok : (t : ℕ) → t < d.tables → table_ok w d store t ≡ true
    stored_ok = ((check_database_iff w d store).0 checked).1

    stored_table_lem : w ≤ max_number → AllSmall store → (t : ℕ) → t < d.tables → GoodTable w (stored_table w d store t)
    stored_table_lem wide small t h =
        let ok = stored_ok t h in
        record {
          columns = stored_columns wide t ok;
          rows = stored_rows t ok small;
          ascends = (table_shows w d store t ok).ascends;
          few = rw (rows_of_length w (row_count w d t) (drop (table_start w d t) store)) (table_test t ok).1;
        }

    -- on the form, where its entries and columns are
    pub stored_good : w ≤ max_number → AllSmall store → (length (stored_tables w d store) ≤ table_limit) × Each (GoodTable w) (stored_tables w d store)
    stored_good wide small = (
      rw (length_tabulate _ d.tables) ((check_database_iff w d store).0 checked).0,
      each_tabulate (GoodTable w) _ d.tables (stored_table_lem wide small),
    )

    stored_fits : Each (Fits w) (stored_tables w d store)
    stored_fits = each_tabulate (Fits w) _ d.tables λ t h.
        record {
          below = (columns_ascend w (table_cols w d t)).0;
          sized = each_in (table_rows w d store t) (λ r i. ((table_shows w d store t (stored_ok t h)).shaped r i).slots);
        }

    stored_at : (t : ℕ) → t < d.tables → get_or (stored_tables w d store) t no_table ≡ stored_table w d store t
    stored_at t h = get_d_tabulate _ d.tables t no_table h

    -- as a database again: the same columns and rows
    pub stored_value_rows : (rest : List ℕ) (t : ℕ) → t < d.tables
        → table_rows w (database_value w (stored_tables w d store)) (table_entries (stored_tables w d store) ++ rest) t ≡ table_rows w d store t
    stored_value_rows rest t h =
        value_rows w (stored_tables w d store) stored_fits rest t (rw (length_tabulate _ d.tables) h) ∙ ap (λ (t : Table). t.rows) (stored_at t h)

    stored_value_cols : (t : ℕ) → table_cols w (database_value w (stored_tables w d store)) t ≡ table_cols w d t
    stored_value_cols t = elim (dec_lt t d.tables) [
      | yes h ↦ value_cols w (stored_tables w d store) stored_fits t (rw (length_tabulate _ d.tables) h)
          ∙ ap {B = Cols} (λ (t : Table). λ c. member c t.columns) (stored_at t h) ∙ sym (stored_member t)
      | no h ↦ outside w (database_value w (stored_tables w d store)) t (rw (length_tabulate _ d.tables) (omega arith))
          ∙ sym (outside w d t (omega arith))
    ]

    pub stored_value_schema : schema w (database_value w (stored_tables w d store)) ≡ schema w d
    stored_value_schema =
        let tables = length_tabulate _ d.tables in
        let columns = fun_ext stored_value_cols in
        λ i. record { width = w; tables = tables i; columns = columns i }

  -- the entries of the tables are the front of the store
  front : (n : ℕ) → table_entries (tabulate (stored_table w d store) n) ≡ take (table_start w d n) store
  unfolding tabulate table_start flat_map
  front zero = refl
  front (suc n) =
      flat_map_append (λ (t : Table). entries t.rows) (tabulate _ n) (_ ∷ [])
      ∙ ap₂ (λ (l m : List ℕ). l ++ m) (front n)
      (append-nil (entries (table_rows w d store n)) ∙ entries_rows_of w (row_count w d n) (drop (table_start w d n) store))
      ∙ sym (take-add (table_start w d n) (w * row_count w d n) store)

  pub stored_front : table_entries (stored_tables w d store) ≡ take (table_start w d d.tables) store
  stored_front = front d.tables
