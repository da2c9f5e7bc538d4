-- A walk over a whole text, and what is loaded of it.
use mathlib.Core.Path.{◌≡◌, refl, ap, sym, ◌∙◌}
use mathlib.Core.Bool.{Bool, true, false}
use Rattle.std.specs.Prelude.{Option, Some, None}
use mathlib.Core.List.{List, [], flat_map}
use Prim.Native.Nat.{ℕ, ◌≤◌, ◌<◌}
use native.Mathlib.Omega.{arith}
use lib.Dec.{leb}
use lib.ListN.{length, drop_of_length-le}
use borrow.Author.Tests.{le-leb, lt-leb}
use Rattle.relation.specs.Rows.{columns}
use Rattle.database.specs.declared.Refusal.{Refusal}
use Rattle.database.specs.declared.Refusal.TheVariants.{DatabaseForm, ShortSlice}
use Rattle.std.specs.Prelude.{Ok}
use Rattle.database.specs.Stored.{table_limit}
use Rattle.database.specs.Refusals.{Reply, refused, accepted, require, ◌>>=◌}
use Rattle.database.proofs.Replies.{accepted_same, accepted_then}
use Rattle.text.specs.declared.line_reader.Cursor.{Cursor}
use Rattle.text.specs.Numbers.{bytes}
use Rattle.text.specs.Lines.{Rest, many, ended}
use Rattle.text.specs.Texts.{Table, read_table, read_tables, read_database, database_value, table_entries}
use Rattle.text.specs.Replies.{read_or, load_tables, store_after}
use Rattle.text.specs.Cursors.{rest_at, due_line, word_form, count_form, start, Opened, counted, headed, opened_at}
use Rattle.text.proofs.ReaderLawsDue.{behind_opened, opening_reply}
use Rattle.text.proofs.EmptyText.{empty_read, others_read, accepted_read}
use Rattle.loading.specs.declared.table_reader.ReadText.{ReadText}
use Rattle.loading.specs.Loading.{stores, read_entries, MayStore, Passed, tables_stored, GoodTables, text_reply, tables_behind, OnForm, text_or}
use Rattle.loading.proofs.Stores.{may_first, stores_then}
use Rattle.loading.proofs.TableWalks.{count_bound, tables_read}

-- the count of a text's opening is in its range
pub opened_most : (key : List ℕ) (most : ℕ) (text : List ℕ) (n : ℕ) (c : Cursor) → Ok (n, c) ≡ opened_at key most text → n ≤ most
opened_most key most text n c e = by_head (due_line (word_form (bytes "guide=1")) text start) e
  where
    by_count : (d : Cursor) (o : Option (ℕ × Cursor)) → due_line (count_form key most) text d ≡ o → Ok (n, c) ≡ counted d o → n ≤ most
    by_count d None q e = let z : ◌≡◌ {A = ℕ} 0 1 = cc in let w : ⊥ = omega arith in absurd w
    by_count d (Some p) q e = let y : n ≡ p.0 = cc in rw y (count_bound key most text d p.1 p.0 q)

    by_head : (o : Option (Unit {0} × Cursor)) → Ok (n, c) ≡ headed key most text o → n ≤ most
    by_head None e = let z : ◌≡◌ {A = ℕ} 0 1 = cc in let w : ⊥ = omega arith in absurd w
    by_head (Some p) e = by_count p.1 (due_line (count_form key most) text p.1) refl e

-- what stands behind the lines that open a database's text
abbrev finish : List Table × Rest → Reply (List Table)
finish p = ended DatabaseForm p.1 >>= λ _. accepted p.0

module _ (text : List ℕ) where
  abbrev tables_from : ℕ → Rest → Reply (List Table)
  tables_from n s = many (read_table columns) n s >>= finish

  abbrev pub behind_tables : Opened → Reply (List Table)
  behind_tables o = behind_opened DatabaseForm "tables=" table_limit text tables_from o

  pub tables_opened : read_tables columns text ≡ behind_tables (opened_at (bytes "tables=") table_limit text)
  unfolding read_tables
  tables_opened = opening_reply DatabaseForm "tables=" table_limit text tables_from

finish_same : (p : List Table × Rest) (ts : List Table) → finish p ≡ accepted ts → tables_stored p ≡ table_entries ts
finish_same p ts e =
    let (_, _, same) = accepted_then (ended DatabaseForm p.1) (λ _. accepted p.0) e in
    ap table_entries (accepted_same same)

module _ (text : List ℕ) (first : Cursor) (count : ℕ) (write : Bool) (store : List ℕ) where
  abbrev lines : Reply (List Table × Rest)
  lines = tables_read text first count write store

  pub behind_may : MayStore table_entries write 0 store (tables_behind columns text first count) → MayStore tables_stored write 0 store lines
  behind_may may = may_first tables_stored table_entries lines finish finish_same 0 store write may

  pub behind_stored : MayStore table_entries write 0 store (tables_behind columns text first count)
      → stores write 0 (read_entries tables_stored lines) store ≡ stores write 0 (read_entries table_entries (tables_behind columns text first count)) store
  behind_stored may = stores_then tables_stored table_entries lines finish finish_same 0 store write may

  pub text_ended : (c : Cursor) (r : ReadText) → Passed text c lines (GoodTables r)
      → text_or r (ended DatabaseForm (rest_at text c)) ≡ text_reply (tables_behind columns text first count)
  text_ended c r p = by_case (ended DatabaseForm (rest_at text c)) ∙ ap (λ x. text_reply (x >>= finish)) (sym p.read)
    where
      by_case : (e : Reply (Unit {0})) → text_or r e ≡ text_reply (e >>= λ _. accepted p.value)
      by_case (refused q) = refl
      by_case (accepted u) =
          ap (λ d. Ok (record { database = d; size = r.size })) p.good.value
          ∙ ap (λ n. Ok (record { database = database_value columns p.value; size = n })) p.good.size

  pub text_refused : (q : Refusal) → lines ≡ refused q → text_reply (refused q) ≡ text_reply (tables_behind columns text first count)
  text_refused q e = ap (λ x. text_reply (x >>= finish)) (sym e)

-- "Reading a book tests the form before the store's length"
module _ (text store : List ℕ) where
  abbrev fitting : List Table → Reply (List Table)
  fitting ts = require (leb (length (table_entries ts)) (length store)) ShortSlice >>= λ _. accepted ts

  by_form_lem : (r : Reply (List Table)) → read_database columns text ≡ r → load_tables columns text store ≡ (r >>= fitting)
  unfolding load_tables
  by_form_lem r e = ap (λ r. r >>= fitting) e

  by_size : (ts : List Table) → read_database columns text ≡ accepted ts → (t : Bool) → leb (length (table_entries ts)) (length store) ≡ t
      → load_tables columns text store ≡ (require t ShortSlice >>= λ _. accepted ts)
  by_size ts e t h = by_form_lem (accepted ts) e ∙ ap (λ t. require t ShortSlice >>= λ _. accepted ts) h

  pub load_empty : length text ≡ 0 → load_tables columns text store ≡ accepted []
  unfolding flat_map
  load_empty e =
      let read = ap (read_database columns) (drop_of_length-le text {i = 0} (omega arith)) ∙ empty_read columns in
      by_size [] read true (le-leb 0 (length store) (omega arith))

  pub load_bad : (length text ≡ 0 → ⊥) → (q : Refusal) → read_tables columns text ≡ refused q → load_tables columns text store ≡ refused q
  load_bad some_byte q e = by_form_lem (refused q) (others_read columns text (λ empty. some_byte (ap length empty)) ∙ e)

  module _ (size : ℕ) (f : OnForm text size) where
    read_form : read_database columns text ≡ accepted f.value
    read_form = accepted_read columns text f.value f.read

    pub load_short : length store < size → load_tables columns text store ≡ refused ShortSlice
    load_short h = let sized = f.sized in by_size f.value read_form false (lt-leb (length (table_entries f.value)) (length store) (omega arith))

    pub load_fits : size ≤ length store → load_tables columns text store ≡ accepted f.value
    load_fits h = let sized = f.sized in by_size f.value read_form true (le-leb (length (table_entries f.value)) (length store) (omega arith))

-- where no table is read nothing is written
pub none_kept : (store : List ℕ) (r : Reply (List Table)) → read_or r ≡ [] → store ≡ store_after r store
unfolding flat_map
none_kept store r e = ap (λ ts. store_after (accepted ts) store) (sym e)

-- "Refusals … change no store"
pub refused_kept : (store : List ℕ) (r : Reply (List Table)) (q : Refusal) → r ≡ refused q → store ≡ store_after r store
refused_kept store r q e = none_kept store r (ap read_or e)
