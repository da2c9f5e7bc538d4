-- A stored book as the code holds it: the sizes of its arrays, where its tables begin, and the room that a tested table has. w is the number of columns.
use mathlib.Core.Path.{◌≡◌, refl, sym, fun_ext}
use mathlib.Core.Bool.{Bool, true, false, not, ◌&&◌}
use mathlib.Core.List.{List, [], ◌∷◌}
use Prim.Native.Nat.{ℕ, zero, suc, ◌+◌, ◌*◌, ◌≤◌, ◌<◌}
use native.Mathlib.Omega.{arith}
use native.Mathlib.Numerals.{add-one}
use native.Mathlib.Decide.{dec_lt}
use native.Mathlib.Nat.{not-suc-le-zero, le_of_suc-le-suc}
use lib.Dec.{ltb}
use lib.ListN.{length, get_or, get_or-eq_default}
use mir.Val.{Val}
use denote.Laws.{Is}
use denote.Shadow.{shadow}
use denote.Array.{each}
use denote.Struct.Declared.{row}
use borrow.Author.Tests.{lt-ltb, le-ltb, lt-leb, le-leb}
use Rattle.laws.specs.Lists.{all, every}
use Rattle.algebra.specs.Columns.{no_cols}
use Rattle.relation.specs.declared.Columns.{Columns}
use Rattle.relation.specs.Rows.{columns, columns_of, absent_zero, ascend}
use Rattle.relation.specs.contracts.Columns.{the_row}
use Rattle.relation.proofs.CodeRows.{columns_are}
use Rattle.database.specs.declared.Database.{Database}
use Rattle.database.specs.Refusals.{accepted}
use Rattle.database.specs.Stored.{table_limit, rows_limit, table_cols, row_count, table_start, table_rows, table_ok, check_database}
use Rattle.database.specs.contracts.Database.{the_type}
use Rattle.database.proofs.Tested.{table_facts}
use Rattle.database.proofs.Stored.{check_database_iff}

-- the entries of an array of sets of columns have their size
entry_size : (s : List Columns) (vs : List Val) → shadow (each the_row.Denot the_row.own_val s vs)
    → (t : ℕ) → t < length s → length (get_or s t (record { has = [] })).has ≡ columns
entry_size [] vs h t k = absurd (not-suc-le-zero k)
entry_size (a ∷ s) [] h t k = absurd h
entry_size (a ∷ s) (v ∷ vs) h zero k = h.0.1.1.0.1.0.1
entry_size (a ∷ s) (v ∷ vs) h (suc t) k = entry_size s vs h.1 t (le_of_suc-le-suc k)

module _ (d : Database) (vs : List Val) (h : Is (row the_type) d vs) where
  pub columns_length : length d.columns ≡ table_limit
  columns_length = h.1.1.1.0.1.0.1

  pub rows_length : length d.rows ≡ table_limit
  rows_length = h.1.1.1.1.0.1.0.1

  pub table_size : (t : ℕ) → t < table_limit → length (get_or d.columns t (record { has = [] })).has ≡ columns
  table_size t k = entry_size d.columns _ h.1.1.1.0.1.1 t (let e = columns_length in omega arith)

module _ (w : ℕ) (d : Database) where
  pub start_none : table_start w d 0 ≡ 0
  unfolding table_start
  start_none = refl

  pub start_more : (t : ℕ) → table_start w d (t + 1) ≡ table_start w d t + w * row_count w d t
  unfolding table_start
  start_more t = rw (add-one t)

  -- a later table begins no earlier
  pub start_before : (u t : ℕ) → u ≤ t → table_start w d u ≤ table_start w d t
  unfolding table_start
  start_before u zero h = let e : u ≡ 0 = omega arith in rw e (omega arith)
  start_before u (suc t) h = by_order (dec_lt t u) (start_before u t)
    where
      by_order : Dec (t < u) → (u ≤ t → table_start w d u ≤ table_start w d t) → table_start w d u ≤ table_start w d (suc t)
      by_order (yes i) f = let e : u ≡ suc t = omega arith in rw e (omega arith)
      by_order (no i) f = let k = f (omega arith) in omega arith

-- an accepted book's tables lie within the store
pub table_within : (w : ℕ) (d : Database) (store : List ℕ) → check_database w d store ≡ accepted tt
    → (t : ℕ) → t < d.tables → table_start w d t + w * row_count w d t ≤ length store
table_within w d store e t h = (table_facts w d store t (((check_database_iff w d store).0 e).1 t h)).0

module _ (w : ℕ) (d : Database) (t : ℕ) where
  abbrev stored : Columns
  stored = get_or d.columns t (record { has = [] })

  -- a table of the book has the columns that are stored for it
  pub columns_stored : t < d.tables → length stored.has ≡ w → stored ≡ columns_of w (table_cols w d t)
  columns_stored h size = columns_are w stored size (table_cols w d t) (λ c k. rw (lt-ltb t d.tables h))

  -- a table that isn't in the book, or for which nothing is stored, has none
  pub columns_none : d.tables ≤ t → no_cols ≡ table_cols w d t
  columns_none h = fun_ext λ c. rw (le-ltb t d.tables h)

  pub columns_past : length d.columns ≤ t → no_cols ≡ table_cols w d t
  columns_past h = fun_ext λ c. rw (get_or-eq_default d.columns (record { has = [] }) h) (sym (nothing (ltb t d.tables) (ltb c w)))
    where
      nothing : (a b : Bool) → a && (b && false) ≡ false
      nothing true true = refl
      nothing true false = refl
      nothing false b = refl

abbrev pub any_column : ℕ → Database → ℕ → Bool
any_column w d t = not (all (λ c. not (table_cols w d t c)) w)

-- a table's tests in turn
module _ (w : ℕ) (d : Database) (store : List ℕ) (t : ℕ) where
  pub without_columns : any_column w d t ≡ false → table_ok w d store t ≡ false
  unfolding table_ok
  without_columns e = rw e

  pub with_many_rows : any_column w d t ≡ true → rows_limit < row_count w d t → table_ok w d store t ≡ false
  unfolding table_ok
  with_many_rows e h = rw (e, lt-leb (row_count w d t) rows_limit h)

  module _ (some : any_column w d t ≡ true) (few : row_count w d t ≤ rows_limit) where
    pub without_room : length store < table_start w d t + w * row_count w d t → table_ok w d store t ≡ false
    unfolding table_ok
    without_room h = rw (some, le-leb (row_count w d t) rows_limit few, lt-leb (table_start w d t + w * row_count w d t) (length store) h)

    pub with_room_lem : table_start w d t + w * row_count w d t ≤ length store
        → table_ok w d store t ≡ every (absent_zero w (table_cols w d t)) (table_rows w d store t) && ascend (table_rows w d store t)
    unfolding table_ok
    with_room_lem h = rw (some, le-leb (row_count w d t) rows_limit few, le-leb (table_start w d t + w * row_count w d t) (length store) h)
