-- A stored book: its tables' rows, its columns, and the test that it is on the form (11). w is the number of columns.
use Rattle.std.specs.Prelude.{◌≡◌, Bool, not, ◌&&◌, List, [], ℕ, zero, suc, ◌+◌, ◌*◌, ◌<◌, leb, ltb, get_or, drop, length}
use Rattle.std.specs.Prelude.{Some, None}
use Rattle.laws.specs.Lists.{all, lowest, every}
use Rattle.algebra.specs.Term.{Environment}
use Rattle.algebra.specs.Columns.{Cols, Schema}
use Rattle.relation.specs.Rows.{Rows, cols_of, ascend, absent_zero, rows_of, relation}
use Rattle.database.specs.declared.Database.{Database}
use Rattle.database.specs.declared.Refusal.TheVariants.{DatabaseForm}
use Rattle.database.specs.Refusals.{Reply, refused, accepted, require, ◌>>=◌}

-- "tables and variables 0–15"
abbrev pub table_limit : ℕ
table_limit = 16

-- "rows=R (0–4,096)"
abbrev pub rows_limit : ℕ
rows_limit = 4096

module _ (w : ℕ) (d : Database) where
  -- the columns of table t; a table that isn't in the book has none
  abbrev pub table_cols : ℕ → Cols
  table_cols t c = ltb t d.tables && cols_of w (get_or d.columns t (record { has = [] })) c

  abbrev pub row_count : ℕ → ℕ
  row_count t = get_or d.rows t 0

  -- the entries of the tables before t: where t's rows begin
  unfoldable pub table_start : ℕ → ℕ
  table_start zero = 0
  table_start (suc t) = table_start t + w * row_count t

  -- "A book's columns: as many tables, those of one number having the same columns"
  abbrev pub schema : Schema
  schema = record { width = w; tables = d.tables; columns = table_cols }

  module _ (store : List ℕ) where
    -- "Stored rows take 8 slots, one per column"
    abbrev pub table_rows : ℕ → Rows
    table_rows t = rows_of w (row_count t) (drop (table_start t) store)

    -- the relations that the tables hold
    abbrev pub tables : Environment
    tables t = relation (table_cols t) (table_rows t)

    -- table t has a column, not too many rows, all its entries, absent slots 0, and rows that strictly ascend
    unfoldable pub table_ok : ℕ → Bool
    table_ok t =
        not (all (λ c. not (table_cols t c)) w) && leb (row_count t) rows_limit
        && leb (table_start t + w * row_count t) (length store)
        && every (absent_zero w (table_cols t)) (table_rows t) && ascend (table_rows t)

    -- "a stored book gets 11 with its table number, or 16 for its table count"
    unfoldable pub check_database : Reply (Unit {0})
    check_database = do
      _ ← require (leb d.tables table_limit) (DatabaseForm table_limit)
      elim (lowest table_ok d.tables) [ None ↦ accepted tt | Some t ↦ refused (DatabaseForm t) ]

-- a stored book "has that book's columns: as many tables, those of one number having the same columns"
pub record SameColumns (w : ℕ) (d e : Database) : Type 0 where
  pub count : d.tables ≡ e.tables
  pub columns : (t : ℕ) → t < d.tables → (c : ℕ) → table_cols w d t c ≡ table_cols w e t c
