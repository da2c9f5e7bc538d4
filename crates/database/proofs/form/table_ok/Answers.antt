-- Each test that fails answers; the rows are looked at last.
use native.Mathlib.Omega.{arith}
use Prim.Native.Nat.{ℕ}
use mathlib.Core.Path.{◌≡◌, ap, sym, ◌∙◌}
use mathlib.Core.Bool.{Bool, not, ◌&&◌}
use mathlib.Core.List.{List}
use lib.ListN.{drop}
use Rattle.laws.specs.Lists.{all, every}
use Rattle.algebra.specs.Columns.{Cols}
use Rattle.relation.specs.declared.Columns.{Columns}
use Rattle.relation.specs.Rows.{columns, cols_of, columns_of, absent_zero, ascend, rows_of}
use Rattle.relation.proofs.ColumnsRound.{columns_round}
use Rattle.database.specs.declared.Database.{Database}
use Rattle.database.specs.Stored.{table_cols, row_count}
use Rattle.database.proofs.Stored.{table_below}
use Rattle.database.proofs.CodeStored.{any_column, without_columns, with_many_rows, without_room, with_room_lem}
use Rattle.database.proofs.form.table_ok.Goals.{then-not-any_column-via-then-not-any_column, then-not-any_column-via-else-not-any_column+then-n-gt-TABLE_ROWS, then-not-any_column-via-else-not-any_column+else-n-gt-TABLE_ROWS+then-store-start}
use Rattle.database.proofs.form.table_ok.Goals as goal

abbrev tested : Cols → ℕ → ℕ → List ℕ → Bool
tested D n start store = every (absent_zero columns D) (rows_of columns n (drop start store)) && ascend (rows_of columns n (drop start store))

-- the set read is the table's
module _ (d : Database) (t : ℕ) {D : Columns} (is : D ≡ columns_of columns (table_cols columns d t)) where
  cols_are : cols_of columns D ≡ table_cols columns d t
  cols_are = ap (cols_of columns) is ∙ columns_round columns (table_cols columns d t) (table_below columns d t)

  any : {b : Bool} → b ≡ not (all (λ c. not (cols_of columns D c)) columns) → any_column columns d t ≡ b
  any e = ap (λ (D : Cols). not (all (λ c. not (D c)) columns)) (sym cols_are) ∙ sym e

pub returns-then-not-any_column : goal.returns-then-not-any_column
returns-then-not-any_column c =
    let own = any c.args.database c.args.t c.table_columns-cols.ensures c.any_column.ensures in
    elim c.then-not-any_column.branch [
      | then-not-any_column-via-then-not-any_column w ↦ sym (without_columns columns c.args.database c.args.store.now c.args.t (own ∙ w.if-not-any_column.true))
      | then-not-any_column-via-else-not-any_column+then-n-gt-TABLE_ROWS w ↦
          sym (with_many_rows columns c.args.database c.args.store.now c.args.t (own ∙ w.if-not-any_column.false) (omega (arith, w.if-n-gt-TABLE_ROWS.true, c.row_count-n.ensures)))
      | then-not-any_column-via-else-not-any_column+else-n-gt-TABLE_ROWS+then-store-start w ↦
          sym (without_room columns c.args.database c.args.store.now c.args.t (own ∙ w.if-not-any_column.false) (omega (arith, w.if-n-gt-TABLE_ROWS.false, c.row_count-n.ensures)) (omega (arith, w.if-store-start.true, c.row_count-n.ensures, c.requires.0)))
    ]

pub returns : goal.returns
returns c =
    let store : List ℕ = c.args.store.now in
    let some = any c.args.database c.args.t c.table_columns-cols.ensures c.any_column.ensures ∙ c.if-not-any_column.false in
    c.rows_ok.ensures
    ∙ ap (λ (D : Cols). tested D c.row_count-n.result c.args.start store) (cols_are c.args.database c.args.t c.table_columns-cols.ensures)
    ∙ ap (λ (k : ℕ). tested (table_cols columns c.args.database c.args.t) k c.args.start store) c.row_count-n.ensures
    ∙ ap (λ (k : ℕ). tested (table_cols columns c.args.database c.args.t) (row_count columns c.args.database c.args.t) k store) c.requires.0
    ∙ sym (with_room_lem columns c.args.database store c.args.t some (omega (arith, c.row_count-n.ensures)) (omega (arith, c.row_count-n.ensures, c.requires.0)))
