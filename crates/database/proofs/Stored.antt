-- A stored book: what its test says, and that the rows of a tested book show its tables. w is the number of columns.
use mathlib.Core.Path.{◌≡◌}
use mathlib.Core.Bool.{true, false}
use mathlib.Core.Logic.{◌⊎◌, inl, inr, ◌↔◌}
use mathlib.Core.List.{List, []}
use Prim.Native.Nat.{ℕ, ◌≤◌, ◌<◌}
use lib.Dec.{leb, ltb}
use lib.ListN.{get_or}
use borrow.Author.Tests.{leb-true, leb-false, le-leb, lt-leb}
use Rattle.laws.specs.Lists.{lowest}
use Rattle.laws.proofs.Tests.{and_true_right}
use Rattle.laws.proofs.Tabulated.{lowest_none, lowest_some}
use Rattle.algebra.proofs.Domain.{TypedTables}
use Rattle.algebra.proofs.Narrow.{Below}
use Rattle.relation.specs.declared.Columns.{Columns}
use Rattle.relation.specs.Rows.{cols_of}
use Rattle.relation.specs.Shows.{Shows}
use Rattle.relation.proofs.RowMappings.{mapping_domain}
use Rattle.relation.proofs.ColumnsRound.{cols_of_below}
use Rattle.database.specs.declared.Database.{Database}
use Rattle.database.specs.declared.Refusal.{Refusal}
use Rattle.database.specs.declared.Refusal.TheVariants.{DatabaseForm}
use Rattle.database.specs.Refusals.{refused, accepted}
use Rattle.database.specs.Stored.{table_limit, table_cols, schema, table_rows, tables, table_ok, check_database}
use Rattle.database.proofs.Tested.{replied_accepted, replied_refused, table_shows}

-- a table's columns lie below w
pub table_below : (w : ℕ) (d : Database) (t : ℕ) → Below w (table_cols w d t)
table_below w d t c e =
    let s : Columns = get_or d.columns t (record { has = [] }) in
    cols_of_below w s c (and_true_right (ltb t d.tables) (cols_of w s c) e)

-- tested or not, each mapping of a table has exactly the table's columns
pub typed_tables : (w : ℕ) (d : Database) (store : List ℕ) → TypedTables (schema w d) (tables w d store)
typed_tables w d store t h m (r, _, e) = rw e (mapping_domain (table_cols w d t) r)

module _ (w : ℕ) (d : Database) (store : List ℕ) where
  -- a book is accepted exactly if it has not too many tables and each is on the form
  pub check_database_iff : (check_database w d store ≡ accepted tt)
      ↔ ((d.tables ≤ table_limit) × ((t : ℕ) → t < d.tables → table_ok w d store t ≡ true))
  unfolding check_database
  check_database_iff =
      let (f, g) = replied_accepted (leb d.tables table_limit) (lowest (table_ok w d store) d.tables) in
      let (h, k) = lowest_none (table_ok w d store) d.tables in
      (λ e. let (i, j) = f e in (leb-true d.tables table_limit i, h j), λ (i, j). g (le-leb d.tables table_limit i, k j))

  -- it is refused with the table limit if it has too many tables, and otherwise with the lowest table that is off the form
  pub check_database_refused : (r : Refusal) → (check_database w d store ≡ refused r)
      ↔ (((table_limit < d.tables) × (r ≡ DatabaseForm table_limit))
      ⊎ ((t : ℕ) × (d.tables ≤ table_limit) × (t < d.tables) × (table_ok w d store t ≡ false)
      × ((u : ℕ) → u < t → table_ok w d store u ≡ true) × (r ≡ DatabaseForm t)))
  unfolding check_database
  check_database_refused r =
      let (f, g) = replied_refused (leb d.tables table_limit) (lowest (table_ok w d store) d.tables) r in
      let found = lowest_some (table_ok w d store) d.tables in (
        λ e. elim (f e) [
          | inl (i, j) ↦ inl (leb-false d.tables table_limit i, j)
          | inr (t, i, l, j) ↦ let (a, b, c) = (found t).0 l in inr (t, leb-true d.tables table_limit i, a, b, c, j)
        ],
        elim [
          | inl (i, j) ↦ g (inl (lt-leb d.tables table_limit i, j))
          | inr (t, i, a, b, c, j) ↦ g (inr (t, le-leb d.tables table_limit i, (found t).1 (a, b, c), j))
        ],
      )

  -- the rows of each table of an accepted book show the table
  pub stored_shows : check_database w d store ≡ accepted tt → (t : ℕ) → t < d.tables
      → Shows w (table_cols w d t) (table_rows w d store t) (tables w d store t)
  stored_shows e t h = table_shows w d store t ((check_database_iff.0 e).1 t h)
