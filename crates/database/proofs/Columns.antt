-- Two books with the same columns have one schema.
use mathlib.Core.Path.{◌≡◌, refl, ap, sym, ◌∙◌, fun_ext}
use mathlib.Core.Bool.{Bool, true, false}
use Prim.Native.Nat.{ℕ}
use lib.Dec.{ltb}
use borrow.Author.Tests.{ltb-true}
use Rattle.algebra.specs.Columns.{Cols}
use Rattle.database.specs.declared.Database.{Database}
use Rattle.database.specs.Stored.{table_cols, schema, SameColumns}

-- a table outside both books has no columns in either
table_same : (w : ℕ) (d e : Database) → SameColumns w d e → (t c : ℕ) → table_cols w d t c ≡ table_cols w e t c
table_same w d e s t c = by_test (ltb t d.tables) refl
  where
    by_test : (b : Bool) → ltb t d.tables ≡ b → table_cols w d t c ≡ table_cols w e t c
    by_test true i = s.columns t (ltb-true t d.tables i) c
    by_test false i = outside d i ∙ sym (outside e (ap (ltb t) (sym s.count) ∙ i))
      where
        outside : (f : Database) → ltb t f.tables ≡ false → table_cols w f t c ≡ false
        outside f j = rw j

pub same_schema : (w : ℕ) (d e : Database) → SameColumns w d e → schema w d ≡ schema w e
same_schema w d e s = λ i. record { width = w; tables = s.count i; columns = columns i }
  where
    columns : ◌≡◌ {A = ℕ → Cols} (table_cols w d) (table_cols w e)
    columns = fun_ext λ t. fun_ext λ c. table_same w d e s t c
