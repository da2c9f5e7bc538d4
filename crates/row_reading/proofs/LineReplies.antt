-- What is replied of the lines `cols=` and `row=`, from the numbers that were read. w is the number of columns.
use mathlib.Core.Path.{◌≡◌, refl, ap, sym, ◌∙◌}
use mathlib.Core.Bool.{Bool, true, false}
use Rattle.std.specs.Prelude.{Option, Some, None}
use mathlib.Core.List.{List}
use Prim.Native.Nat.{ℕ, ◌≤◌}
use native.Mathlib.Omega.{arith}
use lib.Dec.{leb}
use lib.ListN.{length, replicate}
use borrow.Author.Tests.{leb-true, leb-false, eq-eqb, ne_eqb}
use Rattle.laws.specs.Lists.{when◌then◌else◌}
use Rattle.laws.specs.Options.{mapped}
use Rattle.laws.proofs.Options.{none_some, some_inj}
use Rattle.relation.specs.declared.Row.{Row}
use Rattle.relation.specs.Rows.{columns}
use Rattle.text.specs.declared.line_reader.Cursor.{Cursor}
use Rattle.text.specs.Numbers.{bytes}
use Rattle.text.specs.Lines.{in_range, cols_line, filled, row_of}
use Rattle.text.specs.Readings.{numbers_behind}
use Rattle.text.proofs.ReaderLawsForms.{numbers_behind_lem}
use Rattle.row_reading.specs.declared.list_reader.Numbers.{Numbers}
use Rattle.row_reading.specs.NumberArrays.{numbers_of, listed, few}
use Rattle.row_reading.specs.RowReading.{as_row, values_row, cols_due, row_due}
use Rattle.row_reading.proofs.NumberLists.{listed_of}
use Rattle.row_reading.proofs.RowLists.{columns_in, cols_few}

-- a list as an array: the array is the list read, and has as many numbers
pub record Held (o : Option (List ℕ)) (ns : Numbers) : Type 0 where
  pub read : o ≡ Some (listed ns)
  pub same : numbers_of (listed ns) ≡ ns
  pub counted : ns.count ≡ length (listed ns)

pub held : (o : Option (List ℕ)) (ns : Numbers) → Some ns ≡ mapped numbers_of o → Held o ns
held None ns e = none_some (sym e)
held (Some l) ns e =
    let same : ns ≡ numbers_of l = some_inj e in
    let is : listed ns ≡ l = ap listed same ∙ listed_of l in
    record { read = ap Some (sym is); same = ap numbers_of is ∙ sym same; counted = ap (λ (n : Numbers). n.count) same ∙ ap length (sym is) }

-- a short list is the list
pub few_read : (w : ℕ) (o : Option (List ℕ)) (l : List ℕ) → few w o ≡ Some l → (o ≡ Some l) × (length l ≤ w)
few_read w None l e = none_some e
few_read w (Some m) l e = by_test (leb (length m) w) refl e
  where
    by_test : (t : Bool) → leb (length m) w ≡ t → (when t then Some m else None) ≡ Some l → (Some m ≡ Some l) × (length l ≤ w)
    by_test true q e = let is : m ≡ l = some_inj e in (e, rw (← is) (leb-true (length m) w q))
    by_test false q e = none_some e

-- the columns of a `cols=` line
pub cols_form : (w : ℕ) (l : List ℕ) → cols_line w l ≡ in_range (columns_in w) (few w (numbers_behind (bytes "cols=") l))
cols_form w l = sym (cols_few w (numbers_behind (bytes "cols=") l) ∙ sym (ap (in_range (columns_in w)) (numbers_behind_lem "cols=" l)))

-- the row of a `row=` line: as many values as there are columns
pub values_none : (w : ℕ) (cs : List ℕ) (o : Option (List ℕ)) → few w o ≡ None → length cs ≤ w → row_of w cs o ≡ None
values_none w cs None e h = refl
values_none w cs (Some l) e h = by_test (leb (length l) w) refl e
  where
    by_test : (t : Bool) → leb (length l) w ≡ t → (when t then Some l else None) ≡ None → row_of w cs (Some l) ≡ None
    by_test true q e = none_some (sym e)
    by_test false q e =
        ap (λ t. when t then Some (filled (replicate w 0) cs l) else None)
        (ne_eqb (length l) (length cs) (λ s. let k = leb-false (length l) w q in omega arith))

module _ (w : ℕ) (cs vs : List ℕ) where
  pub values_other : (length vs ≡ length cs → ⊥) → row_of w cs (Some vs) ≡ None
  values_other h = ap (λ t. when t then Some (filled (replicate w 0) cs vs) else None) (ne_eqb (length vs) (length cs) h)

  pub values_same : length vs ≡ length cs → row_of w cs (Some vs) ≡ Some (filled (replicate w 0) cs vs)
  values_same h = ap (λ t. when t then Some (filled (replicate w 0) cs vs) else None) (eq-eqb (length vs) (length cs) h)

pub values_form : (cs l : List ℕ) → values_row columns cs l ≡ row_of columns cs (numbers_behind (bytes "row=") l)
values_form cs l = ap (row_of columns cs) (numbers_behind_lem "row=" l)

-- the row that a reply tells of
pub row_held : (o : Option (List ℕ)) (r : Row) → Some r ≡ mapped as_row o → o ≡ Some r.slots
row_held None r e = none_some (sym e)
row_held (Some s) r e = ap (λ (r : Row). Some r.slots) (sym (some_inj e))

-- what is read of a line, with the cursor behind it
pub cols_behind : (c : Cursor) (o : Option (List ℕ)) → mapped (λ ns. (ns, c)) (mapped numbers_of o) ≡ cols_due (mapped (λ l. (l, c)) o)
cols_behind c None = refl
cols_behind c (Some l) = refl

pub row_behind : (c : Cursor) (o : Option (List ℕ)) → mapped (λ r. (r, c)) (mapped as_row o) ≡ row_due (mapped (λ l. (l, c)) o)
row_behind c None = refl
row_behind c (Some l) = refl
