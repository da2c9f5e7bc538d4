-- The lines `cols=` and `row=` are read exactly.
use mathlib.Core.Path.{◌≡◌, refl, ap, sym, ◌∙◌, subst}
use mathlib.Core.Bool.{true, false, ◌&&◌}
use Rattle.std.specs.Prelude.{Option, Some, None}
use mathlib.Core.List.{List, [], ◌∷◌, ◌++◌, map}
use Prim.Native.Nat.{ℕ}
use lib.Dec.{eqb, ltb}
use lib.ListN.{length, replicate, length-map, length-replicate}
use borrow.Author.Tests.{eq-eqb, eqb-true}
use Rattle.laws.specs.Lists.{every, member, null}
use Rattle.laws.proofs.Options.{none_some}
use Rattle.laws.proofs.Tests.{and_true}
use Rattle.laws.proofs.EachMember.{both_true, kept}
use Rattle.relation.specs.Rows.{Row, slot}
use Rattle.relation.specs.Shows.{Shaped}
use Rattle.text.specs.Numbers.{bytes, comma_digits}
use Rattle.text.specs.Lines.{numbers_after, ascending, cols_line, filled, follows, row_of, row_line}
use Rattle.text.proofs.NumberLists.{AllSmall}
use Rattle.text.proofs.Forms.{plain, key_numbers_unbroken, numbers_after_lem, after_numbers, in_range_lem, range_in}
use Rattle.text.proofs.Filled.{filled_length, filled_other, filled_slots, zeros_zero, filled_own}
use Rattle.text.proofs.Exact.{ExactLine}

-- the columns of a table over w columns
pub record GoodColumns (w : ℕ) (cs : List ℕ) : Type 0 where
  pub some_column : null cs ≡ false
  pub ascends : ascending cs ≡ true
  pub below : every (λ c. ltb c w) cs ≡ true
  pub small : AllSmall cs

-- a row of a table with these columns
pub record GoodRow (w : ℕ) (cs : List ℕ) (r : Row) : Type 0 where
  pub shaped : Shaped w (λ c. member c cs) r
  pub small : AllSmall (map (slot r) cs)

pub cols_exact : (w : ℕ) → ExactLine (cols_line w) (λ cs. bytes "cols=" ++ comma_digits cs) (GoodColumns w)
unfolding plain every bytes
cols_exact w = record {
  reads = λ cs h. range_in (λ cs. ascending cs && every (λ c. ltb c w) cs) (numbers_after "cols=" (bytes "cols=" ++ comma_digits cs)) cs
      (numbers_after_lem "cols=" (bytes "cols=" ++ comma_digits cs) cs h.some_column h.small refl) (and_true _ _ h.ascends h.below);
  unbroken = λ cs _. key_numbers_unbroken "cols=" refl cs;
  printed = λ l cs e.
      let (read, t) = in_range_lem (λ cs. ascending cs && every (λ c. ltb c w) cs) (numbers_after "cols=" l) cs e in
      let (line, filled, small) = after_numbers "cols=" l cs read in
      let (ascends, below) = both_true (ascending cs) (every (λ c. ltb c w) cs) t in
      (line, record { some_column = filled; ascends = ascends; below = below; small = small });
}

row_of_lem : (w : ℕ) (cs : List ℕ) (o : Option (List ℕ)) (r : Row) → row_of w cs o ≡ Some r
    → (vs : List ℕ) × (o ≡ Some vs) × (length vs ≡ length cs) × (filled (replicate w 0) cs vs ≡ r)
row_of_lem w cs None r e = none_some e
row_of_lem w cs (Some vs) r e = let (t, f) = kept (eqb (length vs) (length cs)) e in (vs, refl, eqb-true (length vs) (length cs) t, f)

filled_good : (w : ℕ) (cs vs : List ℕ) → GoodColumns w cs → length vs ≡ length cs → AllSmall vs
    → (map (slot (filled (replicate w 0) cs vs)) cs ≡ vs) × GoodRow w cs (filled (replicate w 0) cs vs)
filled_good w cs vs g e s =
    let size = length-replicate {A = ℕ} w 0 in
    let slots = filled_slots w (replicate w 0) cs vs size g.ascends g.below e in (
      slots,
      record {
        shaped = record {
          slots = filled_length (replicate w 0) cs vs ∙ size;
          absent = λ c m. filled_other (replicate w 0) cs vs c m ∙ zeros_zero w c;
        };
        small = rw slots s;
      },
    )

null_map : (f : ℕ → ℕ) (l : List ℕ) → null l ≡ false → null (map f l) ≡ false
null_map f [] e = e
null_map f (n ∷ l) e = refl

row_plain : plain (bytes "row=") ≡ true
unfolding plain every bytes
row_plain = refl

module _ (w : ℕ) (cs : List ℕ) (g : GoodColumns w cs) (above : Option Row) where
  row_read : (r : Row) → GoodRow w cs r → follows above r ≡ true → row_line w cs above (bytes "row=" ++ comma_digits (map (slot r) cs)) ≡ Some r
  unfolding row_line
  row_read r h f =
      let line = bytes "row=" ++ comma_digits (map (slot r) cs) in
      let values = numbers_after_lem "row=" line (map (slot r) cs) (null_map (slot r) cs g.some_column) h.small refl in
      let as_many = eq-eqb (length (map (slot r) cs)) (length cs) (length-map cs (slot r)) in
      range_in (follows above) (row_of w cs (numbers_after "row=" line)) r (rw (values, as_many) (ap Some (filled_own w cs r h.shaped))) f

  row_printed : (l : List ℕ) (r : Row) → row_line w cs above l ≡ Some r
      → (bytes "row=" ++ comma_digits (map (slot r) cs) ≡ l) × (GoodRow w cs r × (follows above r ≡ true))
  unfolding row_line
  row_printed l r e =
      let (read, after) = in_range_lem (follows above) (row_of w cs (numbers_after "row=" l)) r e in
      let (vs, values, as_many, made) = row_of_lem w cs (numbers_after "row=" l) r read in
      let (line, _, small) = after_numbers "row=" l vs values in
      let (slots, good) = filled_good w cs vs g as_many small in (
        ap (λ r. bytes "row=" ++ comma_digits (map (slot r) cs)) (sym made) ∙ ap (λ vs. bytes "row=" ++ comma_digits vs) slots ∙ line,
        (subst (GoodRow w cs) made good, after),
      )

  pub row_exact : ExactLine (row_line w cs above) (λ r. bytes "row=" ++ comma_digits (map (slot r) cs)) (λ r. GoodRow w cs r × (follows above r ≡ true))
  row_exact = record {
    reads = λ r (h, f). row_read r h f;
    unbroken = λ r _. key_numbers_unbroken "row=" row_plain (map (slot r) cs);
    printed = row_printed;
  }
