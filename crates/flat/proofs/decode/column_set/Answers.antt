-- The bits below c are taken, and the rest is what is left of the number above them.
use borrow.Author.Tests.{eq-eqb, ne_eqb}
use native.Mathlib.Omega.{arith}
use Prim.Native.Nat.{ℕ, ◌+◌, ◌/◌, ◌%◌, ◌^◌}
use native.Mathlib.Nat.{div-div-eq-div-mul, pow-suc}
use native.Mathlib.Numerals.{add-one}
use mathlib.Core.Path.{◌≡◌, ap, sym, ◌∙◌}
use mathlib.Core.Bool.{Bool, false}
use mathlib.Core.List.{List}
use lib.Dec.{eqb}
use Rattle.laws.specs.Lists.{when◌then◌else◌}
use Rattle.laws.proofs.Indexed.{Written, written_more, written_all}
use Rattle.algebra.specs.Columns.{no_cols}
use Rattle.relation.specs.declared.Columns.{Columns}
use Rattle.relation.specs.Rows.{columns, columns_of}
use Rattle.flat.specs.Flat.{bit, column_set}
use Rattle.flat.proofs.decode.column_set.Goals as goal

halved : (bits c rest : ℕ) → rest ≡ bits / 2 ^ c → rest / 2 ≡ bits / 2 ^ (c + 1)
halved bits c rest e = ap (λ x. x / 2) e ∙ div-div-eq-div-mul bits (2 ^ c) 2 ∙ ap (λ x. bits / x) (sym (pow-suc 2 c) ∙ ap (λ n. 2 ^ n) (sym (add-one c)))

pub loop-c-preserved : goal.loop-c-preserved
loop-c-preserved c = (
  omega arith,
  halved c.args.bits c.loop-c.c c.loop-c.rest c.loop-c.invariant.1,
  written_more c.loop-c.c (eqb (c.loop-c.rest % 2) 1) c.loop-c.invariant.2 (omega arith) (ap (λ x. eqb (x % 2) 1) c.loop-c.invariant.1),
)

-- the loop's end
module _ (bits c rest : ℕ) (set : List Bool) (last : c ≡ columns) (e : rest ≡ bits / 2 ^ c) (w : Written false (bit bits) columns set c) where
  all_read : ◌≡◌ {A = Columns} (record { has = set }) (columns_of columns (bit bits))
  all_read = ap (λ (l : List Bool). record { has = l }) (written_all (rw last at w))

  above : rest ≡ bits / 2 ^ columns
  above = e ∙ ap (λ n. bits / 2 ^ n) last

  fits : rest ≡ 0 → ◌≡◌ {A = Columns} (record { has = set }) (column_set columns bits)
  fits h = all_read ∙ sym (ap (λ t. when t then columns_of columns (bit bits) else columns_of columns no_cols) (eq-eqb (bits / 2 ^ columns) 0 (sym above ∙ h)))

  too_high : (rest ≡ 0 → ⊥) → columns_of columns no_cols ≡ column_set columns bits
  too_high h =
      sym (ap (λ t. when t then columns_of columns (bit bits) else columns_of columns no_cols) (ne_eqb (bits / 2 ^ columns) 0 (λ z. h (above ∙ z))))

pub returns-then-rest-eq0 : goal.returns-then-rest-eq0
returns-then-rest-eq0 c =
    fits c.args.bits c.loop-c.c c.loop-c.rest c.loop-c.set.has (omega arith) c.loop-c.invariant.1 c.loop-c.invariant.2 c.if-rest-eq0.true

pub returns : goal.returns
returns c =
    c.no_columns.ensures
    ∙ too_high c.args.bits c.loop-c.c c.loop-c.rest c.loop-c.set.has (omega arith) c.loop-c.invariant.1 c.loop-c.invariant.2
    c.if-rest-eq0.false
