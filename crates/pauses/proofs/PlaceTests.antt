-- The test of one register: of one that is to be zero, and of one with columns.
use mathlib.Core.Path.{◌≡◌, ap, ap₂, sym, ◌∙◌}
use mathlib.Core.Bool.{Bool, ◌&&◌}
use Rattle.std.specs.Prelude.{Some, None}
use mathlib.Core.List.{List}
use Prim.Native.Nat.{ℕ, zero, suc, ◌+◌, ◌-◌, ◌*◌}
use native.Mathlib.Omega.{arith}
use native.Mathlib.Nat.{add-zero, mul-zero, sub-zero}
use lib.Dec.{eqb, leb}
use lib.ListN.{length, get_or, drop}
use borrow.Author.Tests.{ne_eqb}
use Rattle.laws.specs.Lists.{null, all, every}
use Rattle.laws.proofs.Indexed.{and_assoc, all_sum}
use Rattle.laws.proofs.Passes.{all_same}
use Rattle.algebra.specs.Columns.{Cols}
use Rattle.relation.specs.Rows.{ascend, absent_zero, rows_of}
use Rattle.relation.specs.Registers.{stretch}
use Rattle.relation.proofs.Entries.{rows_of_length}
use Rattle.pauses.specs.Places.{zeros, count_at, rows_at, place_ok}

-- the entries of two parts, one behind the other
pub zeros_sum : (ws : List ℕ) (start a b : ℕ) → zeros ws start (a + b) ≡ zeros ws start a && zeros ws (start + a) b
zeros_sum ws start a b =
    all_sum (λ i. eqb (get_or ws (start + i) 0) 0) a b
    ∙ ap (λ (t : Bool). zeros ws start a && t) (all_same _ _ b λ i _. ap (λ (k : ℕ). eqb (get_or ws k 0) 0) (omega arith))

module _ (w L : ℕ) (ws : List ℕ) (i : ℕ) where
  abbrev start : ℕ
  start = stretch w L * i

  -- what is behind the rows
  abbrev pub rest_ok : Bool
  rest_ok = zeros ws (start + 1 + w * count_at w L ws i) (w * (L - count_at w L ws i))

  pub place_none : zeros ws start (stretch w L) ≡ place_ok w L ws None i
  unfolding place_ok rows_of all
  place_none = zeros_sum ws start 1 (w * L) ∙ ap (λ (b : Bool). b && zeros ws (start + 1) (w * L)) first ∙ by_count (count_at w L ws i)
    where
      first : zeros ws start 1 ≡ eqb (count_at w L ws i) 0
      first = ap (λ (k : ℕ). eqb (get_or ws k 0) 0) (add-zero start)

      by_count : (n : ℕ) → eqb n 0 && zeros ws (start + 1) (w * L)
          ≡ null (rows_of w n (drop (start + 1) ws)) && zeros ws (start + 1 + w * n) (w * (L - n))
      by_count zero = ap₂ (zeros ws) {x = start + 1} {y = start + 1 + w * 0} (omega (arith, mul-zero w)) (ap (λ (k : ℕ). w * k) (sym (sub-zero L)))
      by_count (suc n) = rw (ne_eqb (suc n) 0 (λ e. omega arith))

  pub place_some : (D : Cols) → place_ok w L ws (Some D) i
      ≡ leb (count_at w L ws i) L && ((every (absent_zero w D) (rows_at w L ws i) && ascend (rows_at w L ws i)) && rest_ok)
  unfolding place_ok
  place_some D =
      and_assoc (leb (length (rows_at w L ws i)) L) (every (absent_zero w D) (rows_at w L ws i) && ascend (rows_at w L ws i)) rest_ok
      ∙ ap (λ (n : ℕ). leb n L && ((every (absent_zero w D) (rows_at w L ws i) && ascend (rows_at w L ws i)) && rest_ok))
      (rows_of_length w (count_at w L ws i) (drop (start + 1) ws))
