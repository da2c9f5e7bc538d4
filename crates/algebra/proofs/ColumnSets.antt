-- Laws of column sets.
use mathlib.Core.Path.{◌≡◌, refl, ap, sym, ◌∙◌, fun_ext}
use mathlib.Core.Bool.{Bool, true, false, ◌||◌, or_assoc, or_comm}
use mathlib.Core.Logic.{inl, inr, ◌≢◌}
use Prim.Native.Nat.{ℕ}
use lib.Dec.{eqb}
use Rattle.laws.specs.Lists.{when◌then◌else◌}
use Rattle.laws.proofs.Tests.{same?, or_swap, or_true_right}
use Rattle.algebra.specs.Columns.{Cols, with, without, both}

pub same_at_lem : {D E : Cols} → D ≡ E → (c : ℕ) → D c ≡ E c
same_at_lem e c = ap (λ (D : Cols). D c) e

pub both_comm : (D E : Cols) → both D E ≡ both E D
unfolding both
both_comm D E = fun_ext λ c. or_comm (D c) (E c)

pub both_swap : (D E O : Cols) → both (both D O) E ≡ both (both D E) O
unfolding both
both_swap D E O = fun_ext λ c. or_swap (D c) (O c) (E c)

pub both_assoc : (D E O : Cols) → both (both D E) O ≡ both D (both E O)
unfolding both
both_assoc D E O = fun_ext λ c. or_assoc (D c) (E c) (O c)

pub in_left : (D E : Cols) (c : ℕ) → D c ≡ true → both D E c ≡ true
unfolding both
in_left D E c e = rw e

pub in_right : (D E : Cols) (c : ℕ) → E c ≡ true → both D E c ≡ true
unfolding both
in_right D E c e = or_true_right (D c) (E c) e

pub in_neither : (D E : Cols) (c : ℕ) → D c ≡ false → E c ≡ false → both D E c ≡ false
unfolding both
in_neither D E c e f = rw (e, f)

pub with_both : (D O : Cols) (d : ℕ) → with (both D O) d ≡ both (with D d) O
unfolding with both
with_both D O d = fun_ext λ c. at_column (eqb c d) (D c) (O c)
  where
    at_column : (b i j : Bool) → (when b then true else i || j) ≡ (when b then true else i) || j
    at_column true i j = refl
    at_column false i j = refl

pub without_both : (D O : Cols) (d : ℕ) → O d ≡ false → without (both D O) d ≡ both (without D d) O
unfolding without both
without_both D O d e = fun_ext λ c. elim (same? c d) [ inl p ↦ rw p.1 (sym (ap O p.0 ∙ e)) | inr p ↦ rw p.1 ]

pub without_other : (D : Cols) (d c : ℕ) → c ≢ d → without D d c ≡ D c
unfolding without
without_other D d c n = elim (same? c d) [ inl p ↦ absurd (n p.0) | inr p ↦ rw p.1 ]

pub with_without : (D : Cols) (b d : ℕ) → b ≢ d → with (without D d) b ≡ without (with D b) d
unfolding without with
with_without D b d n = fun_ext λ c. elim (same? c b) [
  | inl p ↦ elim (same? c d) [ inl r ↦ absurd (n (sym p.0 ∙ r.0)) | inr r ↦ rw (p.1, r.1) ]
  | inr p ↦ rw p.1
]

pub without_without : (D : Cols) (b d : ℕ) → without (without D d) b ≡ without (without D b) d
unfolding without
without_without D b d = fun_ext λ c. at_column (eqb c b) (eqb c d) (D c)
  where
    at_column : (i j o : Bool) → (when i then false else (when j then false else o)) ≡ (when j then false else (when i then false else o))
    at_column true true o = refl
    at_column true false o = refl
    at_column false true o = refl
    at_column false false o = refl
