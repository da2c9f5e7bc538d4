-- The second pass without a fault: what it says of a term's parts and of their columns. On columns below the width its tests, which
-- look below the width, compare whole sets.
use mathlib.Core.Path.{◌≡◌, refl, ap, sym, ◌∙◌, fun_ext}
use mathlib.Core.Bool.{true, false}
use mathlib.Core.List.{[]}
use mathlib.Core.Logic.{inl, inr, ◌↔◌}
use Prim.Native.Nat.{ℕ, ◌+◌, ◌<◌}
use native.Mathlib.Decide.{dec_lt}
use Rattle.laws.specs.Lists.{◌iff◌}
use Rattle.laws.proofs.Lists.{all_below, all_true}
use Rattle.laws.proofs.EmptyLists.{agree_iff, append_none, true_or_false}
use Rattle.algebra.specs.declared.Pairing.{Pairing}
use Rattle.algebra.specs.declared.Pairing.TheVariants.{Union, Join, Except}
use Rattle.algebra.specs.Term.{Term, pair, fix}
use Rattle.algebra.specs.Columns.{Cols, Schema, cols, size}
use Rattle.algebra.specs.WellFormed.{Sides}
use Rattle.algebra.proofs.Narrow.{Below}
use Rattle.query.specs.Check.{same_cols, sides_ok, second_pass}
use Rattle.query.proofs.FirstPass.{unless_none}

-- from the width on a set below it has no column
past : (w : ℕ) (D : Cols) → Below w D → (c : ℕ) → ¬ (c < w) → D c ≡ false
past w D h c k = elim (true_or_false (D c)) [ inl e ↦ absurd (k (h c e)) | inr e ↦ e ]

pub cols_same : (w : ℕ) (D E : Cols) → Below w D → Below w E → same_cols w D E ≡ true → D ≡ E
cols_same w D E h k e = fun_ext λ c. elim (dec_lt c w) [
  | yes i ↦ (agree_iff (D c) (E c)).0 (all_below (λ c. D c iff E c) w e c i)
  | no i ↦ past w D h c i ∙ sym (past w E k c i)
]

pub same_cols_lem : (w : ℕ) {D E : Cols} → D ≡ E → same_cols w D E ≡ true
same_cols_lem w {D} {E} e = all_true (λ c. D c iff E c) w (λ c _. (agree_iff (D c) (E c)).1 (ap (λ (F : Cols). F c) e))

pub sides_same : (w : ℕ) (o : Pairing) (D E : Cols) → Below w D → Below w E → sides_ok w o D E ≡ true → Sides o D E
sides_same w Union D E h k e = cols_same w D E h k e
sides_same w Join D E h k e = tt
sides_same w Except D E h k e = tt

pub same_sides : (w : ℕ) (o : Pairing) (D E : Cols) → Sides o D E → sides_ok w o D E ≡ true
same_sides w Union D E e = same_cols_lem w e
same_sides w Join D E e = refl
same_sides w Except D E e = refl

module _ (G : Schema) (C : Cols) (n : ℕ) where
  -- a pair without a fault: its sides have none, nor has its line
  pub pair_columns_lem : (o : Pairing) (a b : Term) → (second_pass G (pair o a b) C n ≡ [])
      ↔ ((second_pass G a C n ≡ []) × (second_pass G b C (n + size a) ≡ []) × (sides_ok G.width o (cols G C a) (cols G C b) ≡ true))
  unfolding second_pass
  pair_columns_lem o a b = (
    (λ e.
        let (i, e') = (append_none (second_pass G a C n) _).0 e in
        let (j, k) = (append_none (second_pass G b C (n + size a)) _).0 e' in
        (i, j, (unless_none _ _).0 k)),
    (λ (i, j, k). (append_none _ _).1 (i, (append_none _ _).1 (j, (unless_none _ _).1 k))),
  )

  -- the step of a fix is seen with the seed's columns
  pub fix_columns : (v : ℕ) (a b : Term) → (second_pass G (fix v a b) C n ≡ [])
      ↔ ((second_pass G a C n ≡ []) × (second_pass G b (cols G C a) (n + size a) ≡ [])
      × (same_cols G.width (cols G (cols G C a) b) (cols G C a) ≡ true))
  unfolding second_pass
  fix_columns v a b = (
    (λ e.
        let (i, e') = (append_none (second_pass G a C n) _).0 e in
        let (j, k) = (append_none (second_pass G b (cols G C a) (n + size a)) _).0 e' in
        (i, j, (unless_none _ _).0 k)),
    (λ (i, j, k). (append_none _ _).1 (i, (append_none _ _).1 (j, (unless_none _ _).1 k))),
  )
