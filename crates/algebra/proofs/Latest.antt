-- U9, what a `last` keeps: no two rows that agree in every other column; of rows without another column the greatest; and "adding rows can remove its results".
use mathlib.Core.Path.{◌≡◌, refl, ap, sym, ◌∙◌, fun_ext}
use mathlib.Core.Bool.{Bool, true, false}
use Rattle.std.specs.Prelude.{Some, None}
use mathlib.Core.Logic.{◌⊎◌, inl, inr, ◌≢◌, ◌↔◌}
use Prim.Native.Nat.{ℕ, ◌≤◌, ◌<◌}
use native.Mathlib.Omega.{arith}
use lib.Dec.{eqb, ltb}
use borrow.Author.Tests.{ltb-true, ltb-false}
use Rattle.laws.proofs.Tests.{same?, eqb_self}
use Rattle.laws.proofs.Options.{some_inj}
use Rattle.algebra.specs.Mapping.{Mapping, Relation, put, nothing}
use Rattle.algebra.specs.Term.{Outdone, latest}
use Rattle.algebra.proofs.Mappings.{Within}

module _ (c : ℕ) (R : Relation) where
  kept_low : (m x : Mapping) (a b : ℕ) → latest c R m → R x → ((e : ℕ) → e ≢ c → x e ≡ m e) → m c ≡ Some a → x c ≡ Some b → b ≤ a
  unfolding latest Outdone
  kept_low m x a b (_, n) r s i j = by_test (ltb a b) refl
    where
      by_test : (t : Bool) → ltb a b ≡ t → b ≤ a
      by_test true e = absurd (n x r (s, a, b, i, j, ltb-true a b e))
      by_test false e = ltb-false a b e

  -- ties are impossible: two rows that are kept and agree in every other column are one
  pub latest_unique : (m x : Mapping) (a b : ℕ) → latest c R m → latest c R x → ((e : ℕ) → e ≢ c → x e ≡ m e) → m c ≡ Some a → x c ≡ Some b → x ≡ m
  unfolding latest
  latest_unique m x a b k l s i j =
      let h = kept_low m x a b k l.0 s i j in
      let g = kept_low x m b a l k.0 (λ e n. sym (s e n)) j i in
      let same : b ≡ a = omega arith in
      fun_ext λ e. elim (same? e c) [ inl (p, _) ↦ ap x p ∙ j ∙ ap Some same ∙ sym i ∙ ap m (sym p) | inr (p, _) ↦ s e p ]

  -- where the rows have no other column, the one greatest is kept
  pub latest_alone : ((x : Mapping) → R x → (e : ℕ) → e ≢ c → x e ≡ None) → (m : Mapping) (a : ℕ) → m c ≡ Some a
      → latest c R m ↔ (R m × ((x : Mapping) (b : ℕ) → R x → x c ≡ Some b → b ≤ a))
  unfolding latest Outdone
  latest_alone only m a i = (
    (λ (r, n). (r, λ x b s j. kept_low m x a b (r, n) s (λ e p. only x s e p ∙ sym (only m r e p)) i j)),
    (λ (r, h). (r, λ x s (_, a', b, i', j, l). let k = h x b s j in let e : a' ≡ a = some_inj (sym i' ∙ i) in let z : ⊥ = omega arith in z)),
  )

-- a row that is kept goes once another is added
pub adding_removes : (c : ℕ) → (R : Relation) × (R' : Relation) × (m : Mapping) × Within R R' × latest c R m × (latest c R' m → ⊥)
unfolding latest Outdone put
adding_removes c = (
  (λ m. m ≡ one 0),
  (λ m. (m ≡ one 0) ⊎ (m ≡ one 1)),
  one 0,
  (λ m e. inl e),
  (refl, λ x e (_, a, b, i, j, l). let k : a ≡ b = some_inj (sym i ∙ ap (λ (y : Mapping). y c) (sym e) ∙ j) in let z : ⊥ = omega arith in z),
  λ (_, n). n (one 1) (inr refl) ((λ e p. elsewhere e p), 0, 1, at 0, at 1, omega arith),
)
  where
    one : ℕ → Mapping
    one v = put nothing c (Some v)

    at : (v : ℕ) → put nothing c (Some v) c ≡ Some v
    at v = rw (eqb_self c)

    elsewhere : (e : ℕ) → e ≢ c → put nothing c (Some 1) e ≡ put nothing c (Some 0) e
    elsewhere e p = elim (same? e c) [ inl (q, _) ↦ absurd (p q) | inr (_, q) ↦ rw q ]
