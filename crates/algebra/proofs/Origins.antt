-- Where the columns of a path come from: a column holds, in every row that the step gives, the value that the variable's row has at its origin.
use mathlib.Core.Path.{◌≡◌, refl, ap, sym, ◌∙◌}
use mathlib.Core.Bool.{Bool, true, false}
use Rattle.std.specs.Prelude.{Option, Some, None}
use mathlib.Core.Logic.{inl, inr}
use Prim.Native.Nat.{ℕ}
use lib.Dec.{eqb}
use borrow.Author.Tests.{eqb-true}
use Rattle.laws.specs.Lists.{when◌then◌else◌}
use Rattle.laws.proofs.Tests.{true_false, eqb_self, same?, if_same}
use Rattle.laws.proofs.Options.{none_some, some_inj}
use Rattle.algebra.specs.declared.Pairing.TheVariants.{Union, Join, Except}
use Rattle.algebra.specs.Mapping.{Mapping, Compatible, or_else, combine, put}
use Rattle.algebra.specs.Term.{Term, pair, Environment, bind, paired, meaning}
use Rattle.algebra.specs.Columns.{Cols, with, without, Schema, pair_cols, cols, agreed, pair_origin, origin, has_origin, stable}
use Rattle.algebra.specs.WellFormed.{Closed, c_table, c_fact, c_pair, c_filter, c_copy, c_drop, c_last, c_fix, Path, p_var, p_union, p_left, p_right, p_except, p_filter, p_copy, p_drop}
use Rattle.algebra.proofs.Mappings.{present, or_none, only, bind_out}
use Rattle.algebra.proofs.Domain.{Domain, domain_at}
use Rattle.algebra.proofs.ColumnSets.{in_left, in_right}

-- where both sides agree, each has what they agree on
agreed_both : (o p : Option ℕ) {b : ℕ} → agreed o p ≡ Some b → (o ≡ Some b) × (p ≡ Some b)
agreed_both None p e = none_some e
agreed_both (Some a) None e = none_some e
agreed_both (Some a) (Some c) e = elim (same? a c) [
  | inl i ↦ let g = rw i.1 at e in (g, ap Some (sym i.0) ∙ g)
  | inr i ↦ none_some (rw i.1 at e)
]

-- a closed operand's columns have no origin
pub closed_origin : {G : Schema} (C : Cols) (e : ℕ) {t : Term} → Closed G t → origin C t e ≡ None
unfolding origin pair_origin
closed_origin C e (c_table _) = refl
closed_origin C e c_fact = refl
closed_origin C e (c_pair {o = Union} p q _) = rw (closed_origin C e p)
closed_origin C e (c_pair {o = Join} p q _) = rw (closed_origin C e p) (closed_origin C e q)
closed_origin C e (c_pair {o = Except} p q _) = closed_origin C e p
closed_origin C e (c_filter p _) = closed_origin C e p
closed_origin C e (c_copy {c = c} {d = d} p _ _) = rw (closed_origin C c p, closed_origin C e p) (if_same (eqb e d) None)
closed_origin C e (c_drop {c = c} p _) = rw (closed_origin C e p) (if_same (eqb e c) None)
closed_origin C e (c_last p _) = closed_origin C e p
closed_origin C e (c_fix p q _) = refl

-- a join has its open side's origins
module _ {G : Schema} (C : Cols) where
  pub join_left_origin : (a : Term) {b : Term} → Closed G b → (e : ℕ) → origin C (pair Join a b) e ≡ origin C a e
  unfolding origin pair_origin
  join_left_origin a q e = rw (closed_origin C e q) (or_none (origin C a e))

  pub join_right_origin : {a : Term} (b : Term) → Closed G a → (e : ℕ) → origin C (pair Join a b) e ≡ origin C b e
  unfolding origin pair_origin
  join_right_origin b p e = rw (closed_origin C e p)

-- what came out of the variable
own_origin : (i : Bool) (e b : ℕ) → (when i then Some e else None) ≡ Some b → (i ≡ true) × (e ≡ b)
own_origin true e b h = (refl, some_inj h)
own_origin false e b h = none_some h

-- a column with an origin is a column of the node
pub origin_cols : {G : Schema} {v : ℕ} {C : Cols} {t : Term} → Path G v C t → (e b : ℕ) → origin C t e ≡ Some b → cols G C t e ≡ true
unfolding origin pair_origin cols pair_cols with without
origin_cols {C = C} p_var e b h = (own_origin (C e) e b h).0
origin_cols {C = C} (p_union {a = x} {b = y} p q _) e b h = origin_cols p e b (agreed_both (origin C x e) (origin C y e) h).0
origin_cols {C = C} (p_left {a = s} p q) e b h = in_left _ _ e (origin_cols p e b (sym (join_left_origin C s q e) ∙ h))
origin_cols {C = C} (p_right {b = t} p q) e b h = in_right _ _ e (origin_cols q e b (sym (join_right_origin C t p e) ∙ h))
origin_cols (p_except p q) e b h = origin_cols p e b h
origin_cols (p_filter p _) e b h = origin_cols p e b h
origin_cols (p_copy {c = c} {d = d} p _ _) e b h = elim (same? e d) [ inl i ↦ rw i.1 | inr i ↦ rw i.1 (origin_cols p e b (rw i.1 at h)) ]
origin_cols (p_drop {c = c} p _) e b h = elim (same? e c) [ inl i ↦ none_some (rw i.1 at h) | inr i ↦ rw i.1 (origin_cols p e b (rw i.1 at h)) ]

-- two entries hold one value
abbrev OneValue : Option ℕ → Option ℕ → Type 0
OneValue o p = (w : ℕ) × (o ≡ Some w) × (p ≡ Some w)

one_value_left : (o p q : Option ℕ) → OneValue o p → OneValue (or_else o q) p
one_value_left o p q (w, i, j) = (w, rw i, j)

one_value_right : (o p q : Option ℕ) → ((a b : ℕ) → q ≡ Some a → o ≡ Some b → a ≡ b) → OneValue o p → OneValue (or_else q o) p
one_value_right o p None f h = h
one_value_right o p (Some a) f (w, i, j) = (w, ap Some (f a w refl i), j)

module _ (G : Schema) (T : Environment) (ρ : Environment) where
  row_value : {v : ℕ} {C : Cols} {t : Term} → Path G v C t → (x : Mapping) → Domain x C → (y : Mapping) → meaning T t (bind ρ v (only x)) y
      → (e b : ℕ) → origin C t e ≡ Some b → OneValue (y e) (x b)
  unfolding meaning paired origin pair_origin combine Compatible put
  row_value {v} {C} p_var x d y r e b h =
      let (i, j) = own_origin (C e) e b h in
      let (w, g) = present (x e) (domain_at x C e d i) in
      (w, ap (λ (m : Mapping). m e) (bind_out ρ v (only x) y r) ∙ g, ap x (sym j) ∙ g)
  row_value {C = C} (p_union {a = s} {b = t} p q _) x d y (inl r) e b h = row_value p x d y r e b (agreed_both (origin C s e) (origin C t e) h).0
  row_value {C = C} (p_union {a = s} {b = t} p q _) x d y (inr r) e b h = row_value q x d y r e b (agreed_both (origin C s e) (origin C t e) h).1
  row_value {C = C} (p_left {a = s} p q) x d y (w, u, r, k, f, g) e b h =
      rw g (one_value_left (w e) (x b) (u e) (row_value p x d w r e b (sym (join_left_origin C s q e) ∙ h)))
  row_value {C = C} (p_right {b = t} p q) x d y (u, w, k, r, f, g) e b h =
      rw g (one_value_right (w e) (x b) (u e) (f e) (row_value q x d w r e b (sym (join_right_origin C t p e) ∙ h)))
  row_value (p_except p q) x d y (r, n) e b h = row_value p x d y r e b h
  row_value (p_filter p _) x d y (r, n) e b h = row_value p x d y r e b h
  row_value (p_copy {c = c} {d = k} p _ _) x d y (w, r, g) e b h = rw g (elim (same? e k) [
    | inl i ↦ rw i.1 (row_value p x d w r c b (rw i.1 at h))
    | inr i ↦ rw i.1 (row_value p x d w r e b (rw i.1 at h))
  ])
  row_value (p_drop {c = c} p _) x d y (w, r, g) e b h = rw g (elim (same? e c) [
    | inl i ↦ none_some (rw i.1 at h)
    | inr i ↦ rw i.1 (row_value p x d w r e b (rw i.1 at h))
  ])

  -- each row of the step has at a column the value that the variable's row it comes from has at the column's origin
  pub origin_value : {v : ℕ} {C : Cols} {t : Term} → Path G v C t → (x : Mapping) → Domain x C → (y : Mapping) → meaning T t (bind ρ v (only x)) y
      → (e b : ℕ) → origin C t e ≡ Some b → y e ≡ x b
  origin_value p x d y r e b h = let (w, i, j) = row_value p x d y r e b h in i ∙ sym j

pub stable_origin : (C : Cols) (t : Term) (c : ℕ) → stable C t c ≡ true → origin C t c ≡ Some c
stable_origin C t c h = by_origin (origin C t c) h
  where
    by_origin : (o : Option ℕ) → has_origin o c ≡ true → o ≡ Some c
    by_origin None e = true_false (sym e)
    by_origin (Some b) e = ap Some (eqb-true b c e)

pub origin_stable : (C : Cols) (t : Term) (c : ℕ) → origin C t c ≡ Some c → stable C t c ≡ true
origin_stable C t c e = rw e (eqb_self c)
