-- Document 01's "A column of the variable is stable if no `drop` on the path names it": such a column is its own origin.
use mathlib.Core.Path.{◌≡◌, sym, ◌∙◌}
use mathlib.Core.Bool.{true, false, not, ◌&&◌, ◌||◌}
use Rattle.std.specs.Prelude.{Some}
use mathlib.Core.Logic.{inl, inr}
use Prim.Native.Nat.{ℕ}
use lib.Dec.{eqb}
use Rattle.laws.proofs.Tests.{true_false, eqb_self, same?, or_false_left, or_false_right}
use Rattle.algebra.specs.Term.{Term, table, var, fact, pair, filter, copy, drop, last, fix, mu}
use Rattle.algebra.specs.Columns.{Cols, Schema, is_closed, pair_origin, origin, stable}
use Rattle.algebra.specs.WellFormed.{Path, p_var, p_union, p_left, p_right, p_except, p_filter, p_copy, p_drop}
use Rattle.algebra.proofs.Open.{path_open}
use Rattle.algebra.proofs.Origins.{join_left_origin, join_right_origin, origin_cols, origin_stable}

-- the columns that a drop on the path names
unfoldable pub dropped : Term → Cols
dropped (table t) e = false
dropped (var v) e = false
dropped (fact c w) e = false
dropped (pair o a b) e = (not (is_closed a) && dropped a e) || (not (is_closed b) && dropped b e)
dropped (filter f a) e = dropped a e
dropped (copy c d a) e = dropped a e
dropped (drop c a) e = eqb e c || dropped a e
dropped (last c a) e = dropped a e
dropped (fix v a b) e = false
dropped (mu v a) e = false

module _ (a b : Term) (e : ℕ) (h : (not (is_closed a) && dropped a e) || (not (is_closed b) && dropped b e) ≡ false) where
  left_undropped : is_closed a ≡ false → dropped a e ≡ false
  left_undropped i = rw i at (or_false_left (not (is_closed a) && dropped a e) (not (is_closed b) && dropped b e) h)

  right_undropped : is_closed b ≡ false → dropped b e ≡ false
  right_undropped i = rw i at (or_false_right (not (is_closed a) && dropped a e) (not (is_closed b) && dropped b e) h)

undropped_origin : {G : Schema} {v : ℕ} {C : Cols} {t : Term} → Path G v C t → (e : ℕ) → C e ≡ true → dropped t e ≡ false → origin C t e ≡ Some e
unfolding origin pair_origin dropped
undropped_origin p_var e i d = rw i
undropped_origin (p_union {a = a} {b = b} p q _) e i d =
    rw (undropped_origin p e i (left_undropped a b e d (path_open p)), undropped_origin q e i (right_undropped a b e d (path_open q)), eqb_self e)
undropped_origin {C = C} (p_left {a = a} {b = b} p q) e i d =
    join_left_origin C a q e ∙ undropped_origin p e i (left_undropped a b e d (path_open p))
undropped_origin {C = C} (p_right {a = a} {b = b} p q) e i d =
    join_right_origin C b p e ∙ undropped_origin q e i (right_undropped a b e d (path_open q))
undropped_origin (p_except {a = a} {b = b} p q) e i d = undropped_origin p e i (left_undropped a b e d (path_open p))
undropped_origin (p_filter p _) e i d = undropped_origin p e i d
undropped_origin (p_copy {d = k} p _ g) e i d = elim (same? e k) [
  | inl j ↦ true_false (sym (rw j.0 at (origin_cols p e e (undropped_origin p e i d))) ∙ g)
  | inr j ↦ rw j.1 (undropped_origin p e i d)
]
undropped_origin (p_drop {c = c} {a = a} p _) e i d =
    rw (or_false_left (eqb e c) (dropped a e) d) (undropped_origin p e i (or_false_right (eqb e c) (dropped a e) d))

pub undropped_stable : {G : Schema} {v : ℕ} {C : Cols} {t : Term} → Path G v C t → (e : ℕ) → C e ≡ true → dropped t e ≡ false → stable C t e ≡ true
undropped_stable {C = C} {t} p e i d = origin_stable C t e (undropped_origin p e i d)
