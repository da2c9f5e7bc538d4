-- Document 01's test of 13, which asks that no `drop` on the path names a column: where it passes, U5's passes.
use mathlib.Core.Path.{◌≡◌, refl, ◌∙◌}
use mathlib.Core.Bool.{Bool, true, not, ◌&&◌, ◌||◌}
use Prim.Native.Nat.{ℕ}
use Rattle.laws.specs.Lists.{every, all}
use Rattle.laws.proofs.Tests.{and_true_left, and_true_right, and_true, asked, unasked, not-false}
use Rattle.laws.proofs.Lists.{all_below, all_true}
use Rattle.algebra.specs.Columns.{Cols, no_cols, Schema, cols, named, stable}
use Rattle.algebra.specs.WellFormed.{Closed, c_pair, c_filter, c_fix}
use Rattle.algebra.specs.Rules.{Loop, Match, filter_fix, fix_join, join_fix, fix_except, drop_fix, fix_fix, shared_stable, stable_enough}
use Rattle.algebra.proofs.ColumnSets.{same_at_lem}
use Rattle.algebra.proofs.Each.{each_zip, every_each, each_every}
use Rattle.algebra.proofs.Typing.{cols_closed}
use Rattle.algebra.proofs.Undropped.{dropped, undropped_stable}
use Rattle.algebra.proofs.Redex.{fix_of, redex}

module _ (G : Schema) (C : Cols) where
  abbrev pub shared_undropped : Loop → Cols → Bool
  shared_undropped x D = all (λ c. not (cols G C x.seed c && D c) || not (dropped x.step c)) G.width

  abbrev pub undropped_enough : Match → Bool
  undropped_enough (filter_fix f x) = every (λ c. not (dropped x.step c)) (named f)
  undropped_enough (fix_join x o) = shared_undropped x (cols G C o)
  undropped_enough (join_fix o x) = shared_undropped x (cols G C o)
  undropped_enough (fix_except x o) = shared_undropped x (cols G C o)
  undropped_enough (drop_fix d x) = true
  undropped_enough (fix_fix x y) = shared_undropped x (cols G C y.seed) && shared_undropped y (cols G C x.seed)

  -- a column of a closed fix
  kept : (x : Loop) → Closed G (fix_of x) → (c : ℕ) → cols G no_cols x.seed c ≡ true → not (dropped x.step c) ≡ true
      → stable (cols G C x.seed) x.step c ≡ true
  kept x (c_fix p q _) c i h = rw (cols_closed G C no_cols p) (undropped_stable q c i (not-false (dropped x.step c) h))

  shared_kept_lem : (x : Loop) (D : Cols) → Closed G (fix_of x) → shared_undropped x D ≡ true → shared_stable G C x D ≡ true
  unfolding shared_stable
  shared_kept_lem x D p e = all_true _ G.width λ c below.
      unasked (cols G C x.seed c && D c) (stable (cols G C x.seed) x.step c) λ i.
      kept x p c (seed_has p c (and_true_left (cols G C x.seed c) (D c) i))
      (asked (cols G C x.seed c && D c) (not (dropped x.step c)) (all_below _ G.width e c below) i)
    where
      seed_has : Closed G (fix_of x) → (c : ℕ) → cols G C x.seed c ≡ true → cols G no_cols x.seed c ≡ true
      seed_has (c_fix p _ _) c i = same_at_lem (cols_closed G no_cols C p) c ∙ i

  pub undropped_enough_lem : (m : Match) → Closed G (redex m) → undropped_enough m ≡ true → stable_enough G C m ≡ true
  unfolding stable_enough cols
  undropped_enough_lem (filter_fix f x) (c_filter p i) e =
      each_every (named f) _ (each_zip (named f) (λ c j h. kept x p c j h) i (every_each (named f) (λ c. not (dropped x.step c)) e))
  undropped_enough_lem (fix_join x o) (c_pair p _ _) e = shared_kept_lem x (cols G C o) p e
  undropped_enough_lem (join_fix o x) (c_pair _ p _) e = shared_kept_lem x (cols G C o) p e
  undropped_enough_lem (fix_except x o) (c_pair p _ _) e = shared_kept_lem x (cols G C o) p e
  undropped_enough_lem (drop_fix d x) p e = refl
  undropped_enough_lem (fix_fix x y) (c_pair p q _) e =
      let a = shared_undropped x (cols G C y.seed) in
      let b = shared_undropped y (cols G C x.seed) in
      and_true (shared_stable G C x (cols G C y.seed)) (shared_stable G C y (cols G C x.seed))
      (shared_kept_lem x (cols G C y.seed) p (and_true_left a b e)) (shared_kept_lem y (cols G C x.seed) q (and_true_right a b e))
