-- What a kind finds at a node of a checked query fits the node's index.
use mathlib.Core.Path.{◌≡◌, refl}
use Rattle.std.specs.Prelude.{Option, Some, None, IfSome, option_and_then}
use mathlib.Core.Bool.{Bool, true, false}
use Prim.Native.Nat.{ℕ, ◌-◌, ◌<◌}
use native.Mathlib.Omega.{arith}
use lib.Dec.{eqb}
use Rattle.laws.specs.Lists.{when◌then◌else◌}
use Rattle.algebra.specs.declared.Pairing.TheVariants.{Union, Join, Except}
use Rattle.query.specs.declared.Node.{Node}
use Rattle.query.specs.declared.Node.TheVariants.{Table, Var, Fact, Pair, Filter, Copy, Drop, Last, Fix, Mu}
use Rattle.query.specs.declared.Query.{Query}
use Rattle.query.specs.declared.Facts.{Facts}
use Rattle.query.specs.Shape.{has_step}
use Rattle.rewrite.specs.Places.{line_at}
use Rattle.matching.specs.declared.Found.{Found}
use Rattle.matching.specs.declared.Found.TheVariants.{FilterFix, FixJoin, JoinFix, FixExcept, DropFix, FixFix}
use Rattle.matching.specs.Found.{right_of, left_of, over_fix, join_found, line_found, found_at, Within, Fits, Placed}

module _ (q : Query) (facts : Facts) (p : Placed q facts) (k i : ℕ) where
  abbrev FitsIf : Option Found → Type 0
  FitsIf o = IfSome o (Fits facts i)

  either : (b : Bool) (m n : Option Found) → (b ≡ true → FitsIf m) → FitsIf n → FitsIf (when b then m else n)
  either true m n f g = f refl
  either false m n f g = g

  over : (x : ℕ) (m : Found) → (has_step (line_at q x) ≡ true → Fits facts i m) → FitsIf (over_fix q x m)
  over x m f = either (has_step (line_at q x)) (Some m) None f tt

  -- a test behind another
  over_both : (b : Bool) (y : ℕ) (m : Found) → (has_step (line_at q y) ≡ true → Fits facts i m)
      → FitsIf (option_and_then (over_fix q y) (when b then Some m else None))
  over_both true y m f = over y m f
  over_both false y m f = tt

  join_fits : FitsIf (join_found q facts k i)
  join_fits =
      let low = p.low (i - 1) in
      either (eqb k 2) _ _ (λ e. over _ (FixJoin (left_of facts i) (right_of i)) (λ f. (omega arith, omega arith)))
      (either (eqb k 3) _ _ (λ e. over _ (JoinFix (left_of facts i) (right_of i)) (λ f. (omega arith, omega arith)))
      (either (eqb k 6) _ _
      (λ e. over_both (has_step (line_at q (left_of facts i))) (right_of i) (FixFix (left_of facts i) (right_of i)) (λ g.
      let h = p.seeded (i - 1) g in
      let l = p.low (i - 1 - 1) in
      (omega arith, omega arith, omega arith)))
      tt))

  line_fits : (x : Node) → FitsIf (line_found q facts k i x)
  line_fits (Table t) = tt
  line_fits (Var v) = tt
  line_fits (Fact c x) = tt
  line_fits (Pair Union) = tt
  line_fits (Pair Join) = join_fits
  line_fits (Pair Except) =
      let low = p.low (i - 1) in
      either (eqb k 4) _ _ (λ e. over _ (FixExcept (left_of facts i) (right_of i)) (λ f. (omega arith, omega arith))) tt
  line_fits (Filter f) = either (eqb k 1) _ _ (λ e. over _ (FilterFix f (right_of i)) (λ g. omega arith)) tt
  line_fits (Copy a b) = tt
  line_fits (Drop a) = either (eqb k 5) _ _ (λ e. over _ (DropFix a (right_of i)) (λ g. omega arith)) tt
  line_fits (Last a) = tt
  line_fits (Fix v) = tt
  line_fits (Mu v) = tt

  pub found_fits : IfSome (found_at q facts k i) (Fits facts i)
  found_fits = line_fits (line_at q i)

-- so it ends at lines of the query
pub fits_within : (q : Query) (facts : Facts) (i : ℕ) → i < q.count → (m : Found) → Fits facts i m → Within q m
fits_within q facts i h (FilterFix c x) f = omega arith
fits_within q facts i h (FixJoin x o) f = (omega arith, omega arith)
fits_within q facts i h (JoinFix o x) f = (omega arith, omega arith)
fits_within q facts i h (FixExcept x o) f = (omega arith, omega arith)
fits_within q facts i h (DropFix d x) f = omega arith
fits_within q facts i h (FixFix x y) f = (omega arith, omega arith)
