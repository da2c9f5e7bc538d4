-- Tests: what a passed or failed one says of its parts.
use mathlib.Core.Path.{◌≡◌, refl, sym, subst}
use mathlib.Core.Bool.{Bool, true, false, not, ◌&&◌, ◌||◌}
use mathlib.Core.Logic.{◌⊎◌, inl, inr, ◌≢◌}
use Prim.Native.Nat.{ℕ}
use lib.Dec.{T, eqb}
use borrow.Author.Tests.{eqb-true, eqb-false, eq-eqb}
use Rattle.laws.specs.Lists.{when◌then◌else◌, ◌iff◌}

pub true_false {ℓ} : {A : Type ℓ} → true ≡ false → A
true_false e = absurd (subst T e tt)

pub eqb_self : (n : ℕ) → eqb n n ≡ true
eqb_self n = eq-eqb n n refl

-- two numbers are the same or not, with what the test says
pub same? : (a b : ℕ) → ((a ≡ b) × (eqb a b ≡ true)) ⊎ ((a ≢ b) × (eqb a b ≡ false))
same? a b = by_test (eqb a b) refl
  where
    by_test : (t : Bool) → eqb a b ≡ t → ((a ≡ b) × (eqb a b ≡ true)) ⊎ ((a ≢ b) × (eqb a b ≡ false))
    by_test true e = inl (eqb-true a b e, e)
    by_test false e = inr (eqb-false a b e, e)

pub or_false_left : (a b : Bool) → a || b ≡ false → a ≡ false
or_false_left true b e = e
or_false_left false b e = refl

pub or_false_right : (a b : Bool) → a || b ≡ false → b ≡ false
or_false_right true b e = true_false e
or_false_right false b e = e

pub or_true_left : (a b : Bool) → a ≡ true → a || b ≡ true
or_true_left a b e = rw e

pub or_true_right : (a b : Bool) → b ≡ true → a || b ≡ true
or_true_right true b e = refl
or_true_right false b e = e

pub or_swap : (a b c : Bool) → (a || b) || c ≡ (a || c) || b
or_swap true b c = refl
or_swap false true true = refl
or_swap false true false = refl
or_swap false false true = refl
or_swap false false false = refl

pub and_true_left : (a b : Bool) → a && b ≡ true → a ≡ true
and_true_left true b e = refl
and_true_left false b e = e

pub and_true_right : (a b : Bool) → a && b ≡ true → b ≡ true
and_true_right true b e = e
and_true_right false b e = true_false (sym e)

pub and_true : (a b : Bool) → a ≡ true → b ≡ true → a && b ≡ true
and_true a b e f = rw (e, f)

-- a test asked only where another passes
pub asked : (a b : Bool) → not a || b ≡ true → a ≡ true → b ≡ true
asked true b e f = e
asked false b e f = true_false (sym f)

pub unasked : (a b : Bool) → (a ≡ true → b ≡ true) → not a || b ≡ true
unasked true b f = f refl
unasked false b f = refl

pub not-true : (a : Bool) → a ≡ false → not a ≡ true
not-true a e = rw e

pub not-false : (a : Bool) → not a ≡ true → a ≡ false
not-false true e = sym e
not-false false e = refl

pub not_not : (a : Bool) → not (not a) ≡ a
not_not true = refl
not_not false = refl

pub if_same {ℓ} : {A : Type ℓ} (b : Bool) (x : A) → (when b then x else x) ≡ x
if_same true x = refl
if_same false x = refl

pub if_apply {ℓ κ} : {A : Type ℓ} {B : Type κ} (f : A → B) (b : Bool) (x y : A) → f (when b then x else y) ≡ when b then f x else f y
if_apply f true x y = refl
if_apply f false x y = refl

-- a test agrees with true where it passes, and with false where it fails
pub agrees_true : (b : Bool) → b ≡ b iff true
agrees_true true = refl
agrees_true false = refl

pub agrees_false : (b : Bool) → not b ≡ b iff false
agrees_false true = refl
agrees_false false = refl

-- tests that pass alike are one
pub same_tests : (a b : Bool) → (a ≡ true → b ≡ true) → (b ≡ true → a ≡ true) → a ≡ b
same_tests true b f g = sym (f refl)
same_tests false true f g = g refl
same_tests false false f g = refl
