-- Options: a value is no absence, and what comes out of a test or a search.
use mathlib.Core.Path.{◌≡◌}
use mathlib.Core.Bool.{Bool, true, false}
use Rattle.std.specs.Prelude.{ℕ, Option, Some, None}
use native.Mathlib.Omega.{arith}
use mathlib.Core.Logic.{◌⊎◌, inl, inr}
use Rattle.laws.specs.Lists.{when◌then◌else◌}

pub none_some {κ} : {A : Type 0} {B : Type κ} {a : A} → ◌≡◌ {A = Option A} None (Some a) → B
none_some {a = a} e = let z : ◌≡◌ {A = ℕ} 0 1 = cc in absurd (omega arith)

pub some_inj : {A : Type 0} {a b : A} → ◌≡◌ {A = Option A} (Some a) (Some b) → a ≡ b
some_inj e = cc

-- the same test on both sides of a map
pub if_map {ℓ ℓ'} : {A : Type ℓ} {B : Type ℓ'} (f : A → B) (b : Bool) {x y : B} (o p : A) → x ≡ f o → y ≡ f p → (when b then x else y) ≡ f (when b then o else p)
if_map f true o p e i = e
if_map f false o p e i = i

-- a value that came out of a test came out of one of its branches
pub if_some : {A : Type 0} (b : Bool) (o p : Option A) {a : A} → (when b then o else p) ≡ Some a → (o ≡ Some a) ⊎ (p ≡ Some a)
if_some true o p e = inl e
if_some false o p e = inr e
