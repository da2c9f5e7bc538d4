-- A reply is a value or a refusal, not both; of tests one after the other, an accepted reply says that each accepted, and a refusal is that of
-- one of them.
use mathlib.Core.Path.{◌≡◌, refl, ap, sym}
use mathlib.Core.Bool.{Bool, true, false}
use mathlib.Core.Logic.{◌⊎◌, inl, inr}
use mathlib.Core.List.{List, [], ◌∷◌}
use Prim.Native.Nat.{ℕ}
use native.Mathlib.Omega.{arith}
use Rattle.database.specs.declared.Refusal.{Refusal}
use Rattle.database.specs.Refusals.{Reply, refused, accepted, require, no_fault, ◌>>=◌}

pub accepted_refused : {A : Type 0} {B : Type 0} {a : A} {r : Refusal} → accepted a ≡ refused r → B
accepted_refused e = let z : ◌≡◌ {A = ℕ} 0 1 = cc in absurd (omega arith)

pub refused_same : {A : Type 0} {r s : Refusal} → ◌≡◌ {A = Reply A} (refused r) (refused s) → r ≡ s
refused_same e = cc

pub accepted_same : {A : Type 0} {a b : A} → accepted a ≡ accepted b → a ≡ b
accepted_same e = cc

pub accepted_then : {A B : Type 0} (r : Reply A) (f : A → Reply B) {b : B} → r >>= f ≡ accepted b
    → (a : A) × (r ≡ accepted a) × (f a ≡ accepted b)
accepted_then (refused r) f e = accepted_refused (sym e)
accepted_then (accepted a) f e = (a, refl, e)

pub refused_then : {A B : Type 0} (r : Reply A) (f : A → Reply B) {c : Refusal} → r >>= f ≡ refused c
    → (r ≡ refused c) ⊎ ((a : A) × (r ≡ accepted a) × (f a ≡ refused c))
refused_then (refused r) f e = inl (ap refused (refused_same e))
refused_then (accepted a) f e = inr (a, refl, e)

pub required : (t : Bool) (r : Refusal) (u : Unit {0}) → require t r ≡ accepted u → t ≡ true
required true r u e = refl
required false r u e = accepted_refused (sym e)

pub no_fault_lem : (l : List Refusal) {u : Unit {0}} → no_fault l ≡ accepted u → l ≡ []
no_fault_lem [] e = refl
no_fault_lem (r ∷ l) e = accepted_refused (sym e)
