-- What the verdict of a reply says of the reply.
use mathlib.Core.Path.{◌≡◌, refl}
use Prim.Native.Nat.{ℕ}
use native.Mathlib.Omega.{arith}
use Rattle.database.specs.declared.Refusal.{Refusal}
use Rattle.std.specs.Prelude.{Err}
use Rattle.database.specs.Refusals.{Reply, refused, accepted, verdict, no_refusal}

-- a verdict is one or the other
pub accepted_not_refused {ℓ} : {A : Type ℓ} {q : Refusal} → no_refusal ≡ Err q → A
accepted_not_refused e = let z : ◌≡◌ {A = ℕ} 0 1 = cc in absurd (omega arith)

pub verdict_accepted : {A : Type 0} (r : Reply A) → no_refusal ≡ verdict r → (a : A) × (r ≡ accepted a)
verdict_accepted (refused q) e = accepted_not_refused e
verdict_accepted (accepted a) e = (a, refl)

pub verdict_refused : {A : Type 0} (r : Reply A) {q : Refusal} → Err q ≡ verdict r → r ≡ refused q
verdict_refused (refused p) e = cc
verdict_refused (accepted a) e = let z : ◌≡◌ {A = ℕ} 0 1 = cc in absurd (omega arith)
