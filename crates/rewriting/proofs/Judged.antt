-- What the tests hand on is what was found.
use mathlib.Core.Path.{◌≡◌, ap}
use mathlib.Core.Bool.{Bool, true, false}
use Prim.Native.Nat.{ℕ}
use native.Mathlib.Omega.{arith}
use Rattle.std.specs.Prelude.{Option, Some, None, Ok}
use Rattle.database.specs.declared.Refusal.TheVariants.{Unstable, Used, OpenOperand}
use Rattle.database.specs.Refusals.{accepted, require, ◌>>=◌}
use Rattle.query.specs.declared.Query.{Query}
use Rattle.query.specs.declared.Facts.{Facts}
use Rattle.rewrite.specs.Rewrite.{told}
use Rattle.matching.specs.declared.Found.{Found}
use Rattle.matching.specs.Found.{stable_at, unused_at, closed_at, judged_at}

-- by what the tests say
tested : (a b c : Bool) (n : Found) {m : Found}
    → Ok m ≡ told (require a Unstable >>= (λ x. require b Used >>= (λ y. require c OpenOperand >>= (λ z. accepted n)))) → n ≡ m
tested true true true n e = cc
tested true true false n e = let z : ◌≡◌ {A = ℕ} 0 1 = cc in absurd (omega arith)
tested true false c n e = let z : ◌≡◌ {A = ℕ} 0 1 = cc in absurd (omega arith)
tested false b c n e = let z : ◌≡◌ {A = ℕ} 0 1 = cc in absurd (omega arith)

pub judged_found : (q : Query) (facts : Facts) (o : Option Found) {m : Found} → Ok m ≡ told (judged_at q facts o) → o ≡ Some m
judged_found q facts None e = let z : ◌≡◌ {A = ℕ} 0 1 = cc in absurd (omega arith)
judged_found q facts (Some n) e = ap Some (tested (stable_at q facts n) (unused_at q facts n) (closed_at facts n) n e)
