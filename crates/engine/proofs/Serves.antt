-- A query within two node limits serves both places: the limit decides number 2 and nothing else, of a query and of the room for the node that kind 7 adds.
use mathlib.Core.Path.{◌≡◌}
use mathlib.Core.List.{List}
use Prim.Native.Nat.{ℕ, ◌+◌, ◌≤◌, ◌<◌}
use native.Mathlib.Omega.{arith}
use Rattle.algebra.specs.Term.{Term}
use Rattle.algebra.specs.Columns.{size}
use Rattle.database.specs.declared.Database.{Database}
use Rattle.database.specs.Refusals.{accepted}
use Rattle.query.specs.declared.Query.{Query}
use Rattle.query.specs.Check.{check_over}
use Rattle.query.proofs.NodeLimits.{check_over_limits}
use Rattle.plan.specs.Plan.{compile}
use Rattle.plan.proofs.NodeLimits.{compile_limits}
use Rattle.rewrite.specs.Rewrite.{rewrite, Step, held}
use Rattle.rewrite.proofs.NodeLimits.{rewrite_limits, added_by, held_count}

-- each call replies the same under both limits: number and place, the plan, the very sheet; of kind 7 where the split sheet has room under both
pub record Serves (w limit limit' : ℕ) (q : Query) : Type 0 where
  pub checks : (d : Database) (store : List ℕ) → check_over w limit q d store ≡ check_over w limit' q d store
  pub compiles : (d : Database) (store : List ℕ) → compile w limit q d store ≡ compile w limit' q d store
  pub rewrites : (d : Database) (store : List ℕ) (k n : ℕ)
      → (k ≡ 7 → (t : Term) → check_over w limit q d store ≡ accepted t → (size t < limit) × (size t < limit'))
      → rewrite w limit q d store k n ≡ rewrite w limit' q d store k n

serves : (w limit limit' : ℕ) (q : Query) → q.count ≤ limit → q.count ≤ limit' → Serves w limit limit' q
serves w limit limit' q h h' = record {
  checks = check_over_limits q limit limit' h h' w;
  compiles = compile_limits q limit limit' h h' w;
  rewrites = rewrite_limits q limit limit' h h' w;
}

-- and so does the query that a list of steps leaves of it, each step under a limit of its own, if there is room for its kinds 7
pub held_serves : (w limit limit' : ℕ) (q : Query) (steps : List Step) → q.count + added_by steps ≤ limit → q.count + added_by steps ≤ limit'
    → Serves w limit limit' (held w q steps)
held_serves w limit limit' q steps h h' = let n = held_count w q steps in serves w limit limit' (held w q steps) (omega arith) (omega arith)
