-- The test of 23 over a whole workspace: what it asks of its caller. w is the number of columns, L the row limit.
use Rattle.std.specs.Prelude.{◌≡◌, Bool, ◌&&◌, List, ℕ, ◌-◌, ◌*◌, ◌^◌, ◌≤◌, ◌<◌, length}
use Rattle.laws.specs.Lists.{all}
use Rattle.algebra.specs.Term.{Term}
use Rattle.algebra.specs.Columns.{Schema}
use Rattle.relation.specs.Registers.{stretch}
use Rattle.database.specs.declared.Database.{Database}
use Rattle.database.specs.Refusals.{accepted}
use Rattle.database.specs.Stored.{schema}
use Rattle.query.specs.declared.Query.{Query}
use Rattle.query.specs.declared.Facts.{Facts}
use Rattle.query.specs.Lines.{node_limit, nodes, lines}
use Rattle.query.specs.Facts.{facts_of, visited}
use Rattle.plan.specs.Plan.{plan_lines}
use Rattle.machine.specs.Run.{register_count}
use Rattle.machine.specs.Pauses.{columns_at}
use Rattle.pauses.specs.Places.{zeros, place_ok}

-- each register may hold what it holds, and all other entries are zero
unfoldable pub places_ok : ℕ → ℕ → Schema → Term → List ℕ → Bool
places_ok w L G t ws =
    all (λ i. place_ok w L ws (columns_at G t i) i) (register_count t)
    && zeros ws (register_count t * stretch w L) (length ws - register_count t * stretch w L)

-- a split sheet's term, what the check tells of its nodes, and room for its registers
pub record Laid (w : ℕ) (q : Query) (facts : Facts) (L : ℕ) (ws : List ℕ) (d : Database) (t : Term) : Type 0 where
  pub own : nodes q ≡ lines t
  pub few : q.count ≤ node_limit
  pub told : facts ≡ facts_of (schema w d) (visited (schema w d) (accepted t))
  pub room : register_count t * stretch w L ≤ length ws

pub record CanLay (w : ℕ) (q : Query) (facts : Facts) (L : ℕ) (ws : List ℕ) : Type 0 where
  pub database : Database
  pub term : Term
  pub laid : Laid w q facts L ws database term

-- beside it, how many lines its plan has
pub record Tests (w : ℕ) (q : Query) (facts : Facts) (plan L : ℕ) (ws : List ℕ) (d : Database) (t : Term) : Type 0 where
  pub laid : Laid w q facts L ws d t
  pub planned : plan ≡ length (plan_lines (schema w d) t)
  pub small : L < 2 ^ 32

pub record CanTest (w : ℕ) (q : Query) (facts : Facts) (plan L : ℕ) (ws : List ℕ) : Type 0 where
  pub database : Database
  pub term : Term
  pub tests : Tests w q facts plan L ws database term
