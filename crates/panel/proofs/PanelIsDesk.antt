-- "Where both finish, the panel's rows and lines run must be the desk's": one query over one stored book, at the desk with any row limit and budget,
-- at the panel with any budget.
use mathlib.Core.Path.{◌≡◌}
use mathlib.Core.List.{List}
use Prim.Native.Nat.{ℕ}
use Rattle.relation.specs.Rows.{columns}
use Rattle.database.specs.declared.Database.{Database}
use Rattle.database.specs.Refusals.{accepted}
use Rattle.query.specs.declared.Query.{Query}
use Rattle.machine.specs.Limits.{desk_limits, panel_limits}
use Rattle.machine.specs.Run.{Answer, run_query}
use Rattle.engine.proofs.OneAnswer.{one_answer}

-- columns, rows and lines run are equal
pub panel_is_desk : (q : Query) (d : Database) (store : List ℕ) (L budget budget' : ℕ) (workspace workspace' answer answer' : List ℕ) (a b : Answer)
    → run_query columns (desk_limits L).nodes q d store (desk_limits L).rows budget workspace answer ≡ accepted a
    → run_query columns panel_limits.nodes q d store panel_limits.rows budget' workspace' answer' ≡ accepted b
    → a ≡ b
panel_is_desk q d store L = one_answer columns (desk_limits L) panel_limits q d store
