-- The run that `answer` makes is never refused with 19: its 24 nodes and L = 24 allow none of more than 576 lines, and it takes 1,000,000.
use mathlib.Core.Path.{◌≡◌}
use mathlib.Core.Logic.{◌≢◌}
use mathlib.Core.List.{List}
use Prim.Native.Nat.{ℕ, ◌*◌, ◌≤◌}
use native.Mathlib.Omega.{arith}
use native.Mathlib.Nat.{le_trans}
use Rattle.algebra.specs.Term.{Term}
use Rattle.relation.specs.Rows.{columns}
use Rattle.database.specs.declared.Database.{Database}
use Rattle.database.specs.declared.Refusal.TheVariants.{BudgetSpent}
use Rattle.database.specs.Stored.{schema, table_rows}
use Rattle.database.specs.Refusals.{refused, accepted}
use Rattle.query.specs.declared.Query.{Query}
use Rattle.query.specs.Check.{check_over}
use Rattle.machine.specs.Run.{execute}
use Rattle.machine.proofs.Passed.{passes}
use Rattle.machine.proofs.Product.{execute_not_spent}
use Rattle.machine.proofs.LinesWithin.{product_fits}
use Rattle.answering.specs.Answer.{limits, taken}

-- whatever sheet the steps leave, and whatever the book
pub answer_not_spent : (q : Query) (d : Database) (store : List ℕ) (t : Term) → check_over columns limits.nodes q d store ≡ accepted t
    → execute (schema columns d) (table_rows columns d store) limits.rows taken.lines t ≢ refused BudgetSpent
answer_not_spent q d store t e =
    let few : 1 ≤ limits.rows = omega arith in
    let most : limits.nodes * limits.rows ≤ taken.lines = omega arith in
    execute_not_spent (schema columns d) (table_rows columns d store) limits.rows few t taken.lines
    (le_trans (product_fits columns limits.nodes q d store limits.rows (passes columns limits.nodes q d store limits.rows e few (omega arith))) most)
