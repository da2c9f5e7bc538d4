-- Demand 2 of a run in parts: the meaning is promised "only for pauses the engine gave in a run begun at the plan's first line, gone on with over that
-- run's own sheet, book and row limit".
use mathlib.Core.Path.{◌≡◌}
use mathlib.Core.List.{List}
use Prim.Native.Nat.{ℕ, ◌+◌, ◌≤◌}
use Rattle.algebra.specs.Term.{Term}
use Rattle.database.specs.declared.Database.{Database}
use Rattle.database.specs.Refusals.{accepted}
use Rattle.database.specs.Stored.{schema}
use Rattle.query.specs.declared.Query.{Query}
use Rattle.plan.specs.Plan.{plan_lines}
use Rattle.machine.specs.Machine.{State}
use Rattle.machine.specs.Run.{Answer, product, runnable}
use Rattle.machine.specs.Pauses.{pause_of, ended, resume, InPlace, Given}
use Rattle.machine.proofs.Passed.{passed}
use Rattle.machine.proofs.Resumed.{resumed_replies}
use Rattle.machine.proofs.ResumedLines.{resumed_lines}
use Rattle.engine.specs.Demands.{Answers}
use Rattle.engine.proofs.RunIsMeaning.{run_is_meaning}

-- gone on with to its end, such a pause answers what the sheet means as typed, after no more lines in all than the product
pub resumed_means : (w limit : ℕ) (q : Query) (d : Database) (store : List ℕ) (L : ℕ) {t : Term} → runnable w limit q d store L ≡ accepted t
    → {budget : ℕ} {s : State} → Given w q d store L t budget s → (more : ℕ) (workspace answer : List ℕ) → InPlace w L t s workspace
    → (a : Answer) → resume w limit q d store L more (pause_of s) workspace answer ≡ accepted (ended a)
    → Answers w d store q t a × (a.ran ≤ product (plan_lines (schema w d) t) L)
resumed_means w limit q d store L {t} runs {budget} given more workspace answer place a e = (
  run_is_meaning w limit q d store L (budget + more) workspace answer t (passed w limit q d store L runs).checked a
      (resumed_replies w limit q d store L runs given more workspace answer place e),
  resumed_lines w limit q d store L runs given more workspace answer place a e,
)
