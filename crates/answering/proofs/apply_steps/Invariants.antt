use Prim.Native.Nat.{◌-◌}
use lib.ListN.{length}
use Rattle.answering.proofs.StepLines.{Due}
use Rattle.answering.proofs.apply_steps.Given as goal

abbrev pub invariant-loop-place : goal.invariant-loop-place
invariant-loop-place l = Due l.database l.store l.steps l.fn.query l.place l.held

abbrev pub decreases-loop-place : goal.decreases-loop-place
decreases-loop-place l = length l.steps - l.place
