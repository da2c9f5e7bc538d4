-- The measure is what is left of the text: a line ends where it begins or behind that.
use Rattle.std.specs.Prelude.{◌-◌, ◌^◌, ◌<◌, length}
use Rattle.steps.proofs.apply_lines.Given as goal

abbrev pub invariant-loop-at : goal.invariant-loop-at
invariant-loop-at g l = length l.steps < 2 ^ 64

abbrev pub decreases-loop-at : goal.decreases-loop-at
decreases-loop-at g l = length l.steps - l.at
