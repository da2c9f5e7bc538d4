use Prim.Native.Nat.{◌≤◌, ◌-◌}
use mathlib.Core.Path.{◌≡◌}
use Rattle.laws.specs.Lists.{tabulate}
use Rattle.laws.proofs.Passes.{filled}
use Rattle.relation.specs.Rows.{columns as width}
use Rattle.writing.proofs.answers.column_numbers.Given as goal

abbrev pub invariant-loop-c : goal.invariant-loop-c
invariant-loop-c l = (l.c ≤ width) × (l.numbers ≡ filled width 0 (tabulate (λ n. n) l.c))

abbrev pub decreases-loop-c : goal.decreases-loop-c
decreases-loop-c l = width - l.c
