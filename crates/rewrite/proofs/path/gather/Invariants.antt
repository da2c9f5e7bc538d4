use Prim.Native.Nat.{◌-◌}
use mathlib.Core.Path.{◌≡◌}
use Rattle.rewrite.specs.Path.{gathered}
use Rattle.rewrite.proofs.path.gather.Given as goal

abbrev pub invariant-loop-i : goal.invariant-loop-i
invariant-loop-i l = l.used ≡ gathered l.sheet.query l.sheet.facts l.v l.first (l.i - l.first)
