use Prim.Native.Nat.{◌-◌}
use mathlib.Core.Path.{◌≡◌}
use lib.ListN.{replicate}
use Rattle.query.specs.Lines.{node_limit}
use Rattle.origins.specs.Origins.{no_origins, origins_from}
use Rattle.origins.proofs.step_origins.Given as goal

abbrev pub invariant-loop-i : goal.invariant-loop-i
invariant-loop-i l = l.held ≡ origins_from l.sheet.query l.sheet.facts l.start (l.i - l.start) (replicate node_limit no_origins)
