use Prim.Native.Nat.{◌≤◌}
use lib.ListN.{length, take}
use Rattle.output.specs.Sinks.{Puts}
use Rattle.output.proofs.put_bytes.Given as goal

abbrev pub invariant-loop-b : goal.invariant-loop-b
invariant-loop-b g l = (l.b-index ≤ length l.text) × Puts g.S.Sink.put (take l.b-index l.text) l.initial.sink l.sink
