use Prim.Native.Nat.{◌≤◌, ◌+◌, max}
use mathlib.Core.Path.{◌≡◌}
use lib.ListN.{length, drop}
use Rattle.text.specs.Readings.{before}
use Rattle.text.proofs.line_reader.find.Given as goal

abbrev pub invariant-loop-i : goal.invariant-loop-i
invariant-loop-i l = (l.i + before l.b (drop l.i l.text) ≡ l.at + before l.b (drop l.at l.text)) × (l.i ≤ max l.at (length l.text))
