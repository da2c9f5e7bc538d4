use Prim.Native.Nat.{◌≤◌}
use mathlib.Core.List.{flat_map}
use lib.ListN.{take}
use Rattle.query.specs.Lines.{nodes}
use Rattle.text.specs.Lines.{node_text}
use Rattle.text.specs.Texts.{line_text}
use Rattle.output.specs.Sinks.{Puts}
use Rattle.query_writing.proofs.put_lines.Given as goal

abbrev pub invariant-loop-i : goal.invariant-loop-i
invariant-loop-i g l = (l.i ≤ l.count) × Puts g.S.Sink.put (flat_map (λ n. line_text (node_text n)) (take l.i (nodes l.query))) l.initial.sink l.sink
