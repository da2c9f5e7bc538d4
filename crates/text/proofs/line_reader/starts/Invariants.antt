use mathlib.Core.Path.{◌≡◌}
use lib.ListN.{drop}
use Rattle.text.specs.Lines.{after}
use Rattle.text.proofs.line_reader.starts.Given as goal

abbrev pub invariant-loop-i : goal.invariant-loop-i
invariant-loop-i l = after (drop l.i l.key) (drop l.i l.line) ≡ after l.key l.line
