use mathlib.Core.Path.{◌≡◌}
use lib.ListN.{drop}
use lib.Seq.{paste}
use Rattle.rewrite.specs.Splices.{with_lines}
use Rattle.rewrite.proofs.splice.copied.Given as goal

abbrev pub invariant-loop-k : goal.invariant-loop-k
invariant-loop-k l = l.out ≡ with_lines l.initial.out (paste l.initial.out.lines l.at (drop l.first l.from.lines) l.k)
