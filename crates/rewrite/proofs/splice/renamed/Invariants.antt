use Prim.Native.Nat.{ℕ, ◌-◌}
use mathlib.Core.Path.{◌≡◌}
use mathlib.Core.List.{List, map}
use lib.ListN.{drop}
use lib.Seq.{paste}
use Rattle.query.specs.declared.Line.{Line}
use Rattle.query.specs.declared.Query.{Query}
use Rattle.rewrite.specs.Splices.{with_lines, renamed_line}
use Rattle.rewrite.proofs.splice.renamed.Given as goal

-- the renamed lines from an index on
abbrev pub source : Query → ℕ → ℕ → ℕ → List Line
source q first u v = map (renamed_line u v) (drop first q.lines)

abbrev pub invariant-loop-i : goal.invariant-loop-i
invariant-loop-i l = l.out ≡ with_lines l.initial.out (paste l.initial.out.lines l.first (source l.query l.first l.u l.v) (l.i - l.first))
