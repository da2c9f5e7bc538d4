use Prim.Native.Nat.{ℕ, ◌≤◌, ◌-◌}
use mathlib.Core.List.{List}
use Rattle.laws.proofs.Indexed.{Written}
use Rattle.query.specs.declared.Line.{Line}
use Rattle.query.specs.Lines.{node_limit, line, blank}
use Rattle.flat.specs.Flat.{node_of, line_at}
use Rattle.flat.proofs.decode.decode_lines.Given as goal

abbrev pub decoded : List ℕ → ℕ → Line
decoded s i = line (node_of (line_at s i))

abbrev pub invariant-loop-i : goal.invariant-loop-i
invariant-loop-i l = (l.i ≤ node_limit) × Written blank (decoded l.query) node_limit l.lines l.i

abbrev pub decreases-loop-i : goal.decreases-loop-i
decreases-loop-i l = node_limit - l.i
