use Rattle.query.specs.Lines.{nodes}
use Rattle.query.proofs.Starts.{ReadTo}
use Rattle.query.proofs.shape.shape.Given as goal

abbrev pub invariant-loop-i : goal.invariant-loop-i
invariant-loop-i l = ReadTo (nodes l.query) l.i l.start
