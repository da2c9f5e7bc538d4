-- The lines below i are decoded.
use native.Mathlib.Omega.{arith}
use mathlib.Core.Path.{◌≡◌}
use Rattle.laws.proofs.Indexed.{written_all}
use Rattle.query.specs.Lines.{node_limit}
use Rattle.flat.proofs.decode.decode_lines.Goals as goal

pub returns : goal.returns
returns c =
    let e : c.loop-i.i ≡ node_limit = omega arith in
    written_all (rw e at c.loop-i.invariant.1)
