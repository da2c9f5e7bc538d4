-- The columns of the tables below t are decoded.
use native.Mathlib.Omega.{arith}
use mathlib.Core.Path.{◌≡◌}
use Rattle.laws.proofs.Indexed.{written_all}
use Rattle.database.specs.Stored.{table_limit}
use Rattle.flat.proofs.decode.decode_columns.Goals as goal

pub returns : goal.returns
returns c =
    let e : c.loop-t.t ≡ table_limit = omega arith in
    written_all (rw e at c.loop-t.invariant.1)
