-- `line_count` meets its contract: the array ends the lines where the count doesn't.
use native.Mathlib.Omega.{arith}
use Rattle.query.proofs.Lengths.{query_length}
use Rattle.query_writing.proofs.QueryLines.{count_lines}
use Rattle.query_writing.proofs.line_count.Goals as goal

pub returns : goal.returns
returns c = omega (arith, count_lines c.args.query (query_length c.args.query _ c.well_formed.0))
