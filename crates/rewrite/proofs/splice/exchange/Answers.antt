-- What follows is written first, then what stood before it.
use native.Mathlib.Omega.{arith}
use Prim.Native.Nat.{◌+◌, ◌-◌}
use mathlib.Core.Path.{◌≡◌, ap, ◌∙◌}
use lib.ListN.{length, drop}
use lib.Seq.{paste}
use Rattle.query.specs.declared.Query.{Query}
use Rattle.query.specs.Lines.{node_limit}
use Rattle.query.proofs.Lengths.{query_length}
use Rattle.rewrite.specs.Splices.{with_lines}
use Rattle.rewrite.proofs.Moves.{exchange_writes}
use Rattle.rewrite.proofs.splice.exchange.Goals as goal

pub returns : goal.returns
returns c =
    let n : length c.args.query.lines ≡ node_limit = query_length c.args.query _ c.well_formed.0 in
    c.copied.ensures
    ∙ ap (λ (q : Query). with_lines q (paste q.lines (c.args.first + (c.args.end - c.args.middle)) (drop c.args.first c.args.query.lines) (c.args.middle - c.args.first))) c.copied-moved.ensures
    ∙ ap (with_lines c.args.query) (exchange_writes c.args.first c.args.middle c.args.end c.args.query.lines (omega arith) (omega arith) (omega arith))
