-- Right seed, join, step, renamed right step, union and fix are written one after the other.
use native.Mathlib.Omega.{arith}
use Prim.Native.Nat.{ℕ, ◌+◌, ◌-◌}
use mathlib.Core.Path.{◌≡◌, ap, ◌∙◌}
use mathlib.Core.List.{map}
use lib.ListN.{length, set, drop}
use lib.Seq.{paste}
use Rattle.algebra.specs.declared.Pairing.TheVariants.{Union, Join}
use Rattle.query.specs.declared.Node.TheVariants.{Pair, Fix}
use Rattle.query.specs.declared.Query.{Query}
use Rattle.query.specs.Lines.{node_limit, line}
use Rattle.query.proofs.Lengths.{query_length}
use Rattle.rewrite.specs.Splices.{with_lines, renamed_line}
use Rattle.rewrite.proofs.Moves.{merge_writes}
use Rattle.rewrite.proofs.splice.merge.Goals as goal

pub returns : goal.returns
returns c =
    let n : ℕ = c.args.right - (c.args.fix + 1) in
    let size : length c.args.query.lines ≡ node_limit = query_length c.args.query _ c.well_formed.0 in
    c.with_node.ensures
    ∙ ap (λ (q : Query). with_lines q (set q.lines c.args.join (line (Fix c.args.v))))
    (c.with_node-united.ensures
    ∙ ap (λ (q : Query). with_lines q (set q.lines (c.args.join - 1) (line (Pair Union))))
    (c.renamed.ensures
    ∙ ap (λ (q : Query). with_lines q (paste q.lines c.args.right (map (renamed_line c.args.u c.args.v) (drop c.args.right q.lines)) (c.args.join - 1 - c.args.right)))
    (c.copied-stepped.ensures
    ∙ ap (λ (q : Query). with_lines q (paste q.lines (c.args.step + n + 1) (drop c.args.step c.args.query.lines) (c.args.fix - c.args.step)))
    (c.with_node-joined.ensures
    ∙ ap (λ (q : Query). with_lines q (set q.lines (c.args.step + n) (line (Pair Join)))) c.copied-seeded.ensures))))
    ∙ ap (with_lines c.args.query)
    (merge_writes (renamed_line c.args.u c.args.v) (line (Pair Join)) (line (Pair Union)) (line (Fix c.args.v)) c.args.step c.args.fix c.args.right c.args.join c.args.query.lines
    (omega arith) (omega arith) (omega arith) (omega arith))
