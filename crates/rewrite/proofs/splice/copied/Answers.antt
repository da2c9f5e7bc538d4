-- After k lines the first k are copied.
use native.Mathlib.Omega.{arith}
use Prim.Native.Nat.{ℕ, ◌-◌, ◌+◌}
use mathlib.Core.Path.{◌≡◌, refl, ap, sym, ◌∙◌}
use mathlib.Core.List.{List}
use lib.ListN.{length, set, get_or, drop, length-drop}
use lib.Seq.{get_or-drop}
use Rattle.rewrite.proofs.Splices.{copy_more}
use Rattle.query.specs.declared.Line.{Line}
use Rattle.query.specs.declared.Query.{Query}
use Rattle.query.specs.Lines.{node_limit, blank}
use Rattle.query.proofs.Lengths.{query_length}
use Rattle.rewrite.specs.Splices.{with_lines}
use Rattle.rewrite.proofs.splice.copied.Goals as goal

pub loop-k-preserved : goal.loop-k-preserved
loop-k-preserved c =
    let k : ℕ = c.loop-k.k in
    let src : List Line = c.args.from.lines in
    let vs : List Line = drop c.args.first src in
    let dst : List Line = c.args.to.lines in
    let ns : length src ≡ node_limit = query_length c.args.from _ c.well_formed.0 in
    let nd : length dst ≡ node_limit = query_length c.args.to _ c.well_formed.1.1.1.0 in
    let nv : length vs ≡ length src - c.args.first = length-drop c.args.first src in
    ap (λ (q : Query). with_lines q (set q.lines (c.args.at + k) (get_or src (c.args.first + k) blank))) c.loop-k.invariant
    ∙ ap (with_lines c.args.to) (copy_more dst c.args.at vs k (c.args.at + k) blank _ refl (omega arith) (omega arith) (sym (get_or-drop c.args.first src k blank)))
