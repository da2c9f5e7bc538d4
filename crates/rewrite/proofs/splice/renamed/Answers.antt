-- Before line i the lines from the first on are renamed.
use native.Mathlib.Omega.{arith}
use Prim.Native.Nat.{ℕ, ◌-◌, ◌+◌}
use mathlib.Core.Path.{◌≡◌, ap, sym, ◌∙◌}
use mathlib.Core.List.{List}
use lib.ListN.{length, set, get_or, drop, length-drop, length-map, get_or-map}
use lib.Seq.{paste, get_or-drop}
use Rattle.rewrite.proofs.Splices.{copy_more}
use Rattle.query.specs.declared.Line.{Line}
use Rattle.query.specs.declared.Query.{Query}
use Rattle.query.specs.Lines.{node_limit, line, blank}
use Rattle.query.proofs.Lengths.{query_length}
use Rattle.rewrite.specs.Splices.{with_lines, renamed_line}
use Rattle.rewrite.proofs.splice.renamed.Invariants.{source}
use Rattle.rewrite.proofs.splice.renamed.Goals as goal

pub loop-i-preserved : goal.loop-i-preserved
loop-i-preserved c =
    let i : ℕ = c.loop-i.i in
    let k : ℕ = i - c.args.first in
    let src : List Line = c.args.query.lines in
    let vs : List Line = source c.args.query c.args.first c.args.u c.args.v in
    let ns : length src ≡ node_limit = query_length c.args.query _ c.well_formed.0 in
    let nv : length vs ≡ length src - c.args.first = length-map (drop c.args.first src) (renamed_line c.args.u c.args.v) ∙ length-drop c.args.first src in
    let e : c.args.first + k ≡ i = omega arith in
    let f : k + 1 ≡ i + 1 - c.args.first = omega arith in
    let x : line c.rename_line.result ≡ get_or vs k blank =
    ap line c.rename_line.ensures ∙ ap (λ (j : ℕ). renamed_line c.args.u c.args.v (get_or src j blank)) (sym e)
    ∙ ap (renamed_line c.args.u c.args.v) (sym (get_or-drop c.args.first src k blank)) ∙ sym (get_or-map (renamed_line c.args.u c.args.v) (drop c.args.first src) k blank) in
    ap (λ (q : Query). with_lines q (set q.lines i (line c.rename_line.result))) c.loop-i.invariant
    ∙ ap (with_lines c.args.query) (copy_more src c.args.first vs k i blank _ e (omega arith) (omega arith) x ∙ ap (paste src c.args.first vs) f)
