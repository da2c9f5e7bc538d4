-- `put_lines` meets its contract: after i turns the lines of the first i nodes are put.
use borrow.Author.Rules.{rules}
use native.Mathlib.Omega.{arith}
use Prim.Native.Nat.{◌≤◌}
use mathlib.Core.Path.{ap, sym}
use mathlib.Core.List.{flat_map}
use lib.ListN.{length}
use lib.Seq.{take_all}
use Rattle.laws.proofs.FlatMaps.{flat_map_none}
use Rattle.query.specs.Lines.{nodes}
use Rattle.query.proofs.Lengths.{query_length}
use Rattle.text.specs.Lines.{node_text}
use Rattle.text.specs.Texts.{line_text}
use Rattle.output.proofs.Puts.{puts_none, puts_then, puts_as}
use Rattle.query_writing.proofs.QueryLines.{count_lines, more_lines}
use Rattle.query_writing.proofs.put_lines.Goals as goal

pub loop-i-init : goal.loop-i-init
loop-i-init g c = (search rules, puts_as (sym (flat_map_none _)) puts_none)

pub loop-i-preserved : goal.loop-i-preserved
loop-i-preserved g c =
    let e = count_lines c.args.query (query_length c.args.query _ c.well_formed.0) in (
      omega arith,
      puts_as (more_lines c.args.query c.loop-i.i (omega arith) (omega arith)) (puts_then c.loop-i.invariant.1 c.put_node.ensures),
    )

pub returns : goal.returns
returns g c =
    let h : length (nodes c.args.query) ≤ c.loop-i.i = omega (arith, c.line_count-count.ensures) in
    puts_as (ap (flat_map (λ n. line_text (node_text n))) (take_all _ _ h)) c.loop-i.invariant.1

pub offset_bounds-query-i : goal.offset_bounds-query-i
offset_bounds-query-i g c =
    omega (arith, count_lines c.args.query (query_length c.args.query _ c.well_formed.0), c.line_count-count.ensures)

pub bounds-query-i : goal.bounds-query-i
bounds-query-i g c =
    omega (arith, count_lines c.args.query (query_length c.args.query _ c.well_formed.0), c.line_count-count.ensures)
