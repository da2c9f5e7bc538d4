-- The lines below i are written; the count comes last.
use borrow.Author.Rules.{rules}
use native.Mathlib.Omega.{arith}
use native.Mathlib.Nat.{min-eq_left}
use Prim.Native.Nat.{ℕ, ◌<◌, ◌+◌, ◌*◌}
use mathlib.Core.Path.{◌≡◌, ap, sym, ◌∙◌}
use mathlib.Core.List.{List, [], ◌∷◌}
use lib.ListN.{length, get_or, set}
use lib.Seq.{sets}
use Rattle.query.specs.declared.Node.TheVariants.{Table}
use Rattle.query.specs.Lines.{nodes, node_limit}
use Rattle.query.proofs.Lengths.{query_length}
use Rattle.flat.specs.declared.FlatLine.{FlatLine}
use Rattle.flat.specs.Flat.{line_of, line_entries, entry_limit}
use Rattle.flat.proofs.Blocks.{begun_none, begun_more, begun_all}
use Rattle.flat.proofs.FlatQueries.{line_size, count_nodes, node_of_lem}
use Rattle.flat.proofs.encode.encode_query.Lts as lts
use Rattle.flat.proofs.encode.encode_query.Reads as reads
use Rattle.flat.proofs.encode.encode_query.Tie as tie
use Rattle.flat.proofs.encode.encode_query.Goals as goal

abbrev After-min-count : Type 0
After-min-count = lts.After-min tie.the-claims reads.Pre reads.Post goal.the-invariant-loop-i goal.the-decreases-loop-i

abbrev Start : Type 0
Start = lts.Start tie.the-claims reads.Pre reads.Post goal.the-invariant-loop-i goal.the-decreases-loop-i

full : (c : Start) → length c.args.query.lines ≡ node_limit
full c = query_length c.args.query _ c.well_formed.0

-- the count is that of the nodes
counted : (c : After-min-count) → c.min-count.result ≡ length (nodes c.args.query)
counted c = c.min-count.ensures ∙ sym (count_nodes c.args.query (full c.before.before))

pub loop-i-init : goal.loop-i-init
loop-i-init c = (search rules, begun_none line_of line_entries line_size (nodes c.args.query) c.args.out.now (omega arith))

pub loop-i-preserved : goal.loop-i-preserved
loop-i-preserved c =
    let n = counted c.before.before.before.before.before.before.before.before.before in
    let h : c.loop-i.i < c.args.query.count = omega arith in
    let k : c.loop-i.i < length (nodes c.args.query) = omega arith in (
      omega arith,
      c.put_line.ensures
          ∙ ap (λ (l : FlatLine). sets c.loop-i.out (1 + line_entries * c.loop-i.i) (l.code ∷ (l.a ∷ (l.b ∷ [])))) c.from-line.ensures
          ∙ ap (λ nd. sets c.loop-i.out (1 + line_entries * c.loop-i.i) (line_of nd)) (sym (node_of_lem c.args.query c.loop-i.i h))
          ∙ ap (λ (o : List ℕ). sets o (1 + line_entries * c.loop-i.i) (line_of (get_or (nodes c.args.query) c.loop-i.i (Table 0)))) c.loop-i.invariant.1
          ∙ begun_more line_of line_entries line_size (nodes c.args.query) c.args.out.now (get_or c.args.out.now 0 0) c.loop-i.i (Table 0) k (omega arith),
    )

pub returns : goal.returns
returns c =
    let n = counted c.before.before.before in
    let e : c.entry.result ≡ length (nodes c.args.query) = c.entry.ensures ∙ min-eq_left {n = c.min-count.result} {m = entry_limit} (omega arith) ∙ n in
    ap (λ v. set c.loop-i.out 0 v) e ∙ ap (λ (o : List ℕ). set o 0 (length (nodes c.args.query))) c.loop-i.invariant.1
    ∙ begun_all line_of line_entries line_size (nodes c.args.query) c.args.out.now (get_or c.args.out.now 0 0) c.loop-i.i (length (nodes c.args.query)) (omega arith)
