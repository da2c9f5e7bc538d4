-- The columns from k on are still to be filled.
use borrow.Author.Rules.{rules}
use native.Mathlib.Omega.{arith}
use Prim.Native.Nat.{ℕ, ◌<◌, ◌+◌}
use mathlib.Core.Path.{◌≡◌, refl, ap, ap₂, sym, ◌∙◌}
use lib.ListN.{length, drop, get_or}
use Rattle.relation.specs.Rows.{columns}
use Rattle.text.specs.Lines.{filled}
use Rattle.row_reading.specs.NumberArrays.{listed}
use Rattle.row_reading.proofs.RowLists.{listed_next, listed_end, filled_more, filled_all}
use Rattle.row_reading.proofs.row_reader.row_of.Lts as lts
use Rattle.row_reading.proofs.row_reader.row_of.Reads as reads
use Rattle.row_reading.proofs.row_reader.row_of.Tie as tie
use Rattle.row_reading.proofs.row_reader.row_of.Goals as goal

abbrev Start : Type 0
Start = lts.Start tie.the-claims reads.Pre reads.Post goal.the-invariant-loop-k goal.the-decreases-loop-k

wide : (c : Start) → length c.args.cols.values ≡ columns
wide c = search rules

wide_2 : (c : Start) → length c.args.values.values ≡ columns
wide_2 c = search rules

pub loop-k-preserved : goal.loop-k-preserved
loop-k-preserved c =
    let a = wide c.before.before.before.before.before in
    let b = wide_2 c.before.before.before.before.before in
    let h : c.loop-k.k < c.args.cols.count = c.loop-k-test.true in
    let q : c.args.values.count ≡ c.args.cols.count = c.requires.1 in
    let v : ℕ = get_or c.args.values.values c.loop-k.k 0 in (
      omega arith,
      ap (λ r. filled r (drop (c.loop-k.k + 1) (listed c.args.cols)) (drop (c.loop-k.k + 1) (listed c.args.values))) c.with_slot-row.ensures
          ∙ sym (filled_more c.loop-k.row.slots c.number_at-c.result v (drop (c.loop-k.k + 1) (listed c.args.cols)) (drop (c.loop-k.k + 1) (listed c.args.values)))
          ∙ ap₂ (filled c.loop-k.row.slots) (listed_next c.args.cols c.loop-k.k (omega arith) (omega arith) c.number_at-c.result c.number_at-c.ensures)
          (listed_next c.args.values c.loop-k.k (omega arith) (omega arith) v refl)
          ∙ c.loop-k.invariant.1,
    )

pub returns : goal.returns
returns c =
    sym (filled_all c.loop-k.row.slots (drop c.loop-k.k (listed c.args.values)))
    ∙ ap (λ cs. filled c.loop-k.row.slots cs (drop c.loop-k.k (listed c.args.values))) (sym (listed_end c.args.cols c.loop-k.k c.loop-k-test.false))
    ∙ c.loop-k.invariant.1
