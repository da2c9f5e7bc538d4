-- The numbers from k on ascend from low on, as all of them do from 0 on.
use borrow.Author.Rules.{rules}
use native.Mathlib.Omega.{arith}
use Prim.Native.Nat.{ℕ, ◌+◌}
use mathlib.Core.Path.{◌≡◌, ap, sym, ◌∙◌}
use mathlib.Core.List.{List, ◌∷◌}
use lib.ListN.{length, drop}
use Rattle.relation.specs.Rows.{columns}
use Rattle.row_reading.specs.declared.list_reader.Numbers.{Numbers}
use Rattle.row_reading.specs.NumberArrays.{listed}
use Rattle.row_reading.proofs.RowLists.{listed_next, listed_end, within, within_more, within_low, within_high, within_none, within_columns}
use Rattle.row_reading.proofs.row_reader.are_columns.Lts as lts
use Rattle.row_reading.proofs.row_reader.are_columns.Reads as reads
use Rattle.row_reading.proofs.row_reader.are_columns.Tie as tie
use Rattle.row_reading.proofs.row_reader.are_columns.Goals as goal

abbrev After-number_at-c : Type 0
After-number_at-c = lts.After-number_at tie.the-claims reads.Pre reads.Post goal.the-invariant-loop-k goal.the-decreases-loop-k

abbrev Start : Type 0
Start = lts.Start tie.the-claims reads.Pre reads.Post goal.the-invariant-loop-k goal.the-decreases-loop-k

wide : (c : Start) → length c.args.numbers.values ≡ columns
wide c = search rules

module _ (c : After-number_at-c) where
  abbrev numbers : Numbers
  numbers = c.args.numbers

  abbrev k : ℕ
  k = c.loop-k.k

  abbrev low : ℕ
  low = c.loop-k.low

  abbrev value : ℕ
  value = c.number_at-c.result

  abbrev rest : List ℕ
  rest = drop (k + 1) (listed numbers)

  here : within columns low (value ∷ rest) ≡ within columns 0 (listed numbers)
  here =
      let e = wide c.before.before.before in
      ap (within columns low) (listed_next numbers k (omega arith) c.loop-k-test.true value c.number_at-c.ensures) ∙ c.loop-k.invariant.1

pub loop-k-preserved : goal.loop-k-preserved
loop-k-preserved c =
    (omega arith, sym (within_more columns (low c.before.before) (value c.before.before) (rest c.before.before) c.if-c-low.false c.if-c-ge-COLUMNS.false) ∙ here c.before.before)

pub returns-then-c-low : goal.returns-then-c-low
returns-then-c-low c = sym (within_low columns (low c.before) (value c.before) (rest c.before) c.if-c-low.true) ∙ here c.before ∙ within_columns columns (listed (numbers c.before))

pub returns-then-c-ge-COLUMNS : goal.returns-then-c-ge-COLUMNS
returns-then-c-ge-COLUMNS c = sym (within_high columns (low c.before.before) (value c.before.before) (rest c.before.before) c.if-c-ge-COLUMNS.true) ∙ here c.before.before ∙ within_columns columns (listed (numbers c.before.before))

pub returns : goal.returns
returns c = sym (within_none columns c.loop-k.low) ∙ ap (within columns c.loop-k.low) (sym (listed_end c.args.numbers c.loop-k.k c.loop-k-test.false)) ∙ c.loop-k.invariant.1 ∙ within_columns columns (listed c.args.numbers)
