-- The column is none of the first k.
use borrow.Author.Rules.{rules}
use native.Mathlib.Omega.{arith}
use Prim.Native.Nat.{ℕ, ◌+◌}
use mathlib.Core.Path.{◌≡◌, ap, sym, ◌∙◌}
use mathlib.Core.List.{◌∷◌}
use lib.ListN.{length, drop}
use Rattle.laws.specs.Lists.{member}
use Rattle.relation.specs.Rows.{columns}
use Rattle.row_reading.specs.declared.list_reader.Numbers.{Numbers}
use Rattle.row_reading.specs.NumberArrays.{listed}
use Rattle.row_reading.proofs.RowLists.{listed_next, listed_end, member_here, member_later, member_none}
use Rattle.loading.proofs.table_reader.lists.Lts as lts
use Rattle.loading.proofs.table_reader.lists.Reads as reads
use Rattle.loading.proofs.table_reader.lists.Tie as tie
use Rattle.loading.proofs.table_reader.lists.Goals as goal

abbrev After-number_at : Type 0
After-number_at = lts.After-number_at tie.the-claims reads.Pre reads.Post goal.the-invariant-loop-k goal.the-decreases-loop-k

abbrev Start : Type 0
Start = lts.Start tie.the-claims reads.Pre reads.Post goal.the-invariant-loop-k goal.the-decreases-loop-k

wide : (c : Start) → length c.args.cols.values ≡ columns
wide c = search rules

module _ (c : After-number_at) where
  abbrev cols : Numbers
  cols = c.args.cols

  abbrev k : ℕ
  k = c.loop-k.k

  abbrev value : ℕ
  value = c.number_at.result

  next : member c.args.c (value ∷ drop (k + 1) (listed cols)) ≡ member c.args.c (listed cols)
  next =
      let e = wide c.before.before.before in
      ap (member c.args.c) (listed_next cols k (omega arith) c.loop-k-test.true value c.number_at.ensures)
      ∙ c.loop-k.invariant.1

pub returns-then-c-number_at : goal.returns-then-c-number_at
returns-then-c-number_at c =
    sym (member_here c.args.c (value c.before) (drop (k c.before + 1) (listed (cols c.before))) c.if-c-number_at.true) ∙ next c.before

pub loop-k-preserved : goal.loop-k-preserved
loop-k-preserved c =
    (omega arith, sym (member_later c.args.c (value c.before) (drop (k c.before + 1) (listed (cols c.before))) c.if-c-number_at.false) ∙ next c.before)

pub returns : goal.returns
returns c =
    sym (member_none c.args.c) ∙ ap (member c.args.c) (sym (listed_end c.args.cols c.loop-k.k c.loop-k-test.false)) ∙ c.loop-k.invariant.1
