-- The bits of the columns below c are summed.
use borrow.Author.Rules.{rules}
use borrow.Author.Tests.{lt-ltb}
use native.Mathlib.Omega.{arith}
use Prim.Native.Nat.{◌≤◌, ◌<◌, ◌+◌, ◌*◌, ◌^◌}
use mathlib.Core.Path.{refl, ap, sym, ◌∙◌}
use mathlib.Core.Bool.{false, ◌&&◌}
use lib.ListN.{get_or}
use Rattle.laws.specs.Lists.{when◌then◌else◌}
use Rattle.relation.specs.Rows.{columns, cols_of}
use Rattle.flat.specs.Flat.{bit_set}
use Rattle.flat.proofs.BitSets.{if_below, power_below, power_more, bits_none, bits_more, bits_below}
use Rattle.flat.proofs.encode.bits_of.Lts as lts
use Rattle.flat.proofs.encode.bits_of.Reads as reads
use Rattle.flat.proofs.encode.bits_of.Tie as tie
use Rattle.flat.proofs.encode.bits_of.Goals as goal

abbrev After-worth_if-bits : Type 0
After-worth_if-bits = lts.After-worth_if tie.the-claims reads.Pre reads.Post goal.the-invariant-loop-c goal.the-decreases-loop-c

abbrev At-loop-c : Type 0
At-loop-c = lts.At-loop tie.the-claims reads.Pre reads.Post goal.the-invariant-loop-c goal.the-decreases-loop-c

pub loop-c-init : goal.loop-c-init
loop-c-init c = (search rules, refl, bits_none (cols_of columns c.args.set))

-- what is added is small
small : (c : After-worth_if-bits) → c.worth_if-bits.result ≤ 2 ^ columns
small c =
    omega (
      arith,
      c.worth_if-bits.ensures,
      if_below (get_or c.args.set.has c.loop-c.c false) c.loop-c.worth,
      c.loop-c.invariant.1,
      power_below c.loop-c.c columns c.loop-c.invariant.0,
    )

low : (c : At-loop-c) → (c.loop-c.bits < 2 ^ columns) × (c.loop-c.worth ≤ 2 ^ columns)
low c = (
  omega (arith, c.loop-c.invariant.2, bits_below (cols_of columns c.args.set) c.loop-c.c, power_below c.loop-c.c columns c.loop-c.invariant.0),
  omega (arith, c.loop-c.invariant.1, power_below c.loop-c.c columns c.loop-c.invariant.0),
)

pub loop-c-preserved : goal.loop-c-preserved
loop-c-preserved c = (
  omega arith,
  ap (λ n. n * 2) c.loop-c.invariant.1 ∙ power_more c.loop-c.c,
  ap (λ n. c.loop-c.bits + n) c.worth_if-bits.ensures
      ∙ ap (λ n. c.loop-c.bits + (when get_or c.args.set.has c.loop-c.c false then n else 0)) c.loop-c.invariant.1
      ∙ ap (λ n. n + (when get_or c.args.set.has c.loop-c.c false then 2 ^ c.loop-c.c else 0)) c.loop-c.invariant.2
      ∙ ap (λ b. bit_set c.loop-c.c (cols_of columns c.args.set) + (when b && get_or c.args.set.has c.loop-c.c false then 2 ^ c.loop-c.c else 0)) (sym (lt-ltb c.loop-c.c columns (omega arith)))
      ∙ bits_more (cols_of columns c.args.set) c.loop-c.c,
)

pub overflow_add-bits : goal.overflow_add-bits
overflow_add-bits c = omega (arith, small c, low c.before.before.before)
