-- A turn of the loop is one number more.
use native.Mathlib.Omega.{arith}
use mathlib.Core.Path.{ap, sym, ◌∙◌}
use Rattle.std.specs.Prelude.{Some}
use Rattle.laws.specs.Options.{mapped}
use Rattle.relation.specs.Rows.{columns}
use Rattle.text.specs.Numbers.{comma}
use Rattle.text.proofs.ReaderLawsLines.{found_le}
use Rattle.row_reading.specs.declared.list_reader.Numbers.{Numbers}
use Rattle.row_reading.specs.NumberArrays.{numbers_of, few}
use Rattle.row_reading.proofs.NumberLists.{turn_none, turn_bad, turn_last, turn_more, turn_full}
use Rattle.row_reading.proofs.list_reader.read_numbers.Goals as goal

pub loop-found-init : goal.loop-found-init
loop-found-init c = turn_none c.args.line.now c.args.from _ c.requires c.no_numbers-found.ensures

pub returns-in_err-n : goal.returns-in_err-n
returns-in_err-n c =
    c.from_residual.ensures
    ∙ ap (λ o. mapped numbers_of (few columns o))
    (sym (turn_bad c.args.line.now c.args.from c.loop-found.found c.loop-found.at c.loop-found.invariant c.find-end.result c.find-end.ensures (sym c.in_err-n.ensures)))

pub returns-then-line-end : goal.returns-then-line-end
returns-then-line-end c =
    ap Some c.with_number-found.ensures
    ∙ turn_last c.args.line.now c.args.from c.loop-found.found c.loop-found.at c.loop-found.invariant c.find-end.result c.find-end.ensures c.in_ok-n.n c.if-line-end.true
    (sym c.in_ok-n.ensures) c.loop-found-test.true

pub loop-found-preserved : goal.loop-found-preserved
loop-found-preserved c =
    rw c.with_number-found.ensures
    (turn_more c.args.line.now c.args.from c.loop-found.found c.loop-found.at c.loop-found.invariant c.find-end.result c.find-end.ensures c.in_ok-n.n c.if-line-end.false
    (sym c.in_ok-n.ensures) c.loop-found-test.true)

pub returns : goal.returns
returns c = ap (mapped numbers_of) (sym (turn_full c.args.line.now c.args.from c.loop-found.found c.loop-found.at c.loop-found.invariant c.loop-found-test.false))

pub slice_bounds-read_number-end : goal.slice_bounds-read_number-end
slice_bounds-read_number-end c = found_le comma c.args.line.now c.loop-found.at c.find-end.result c.find-end.ensures c.loop-found.invariant.inside

pub with_number-found-requires : goal.with_number-found-requires
with_number-found-requires c = c.loop-found-test.true

pub loop-found-smaller : goal.loop-found-smaller
loop-found-smaller c = omega (arith, ap (λ (n : Numbers). n.count) c.with_number-found.ensures)
