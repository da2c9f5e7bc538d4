-- `find` meets its contract: the byte stands where it is found from here on.
use borrow.Author.Tests.{eqb-true, eqb-false}
use native.Mathlib.Omega.{arith}
use mathlib.Core.Path.{sym, ◌∙◌}
use Rattle.text.proofs.ReaderLawsLines.{before_here, before_later, before_end}
use Rattle.text.proofs.line_reader.find.Goals as goal

pub loop-i-preserved : goal.loop-i-preserved
loop-i-preserved c = (
  omega (
    arith,
    before_later c.args.b c.args.text.now c.loop-i.i c.loop-i-test.true (eqb-false _ _ (sym c.is_byte.ensures ∙ c.if-is_byte.false)),
    c.loop-i.invariant.0,
  ),
  omega arith,
)

pub returns-then-is_byte : goal.returns-then-is_byte
returns-then-is_byte c =
    omega (
      arith,
      before_here c.args.b c.args.text.now c.loop-i.i c.loop-i-test.true (eqb-true _ _ (sym c.is_byte.ensures ∙ c.if-is_byte.true)),
      c.loop-i.invariant.0,
    )

pub returns : goal.returns
returns c = omega (arith, before_end c.args.b c.args.text.now c.loop-i.i c.loop-i-test.false, c.loop-i.invariant, c.max.ensures)
