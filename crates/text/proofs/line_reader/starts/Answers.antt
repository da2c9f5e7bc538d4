-- `starts` meets its contract: what is left of the line begins with what is left of the key.
use borrow.Author.Tests.{eqb-true, eqb-false}
use native.Mathlib.Omega.{arith}
use Prim.Native.Nat.{ℕ}
use mathlib.Core.Path.{ap, sym, ◌∙◌}
use mathlib.Core.List.{List}
use lib.ListN.{drop, drop_of_length-le}
use Rattle.text.specs.Lines.{after}
use Rattle.laws.specs.Options.{present}
use Rattle.text.proofs.ReaderLawsLines.{after_same, after_other, after_short}
use Rattle.text.proofs.line_reader.starts.Goals as goal

pub loop-i-preserved : goal.loop-i-preserved
loop-i-preserved c =
    sym
    (after_same c.args.key.now c.args.line.now c.loop-i.i c.loop-i-test.true (omega arith)
    (eqb-true _ _ (sym c.is_byte.ensures ∙ c.if-not-is_byte.false)))
    ∙ c.loop-i.invariant

pub returns-then-not-is_byte : goal.returns-then-not-is_byte
returns-then-not-is_byte c =
    ap present
    (sym
    (after_other c.args.key.now c.args.line.now c.loop-i.i c.loop-i-test.true (omega arith)
    (eqb-false _ _ (sym c.is_byte.ensures ∙ c.if-not-is_byte.true)))
    ∙ c.loop-i.invariant)

pub returns : goal.returns
unfolding after
returns c =
    let l : List ℕ = drop c.loop-i.i c.args.line.now in
    ap present (sym (ap (λ k. after k l) (drop_of_length-le c.args.key.now c.loop-i-test.false)) ∙ c.loop-i.invariant)

pub returns-then-line-key : goal.returns-then-line-key
returns-then-line-key c = ap present (sym (after_short c.args.key.now c.args.line.now c.if-line-key.true))
