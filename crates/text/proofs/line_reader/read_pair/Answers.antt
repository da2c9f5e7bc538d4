use mathlib.Core.Path.{sym}
use Prim.Native.Nat.{ℕ}
use mathlib.Core.List.{List}
use lib.ListN.{drop}
use Rattle.text.specs.Numbers.{comma}
use Rattle.text.specs.Readings.{paired}
use Rattle.text.proofs.ReaderLawsLines.{found_outside}
use Rattle.text.proofs.ReaderLawsForms.{two_at, no_two}
use Rattle.text.proofs.line_reader.read_pair.Goals as goal

pub returns-then-line-comma : goal.returns-then-line-comma
returns-then-line-comma c =
    let l : List ℕ = c.args.line.now in
    sym (no_two paired (drop c.args.at l) (found_outside comma l c.args.at c.find-comma.result c.find-comma.ensures c.if-line-comma.true))

pub returns-in_err-a : goal.returns-in_err-a
returns-in_err-a c =
    rw (two_at paired c.args.line.now c.args.at c.find-comma.result c.find-comma.ensures c.requires c.if-line-comma.false, ← c.in_err-a.ensures)
    c.from_residual.ensures

pub returns-in_err-b : goal.returns-in_err-b
returns-in_err-b c =
    rw (two_at paired c.args.line.now c.args.at c.find-comma.result c.find-comma.ensures c.requires c.if-line-comma.false, ← c.in_ok-a.ensures, ← c.in_err-b.ensures)
    c.from_residual-in_err-b.ensures

pub returns : goal.returns
returns c =
    rw (two_at paired c.args.line.now c.args.at c.find-comma.result c.find-comma.ensures c.requires c.if-line-comma.false, ← c.in_ok-a.ensures, ← c.in_ok-b.ensures)
