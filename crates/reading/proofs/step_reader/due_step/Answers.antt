use mathlib.Core.Path.{ap, sym}
use Rattle.laws.specs.Options.{mapped}
use Rattle.text.specs.Lines.{step_line}
use Rattle.text.specs.Cursors.{cursor, unnumbered}
use Rattle.text.proofs.ReaderLawsDue.{due_missing, due_read}
use Rattle.reading.proofs.step_reader.due_step.Goals as goal

pub returns-then-text-end : goal.returns-then-text-end
returns-then-text-end c n = ap (mapped unnumbered) (sym (due_missing step_line c.args.text.now (cursor c.args.at n) c.find-end.result c.find-end.ensures c.if-text-end.true))

pub returns-in_err-step : goal.returns-in_err-step
returns-in_err-step c n =
    rw (due_read step_line c.args.text.now (cursor c.args.at n) c.find-end.result c.find-end.ensures c.if-text-end.false, ← c.in_err-step.ensures)
    c.from_residual.ensures

pub returns : goal.returns
returns c n =
    rw (due_read step_line c.args.text.now (cursor c.args.at n) c.find-end.result c.find-end.ensures c.if-text-end.false, ← c.in_ok-step.ensures)
