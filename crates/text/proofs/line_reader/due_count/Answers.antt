use mathlib.Core.Path.{ap, sym}
use Rattle.laws.specs.Options.{mapped}
use Rattle.text.specs.Cursors.{cursor, unnumbered, count_form}
use Rattle.text.proofs.ReaderLawsDue.{due_missing, due_read}
use Rattle.text.proofs.line_reader.due_count.Goals as goal

pub returns-then-text-end : goal.returns-then-text-end
returns-then-text-end c n =
    ap (mapped unnumbered) (sym (due_missing (count_form c.args.key.now c.args.most) c.args.text.now (cursor c.args.at n) c.find-end.result c.find-end.ensures c.if-text-end.true))

pub returns-in_err-n : goal.returns-in_err-n
returns-in_err-n c n =
    rw (due_read (count_form c.args.key.now c.args.most) c.args.text.now (cursor c.args.at n) c.find-end.result c.find-end.ensures c.if-text-end.false, ← c.in_err-n.ensures)
    c.from_residual.ensures

pub returns : goal.returns
returns c n =
    rw (due_read (count_form c.args.key.now c.args.most) c.args.text.now (cursor c.args.at n) c.find-end.result c.find-end.ensures c.if-text-end.false, ← c.in_ok-n.ensures)
