use mathlib.Core.Path.{sym}
use Rattle.relation.specs.Rows.{columns}
use Rattle.text.specs.Lines.{node_line}
use Rattle.text.proofs.ReaderLawsDue.{due_missing, due_read}
use Rattle.node_reading.proofs.due_node.Goals as goal

pub returns-then-text-end : goal.returns-then-text-end
returns-then-text-end c = sym (due_missing (node_line columns) c.args.text.now c.args.c c.find-end.result c.find-end.ensures c.if-text-end.true)

pub returns-in_err-n : goal.returns-in_err-n
returns-in_err-n c =
    rw (due_read (node_line columns) c.args.text.now c.args.c c.find-end.result c.find-end.ensures c.if-text-end.false, ← c.in_err-n.ensures)
    c.from_residual.ensures

pub returns : goal.returns
returns c =
    rw (due_read (node_line columns) c.args.text.now c.args.c c.find-end.result c.find-end.ensures c.if-text-end.false, ← c.in_ok-n.ensures)
