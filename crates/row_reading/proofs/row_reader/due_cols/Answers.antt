use mathlib.Core.Path.{ap, sym, ◌∙◌}
use Rattle.laws.specs.Options.{mapped}
use Rattle.relation.specs.Rows.{columns}
use Rattle.text.specs.Lines.{cols_line}
use Rattle.text.specs.Cursors.{behind_line}
use Rattle.text.proofs.ReaderLawsDue.{due_missing, due_read}
use Rattle.row_reading.specs.RowReading.{cols_due}
use Rattle.row_reading.proofs.LineReplies.{cols_behind}
use Rattle.row_reading.proofs.row_reader.due_cols.Goals as goal

pub returns-then-text-end : goal.returns-then-text-end
returns-then-text-end c = ap cols_due (sym (due_missing (cols_line columns) c.args.text.now c.args.c c.find-end.result c.find-end.ensures c.if-text-end.true))

pub returns-in_err-cols : goal.returns-in_err-cols
returns-in_err-cols c =
    c.from_residual.ensures
    ∙ ap (mapped (λ ns. (ns, behind_line c.args.c c.find-end.result))) c.in_err-cols.ensures
    ∙ cols_behind (behind_line c.args.c c.find-end.result) _
    ∙ ap cols_due (sym (due_read (cols_line columns) c.args.text.now c.args.c c.find-end.result c.find-end.ensures c.if-text-end.false))

pub returns : goal.returns
returns c =
    ap (mapped (λ ns. (ns, behind_line c.args.c c.find-end.result))) c.in_ok-cols.ensures
    ∙ cols_behind (behind_line c.args.c c.find-end.result) _
    ∙ ap cols_due (sym (due_read (cols_line columns) c.args.text.now c.args.c c.find-end.result c.find-end.ensures c.if-text-end.false))
