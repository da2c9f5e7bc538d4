use mathlib.Core.Path.{ap, sym, ◌∙◌}
use Rattle.laws.specs.Options.{mapped}
use Prim.Native.Nat.{ℕ}
use mathlib.Core.List.{List}
use Rattle.std.specs.Prelude.{Option}
use Rattle.relation.specs.declared.Row.{Row}
use Rattle.relation.specs.Rows.{columns}
use Rattle.text.specs.Lines.{row_line}
use Rattle.text.specs.Cursors.{behind_line}
use Rattle.text.proofs.ReaderLawsDue.{due_missing, due_read}
use Rattle.row_reading.specs.declared.list_reader.Numbers.{Numbers}
use Rattle.row_reading.specs.NumberArrays.{listed}
use Rattle.row_reading.specs.RowReading.{above_of, row_due}
use Rattle.row_reading.proofs.LineReplies.{row_behind}
use Rattle.row_reading.proofs.row_reader.due_row.Goals as goal

abbrev form : Numbers → Option Row → List ℕ → Option (List ℕ)
form cols above = row_line columns (listed cols) (above_of above)

pub returns-then-text-end : goal.returns-then-text-end
returns-then-text-end c = ap row_due (sym (due_missing (form c.args.cols c.args.above) c.args.text.now c.args.c c.find-end.result c.find-end.ensures c.if-text-end.true))

pub returns-in_err-row : goal.returns-in_err-row
returns-in_err-row c =
    c.from_residual.ensures
    ∙ ap (mapped (λ r. (r, behind_line c.args.c c.find-end.result))) c.in_err-row.ensures
    ∙ row_behind (behind_line c.args.c c.find-end.result) _
    ∙ ap row_due (sym (due_read (form c.args.cols c.args.above) c.args.text.now c.args.c c.find-end.result c.find-end.ensures c.if-text-end.false))

pub returns : goal.returns
returns c =
    ap (mapped (λ r. (r, behind_line c.args.c c.find-end.result))) c.in_ok-row.ensures
    ∙ row_behind (behind_line c.args.c c.find-end.result) _
    ∙ ap row_due (sym (due_read (form c.args.cols c.args.above) c.args.text.now c.args.c c.find-end.result c.find-end.ensures c.if-text-end.false))
