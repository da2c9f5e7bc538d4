use mathlib.Core.Path.{sym, ◌∙◌}
use Rattle.relation.specs.Rows.{columns}
use Rattle.text.specs.Lines.{row_line}
use Rattle.text.proofs.ReaderLawsDue.{mapped_none}
use Rattle.row_reading.specs.NumberArrays.{listed}
use Rattle.row_reading.specs.RowReading.{as_row, values_row}
use Rattle.row_reading.proofs.LineReplies.{row_held}
use Rattle.row_reading.proofs.row_reader.read_row.Goals as goal

pub returns-in_err-row : goal.returns-in_err-row
unfolding row_line
returns-in_err-row c = rw (mapped_none as_row (values_row columns (listed c.args.cols) c.args.line.now) c.in_err-row.ensures) c.from_residual.ensures

pub returns-in_default : goal.returns-in_default
unfolding row_line
returns-in_default c = rw (c.in_default.is, row_held (values_row columns (listed c.args.cols) c.args.line.now) c.in_ok-row.row c.in_ok-row.ensures)

pub returns-then-less : goal.returns-then-less
unfolding row_line
returns-then-less c =
    rw (c.in-Some.is, row_held (values_row columns (listed c.args.cols) c.args.line.now) c.in_ok-row.row c.in_ok-row.ensures, sym c.less.ensures ∙ c.if-less.true)

pub returns-else-less : goal.returns-else-less
unfolding row_line
returns-else-less c =
    rw (c.in-Some.is, row_held (values_row columns (listed c.args.cols) c.args.line.now) c.in_ok-row.row c.in_ok-row.ensures, sym c.less.ensures ∙ c.if-less.false)
