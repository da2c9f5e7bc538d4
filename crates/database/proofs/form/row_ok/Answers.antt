-- The row is read, and the one before it where there is one.
use borrow.Author.Tests.{eq-eqb, ne_eqb}
use mathlib.Core.Path.{ap, ap₂, sym, ◌∙◌}
use Rattle.relation.specs.Rows.{Row, columns, cols_of, absent_zero, ordered, is_less}
use Rattle.database.proofs.form.row_ok.Goals as goal

pub returns-else-absent_zero : goal.returns-else-absent_zero
returns-else-absent_zero c =
    let zeros = ap (absent_zero columns (cols_of columns c.args.cols)) (sym c.row_at-row.ensures) ∙ sym c.absent_zero.ensures in
    rw (zeros, c.if-absent_zero.false)

pub returns-then-i-eq0 : goal.returns-then-i-eq0
returns-then-i-eq0 c =
    let zeros = ap (absent_zero columns (cols_of columns c.args.cols)) (sym c.row_at-row.ensures) ∙ sym c.absent_zero.ensures in
    rw (zeros, c.if-absent_zero.true, eq-eqb _ 0 c.if-i-eq0.true)

pub returns-else-i-eq0 : goal.returns-else-i-eq0
returns-else-i-eq0 c =
    let zeros = ap (absent_zero columns (cols_of columns c.args.cols)) (sym c.row_at-row.ensures) ∙ sym c.absent_zero.ensures in
    rw (zeros, c.if-absent_zero.true, ne_eqb _ 0 c.if-i-eq0.false)
    (c.less.ensures ∙ ap₂ (λ (r s : Row). is_less (ordered r s)) c.row_at.ensures c.row_at-row.ensures)
