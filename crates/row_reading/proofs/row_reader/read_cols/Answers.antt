use native.Mathlib.Omega.{arith}
use mathlib.Core.Path.{ap, sym, ◌∙◌}
use Rattle.std.specs.Prelude.{Some}
use Rattle.relation.specs.Rows.{columns}
use Rattle.text.specs.Numbers.{bytes}
use Rattle.text.specs.Readings.{numbers_behind}
use Rattle.text.proofs.ReaderLawsDue.{mapped_none}
use Rattle.row_reading.specs.NumberArrays.{numbers_of, few}
use Rattle.row_reading.proofs.LineReplies.{held, few_read, cols_form}
use Rattle.row_reading.proofs.row_reader.read_cols.Goals as goal

pub are_columns-requires : goal.are_columns-requires
unfolding bytes
are_columns-requires c =
    let o = few columns (numbers_behind (bytes "cols=") c.args.line.now) in
    let h = held o c.in_ok-found.found c.in_ok-found.ensures in
    omega (arith, h.counted, (few_read columns (numbers_behind (bytes "cols=") c.args.line.now) _ h.read).1)

pub returns-in_err-found : goal.returns-in_err-found
unfolding bytes
returns-in_err-found c =
    rw (cols_form columns c.args.line.now, mapped_none numbers_of (few columns (numbers_behind (bytes "cols=") c.args.line.now)) c.in_err-found.ensures)
    c.from_residual.ensures

pub returns-then-are_columns : goal.returns-then-are_columns
unfolding bytes
returns-then-are_columns c =
    let h = held (few columns (numbers_behind (bytes "cols=") c.args.line.now)) c.in_ok-found.found c.in_ok-found.ensures in
    rw (cols_form columns c.args.line.now, h.read, sym c.are_columns.ensures ∙ c.if-are_columns.true) (ap Some (sym h.same))

pub returns-else-are_columns : goal.returns-else-are_columns
unfolding bytes
returns-else-are_columns c =
    let h = held (few columns (numbers_behind (bytes "cols=") c.args.line.now)) c.in_ok-found.found c.in_ok-found.ensures in
    rw (cols_form columns c.args.line.now, h.read, sym c.are_columns.ensures ∙ c.if-are_columns.false)
