-- What the readers of the lines `cols=` and `row=` reply. w is the number of columns.
use Rattle.std.specs.Prelude.{List, ℕ}
use Rattle.std.specs.Prelude.{Option}
use Rattle.laws.specs.Options.{mapped}
use Rattle.relation.specs.declared.Row.{Row}
use Rattle.text.specs.declared.line_reader.Cursor.{Cursor}
use Rattle.row_reading.specs.declared.list_reader.Numbers.{Numbers}
use Rattle.text.specs.Lines.{numbers_after, row_of}
use Rattle.row_reading.specs.NumberArrays.{numbers_of}

-- a row as the code has it
abbrev pub as_row : List ℕ → Row
as_row slots = record { slots = slots }

-- the row above, if there is one
abbrev pub above_of : Option Row → Option (List ℕ)
above_of o = mapped (λ (r : Row). r.slots) o

-- the row of a `row=` line, whatever stands above it
abbrev pub values_row : ℕ → List ℕ → List ℕ → Option (List ℕ)
values_row w cs l = row_of w cs (numbers_after "row=" l)

abbrev pub cols_due : Option (List ℕ × Cursor) → Option (Numbers × Cursor)
cols_due o = mapped (λ p. (numbers_of p.0, p.1)) o

abbrev pub row_due : Option (List ℕ × Cursor) → Option (Row × Cursor)
row_due o = mapped (λ p. (as_row p.0, p.1)) o
