-- A column of a needs no look at b.
use Rattle.algebra.specs.Columns.{both}
use Rattle.column_sets.proofs.in_either.Goals as goal

pub returns-then-has_column : goal.returns-then-has_column
unfolding both
returns-then-has_column c = rw (← c.has_column.ensures, c.if-has_column.true)

pub returns-else-has_column : goal.returns-else-has_column
unfolding both
returns-else-has_column c = rw (← c.has_column.ensures, c.if-has_column.false) c.has_column-else-has_column.ensures
