-- Within the columns the array is read; past them there is no column.
use mathlib.Core.Path.{refl, sym}
use Rattle.relation.specs.Rows.{columns}
use Rattle.relation.proofs.CodeRows.{held, past}
use Rattle.column_sets.proofs.has_column.Goals as goal

pub returns-then-c-lt-COLUMNS : goal.returns-then-c-lt-COLUMNS
returns-then-c-lt-COLUMNS c = sym (held columns c.args.cols c.args.c c.if-c-lt-COLUMNS.true refl)

pub returns-else-c-lt-COLUMNS : goal.returns-else-c-lt-COLUMNS
returns-else-c-lt-COLUMNS c = sym (past columns c.args.cols c.args.c c.if-c-lt-COLUMNS.false)
