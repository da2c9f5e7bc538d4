-- One entry is written; there is none past the columns.
use borrow.Author.Rules.{rules}
use mathlib.Core.Path.{◌≡◌}
use mathlib.Core.Bool.{true}
use lib.ListN.{length}
use Rattle.algebra.specs.Columns.{with}
use Rattle.relation.specs.Rows.{columns}
use Rattle.relation.proofs.CodeRows.{columns_put, columns_past}
use Rattle.column_sets.proofs.with_column.Goals.{Start}
use Rattle.column_sets.proofs.with_column.Goals as goal

size : (c : Start) → length c.args.cols.has ≡ columns
size c = search rules

pub returns-then-c-lt-COLUMNS : goal.returns-then-c-lt-COLUMNS
unfolding with
returns-then-c-lt-COLUMNS c = columns_put columns c.args.cols (size c.before) c.args.c true

pub returns-else-c-lt-COLUMNS : goal.returns-else-c-lt-COLUMNS
unfolding with
returns-else-c-lt-COLUMNS c = columns_past columns c.args.cols (size c.before) c.args.c true c.if-c-lt-COLUMNS.false
