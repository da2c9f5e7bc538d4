-- One column put into the empty set.
use mathlib.Core.Path.{ap, ◌∙◌}
use Rattle.algebra.specs.Columns.{no_cols, with}
use Rattle.relation.specs.declared.Columns.{Columns}
use Rattle.relation.specs.Rows.{columns, cols_of, columns_of}
use Rattle.node_columns.proofs.ColumnNodes.{with_same}
use Rattle.node_columns.proofs.one_column.Goals as goal

pub returns : goal.returns
returns c =
    c.with_column.ensures ∙ ap (λ (s : Columns). columns_of columns (with (cols_of columns s) c.args.c)) c.no_columns.ensures
    ∙ with_same columns no_cols c.args.c
