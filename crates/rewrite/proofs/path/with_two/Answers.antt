-- One column, then the other.
use mathlib.Core.Path.{ap, ◌∙◌}
use Rattle.algebra.specs.Columns.{with}
use Rattle.relation.specs.declared.Columns.{Columns}
use Rattle.relation.specs.Rows.{columns, cols_of, columns_of}
use Rattle.rewrite.proofs.GrownColumns.{grown_two}
use Rattle.rewrite.proofs.path.with_two.Goals as goal

pub returns : goal.returns
returns c =
    c.with_column-2.ensures
    ∙ ap (λ (s : Columns). columns_of columns (with (cols_of columns s) c.args.d)) c.with_column.ensures
    ∙ grown_two columns (cols_of columns c.args.cols) c.args.c c.args.d
