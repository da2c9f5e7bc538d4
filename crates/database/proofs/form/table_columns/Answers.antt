-- A table of the book has what is stored for it, any other none.
use native.Mathlib.Omega.{arith}
use mathlib.Core.Path.{ap, ◌∙◌}
use Rattle.relation.specs.Rows.{columns, columns_of}
use Rattle.database.proofs.CodeStored.{columns_length, table_size, columns_stored, columns_none, columns_past}
use Rattle.database.proofs.form.table_columns.Goals.{then-database-t-via-then-database-t, then-database-t-via-else-database-t+then-t-ge-TABLES}
use Rattle.database.proofs.form.table_columns.Goals as goal

pub returns-then-database-t : goal.returns-then-database-t
returns-then-database-t c =
    c.no_columns.ensures ∙ ap (columns_of columns) (elim c.then-database-t.branch [
      | then-database-t-via-then-database-t w ↦ columns_none columns c.args.database c.args.t w.if-database-t.true
      | then-database-t-via-else-database-t+then-t-ge-TABLES w ↦ columns_past columns c.args.database c.args.t (omega (arith, w.if-t-ge-TABLES.true, columns_length c.args.database _ c.well_formed.0))
    ])

pub returns : goal.returns
returns c =
    columns_stored columns c.args.database c.args.t c.if-database-t.false (table_size c.args.database _ c.well_formed.0 c.args.t c.if-t-ge-TABLES.false)
