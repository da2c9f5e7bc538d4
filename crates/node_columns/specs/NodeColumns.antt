-- The columns of each node as the code holds them.
use Rattle.std.specs.Prelude.{List, map, ℕ, take}
use Rattle.algebra.specs.declared.Pairing.{Pairing}
use Rattle.algebra.specs.declared.Pairing.TheVariants.{Union, Join, Except}
use Rattle.algebra.specs.Columns.{no_cols, both, Schema, cols}
use Rattle.relation.specs.declared.Columns.{Columns}
use Rattle.relation.specs.Rows.{columns, cols_of, columns_of}
use Rattle.query.specs.declared.Query.{Query}
use Rattle.query.specs.Facts.{Visit, padded}
use Rattle.query.specs.Passes.{visits_of}

-- the columns of a pair, from those of its sides
abbrev pub pair_columns : Pairing → Columns → Columns → Columns
pair_columns Union left right = left
pair_columns Join left right = columns_of columns (both (cols_of columns left) (cols_of columns right))
pair_columns Except left right = left

-- the columns of a node
abbrev pub node_columns : Schema → Visit → Columns
node_columns G x = columns_of columns (cols G x.variable x.term)

-- of the first i nodes, and of all, in node order
abbrev pub columns_to : Schema → Query → ℕ → List Columns
columns_to G q i = padded (columns_of columns no_cols) (map (node_columns G) (take i (visits_of G q)))

abbrev pub column_sets : Schema → Query → List Columns
column_sets G q = padded (columns_of columns no_cols) (map (node_columns G) (visits_of G q))
