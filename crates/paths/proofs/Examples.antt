-- Paths read and refused, by computation.
use mathlib.Core.Path.{◌≡◌, refl}
use mathlib.Core.List.{List, [], ◌∷◌}
use Rattle.algebra.specs.declared.Pairing.TheVariants.{Join}
use Prim.Native.String.{String}
use Rattle.laws.specs.Lists.{every, any, all, lowest, tabulate}
use Rattle.algebra.specs.Columns.{with}
use Rattle.relation.specs.Rows.{columns, rows_of, ascend}
use Rattle.database.specs.Stored.{check_database, table_ok, table_start}
use Rattle.database.specs.declared.Refusal.TheVariants.{NodeCount, ColumnFault, NoTable, PathForm}
use Rattle.database.specs.Refusals.{Reply, refused, accepted}
use Rattle.query.specs.declared.Node.{Node}
use Rattle.query.specs.declared.Node.TheVariants.{Table as TableLine, Var, Pair, Copy, Drop, Fix}
use Rattle.query.specs.Lines.{node_limit, lines}
use Rattle.query.specs.Check.{unless}
use Rattle.text.specs.Numbers.{bytes}
use Rattle.text.specs.Texts.{Table, database_value}
use Rattle.paths.specs.Grammar.{PropertyPath, name, alternative, sequence, inverse, plus}
use Rattle.paths.specs.Reader.{path_limit, read_path, sign, step, read_on}
use Rattle.paths.specs.Sheets.{recursions, term_from, path_lines, line_count, names, name_faults, path_nodes}

reads : String → Reply PropertyPath
unfolding bytes read_on step sign
reads text = read_path path_limit (bytes text)

-- `^` takes the operand with its `+`
inverse_of_plus : reads "^0+" ≡ accepted (inverse (plus (name 0)))
unfolding reads
inverse_of_plus = refl

-- `/` binds tighter than `|`, and both group to the left
precedence : reads "0|1/^12/(2|3)+|4"
    ≡ accepted (alternative (alternative (name 0) (sequence (sequence (name 1) (inverse (name 12))) (plus (alternative (name 2) (name 3))))) (name 4))
unfolding reads
precedence = refl

-- "so neither `++` nor `^^`"
two_crosses : reads "0++" ≡ refused (PathForm 3)
unfolding reads
two_crosses = refl

two_carets : reads "^^0" ≡ refused (PathForm 2)
unfolding reads
two_carets = refl

sixteen : reads "16" ≡ refused (PathForm 2)
unfolding reads
sixteen = refl

leading_zero : reads "01" ≡ refused (PathForm 2)
unfolding reads
leading_zero = refl

empty : reads "" ≡ refused (PathForm 1)
unfolding reads
empty = refl

open_parenthesis : reads "(0|1" ≡ refused (PathForm 5)
unfolding reads
open_parenthesis = refl

-- a plus repeats its operand as Reach does
reach : path_lines (plus (name 0))
    ≡ TableLine 0 ∷ (Var 0 ∷ (Copy 1 2 ∷ (Drop 1 ∷ (TableLine 0 ∷ (Copy 0 2 ∷ (Drop 0 ∷ (Pair Join ∷ (Drop 2 ∷ (Fix 0 ∷ [])))))))))
unfolding lines term_from recursions
reach = refl

-- 128 bytes can mean more lines than fit: each parenthesis and plus doubles them
doubled : line_count (plus (plus (plus (plus (plus (plus (plus (name 0)))))))) ≡ 1144
unfolding line_count
doubled = refl

-- table 0 has the columns 0 and 1, table 1 the columns 0 and 2; neither has rows
tables : List Table
tables = record { columns = 0 ∷ (1 ∷ []); rows = [] } ∷ (record { columns = 0 ∷ (2 ∷ []); rows = [] } ∷ [])

reply : String → Reply (List Node)
unfolding tables path_nodes bytes read_on step sign check_database lowest table_ok table_start every any all tabulate rows_of ascend names name_faults unless with line_count
reply text = path_nodes columns node_limit (bytes text) (database_value columns tables) []

-- "the first such name in the path decides"
outside_first : reply "0/2/1" ≡ refused (NoTable 0)
unfolding reply
outside_first = refl

wrong_first : reply "0/1/2" ≡ refused (ColumnFault 0)
unfolding reply
wrong_first = refl

-- 2 comes after the names
too_long : reply "((((0+)+)+)+)+" ≡ refused (NodeCount 0)
unfolding reply
too_long = refl

-- 21 comes first
off_grammar : reply "2|" ≡ refused (PathForm 3)
unfolding reply
off_grammar = refl

the_sheet : reply "0+" ≡ accepted (path_lines (plus (name 0)))
unfolding reply
the_sheet = refl
