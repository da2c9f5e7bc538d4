-- The sheet of a path, and what a caller is told in its place. w is the number of columns.
use Rattle.std.specs.Prelude.{List, [], ◌∷◌, ◌++◌, ℕ, ◌+◌, leb, ltb}
use Rattle.algebra.specs.declared.Pairing.TheVariants.{Union, Join}
use Rattle.algebra.specs.Term.{Term, table, var, pair, copy, drop, fix}
use Rattle.algebra.specs.Columns.{Cols, no_cols, with, Schema}
use Rattle.database.specs.declared.Database.{Database}
use Rattle.database.specs.declared.Refusal.{Refusal}
use Rattle.database.specs.declared.Refusal.TheVariants.{NodeCount, ColumnFault, NoTable}
use Rattle.database.specs.Stored.{schema, check_database}
use Rattle.database.specs.Refusals.{Reply, accepted, require, no_fault, ◌>>=◌}
use Rattle.query.specs.declared.Node.{Node}
use Rattle.query.specs.Lines.{lines}
use Rattle.query.specs.Check.{unless, same_cols}
use Rattle.paths.specs.Grammar.{PropertyPath, name, alternative, sequence, inverse, plus}
use Rattle.paths.specs.Reader.{path_limit, read_path}

-- column c renamed to d: copied, then dropped
abbrev pub renamed : ℕ → ℕ → Term → Term
renamed c d a = drop c (copy c d a)

-- "A sequence renames its middle to column 2, joins and drops it."
abbrev pub through_middle : Term → Term → Term
through_middle a b = drop 2 (pair Join (renamed 1 2 a) (renamed 0 2 b))

-- "An inverse exchanges columns by way of 2, column 0 first."
abbrev pub exchanged : Term → Term
exchanged a = renamed 2 1 (renamed 1 0 (renamed 0 2 a))

-- how many recursions a path has, where "A plus repeats its operand"
unfoldable pub recursions : PropertyPath → ℕ
recursions (name t) = 0
recursions (alternative p q) = recursions p + recursions q
recursions (sequence p q) = recursions p + recursions q
recursions (inverse p) = recursions p
recursions (plus p) = recursions p + recursions p + 1

-- the term of a path that follows n recursions: "Alternatives become a union." "A plus repeats its operand as Reach does." "recursion variables
-- count up from 0 in order of fix lines"
unfoldable pub term_from : ℕ → PropertyPath → Term
term_from n (name t) = table t
term_from n (alternative p q) = pair Union (term_from n p) (term_from (n + recursions p) q)
term_from n (sequence p q) = through_middle (term_from n p) (term_from (n + recursions p) q)
term_from n (inverse p) = exchanged (term_from n p)
term_from n (plus p) =
    fix (n + (recursions p + recursions p)) (term_from n p)
    (through_middle (var (n + (recursions p + recursions p))) (term_from (n + recursions p) p))

abbrev pub path_lines : PropertyPath → List Node
path_lines p = lines (term_from 0 p)

-- the lines that a sequence, an inverse and a plus have of their own
abbrev pub sequence_own : ℕ
sequence_own = 6

abbrev pub inverse_own : ℕ
inverse_own = 6

-- its `var` and `fix` beside a sequence's: "Each plus has eight lines of its own"
abbrev pub plus_own : ℕ
plus_own = sequence_own + 2

-- the number of a path's lines, without writing them: 128 bytes can mean more than 2^42
unfoldable pub line_count : PropertyPath → ℕ
line_count (name t) = 1
line_count (alternative p q) = line_count p + line_count q + 1
line_count (sequence p q) = line_count p + line_count q + sequence_own
line_count (inverse p) = line_count p + inverse_own
line_count (plus p) = line_count p + line_count p + plus_own

-- the names of a path, in its text's order
unfoldable pub names : PropertyPath → List ℕ
names (name t) = t ∷ []
names (alternative p q) = names p ++ names q
names (sequence p q) = names p ++ names q
names (inverse p) = names p
names (plus p) = names p

-- "columns 0 and 1 only"
abbrev pub ends : Cols
ends = with (with no_cols 0) 1

-- "A table outside the book gets 10, wrong columns get 9, both with place 0 …; the first such name in the path decides."
unfoldable pub name_faults : Schema → List ℕ → List Refusal
name_faults G [] = []
name_faults G (t ∷ ts) =
    unless (ltb t G.tables) (NoTable 0) ++ (unless (same_cols G.width (G.columns t) ends) (ColumnFault 0) ++ name_faults G ts)

-- the lines of a path, limit being the highest node count: "More than 128 nodes then gives 2, also with place 0."
abbrev pub lines_within : ℕ → PropertyPath → Reply (List Node)
lines_within limit p = do
  _ ← require (leb (line_count p) limit) (NodeCount 0)
  accepted (path_lines p)

-- the lines of the sheet of a path's text, or 21, "tested first, 11 next", then 10 or 9, then 2
unfoldable pub path_nodes : ℕ → ℕ → List ℕ → Database → List ℕ → Reply (List Node)
path_nodes w limit text d store = do
  p ← read_path path_limit text
  _ ← check_database w d store
  _ ← no_fault (name_faults (schema w d) (names p))
  lines_within limit p
