-- Whole texts: reading and printing queries and databases, and printing answers and refusals. w is the number of columns.
use Rattle.std.specs.Prelude.{◌&&◌, ℕ, zero, suc, ◌-◌, leb, length, replicate}
use Rattle.std.specs.Prelude.{Option, Some, None}
use mathlib.Core.List.{List, [], ◌∷◌, ◌++◌, map, flat_map}
use Rattle.laws.specs.Lists.{member, sift, tabulate}
use Rattle.algebra.specs.Columns.{Cols, no_cols}
use Rattle.relation.specs.declared.Columns.{Columns}
use Rattle.relation.specs.Rows.{Row, Rows, slot, cols_of, columns_of, entries}
use Rattle.database.specs.declared.Database.{Database}
use Rattle.database.specs.declared.Refusal.{Refusal}
use Rattle.database.specs.declared.Refusal.TheVariants.{QueryForm, NodeCount, DatabaseForm}
use Rattle.database.specs.Stored.{table_limit, rows_limit, table_cols, table_rows}
use Rattle.database.specs.Refusals.{Reply, accepted, require, number, place_of, ◌>>=◌}
use Rattle.query.specs.declared.Node.{Node}
use Rattle.query.specs.declared.Query.{Query}
use Rattle.query.specs.Lines.{line, blank, node_limit}
use Rattle.text.specs.Numbers.{bytes, newline, max_number, digits, comma_digits}
use Rattle.text.specs.Lines.{Rest, due, many, ended, whole, header_line, count_line, node_line, node_text, cols_line, row_line}

-- a sheet's text: "`guide=1`, `nodes=N` (1–128), then N node lines"; "number 1 names the first bad line … and comes before 2"
unfoldable pub read_nodes : ℕ → ℕ → List ℕ → Reply (List Node)
read_nodes w limit text = do
  (_, s₁) ← due QueryForm header_line (whole text)
  (n, s₂) ← due QueryForm (count_line "nodes=" max_number) s₁
  (ns, s₃) ← many (due QueryForm (node_line w)) n s₂
  _ ← ended QueryForm s₃
  _ ← require (leb 1 n && leb n limit) (NodeCount 2)
  accepted ns

-- a query as a value: its lines, and blank ones up to the length of the array
abbrev pub query_value : List Node → Query
query_value ns = record { count = length ns; lines = map line ns ++ replicate (node_limit - length ns) blank }

-- a table of a book's text: its columns, ascending, and its rows
pub record Table : Type 0 where
  pub columns : List ℕ
  pub rows : Rows

unfoldable pub read_rows : ℕ → List ℕ → ℕ → Option Row → Rest → Reply (Rows × Rest)
read_rows w cs zero above s = accepted ([], s)
read_rows w cs (suc n) above s = do
  (r, s₁) ← due DatabaseForm (row_line w cs above) s
  (rows, s₂) ← read_rows w cs n (Some r) s₁
  accepted (r ∷ rows, s₂)

unfoldable pub read_table : ℕ → Rest → Reply (Table × Rest)
read_table w s = do
  (cs, s₁) ← due DatabaseForm (cols_line w) s
  (n, s₂) ← due DatabaseForm (count_line "rows=" rows_limit) s₁
  (rows, s₃) ← read_rows w cs n None s₂
  accepted (record { columns = cs; rows = rows }, s₃)

-- a book's text: "`guide=1`, `tables=N` (0–16), then for each table `cols=` …, `rows=R` (0–4,096), and R lines `row=`"
unfoldable pub read_tables : ℕ → List ℕ → Reply (List Table)
read_tables w text = do
  (_, s₁) ← due DatabaseForm header_line (whole text)
  (n, s₂) ← due DatabaseForm (count_line "tables=" table_limit) s₁
  (ts, s₃) ← many (read_table w) n s₂
  _ ← ended DatabaseForm s₃
  accepted ts

-- "A book of zero bytes shall mean the same as `guide=1` and `tables=0`."
unfoldable pub read_database : ℕ → List ℕ → Reply (List Table)
read_database w [] = read_tables w (bytes "guide=1\ntables=0\n")
read_database w (b ∷ rest) = read_tables w (b ∷ rest)

-- a database as a value, with no columns and no rows past its tables
abbrev pub database_value : ℕ → List Table → Database
database_value w ts =
    record {
      tables = length ts;
      columns = map (λ (t : Table). columns_of w (λ c. member c t.columns)) ts ++ replicate (table_limit - length ts) (columns_of w no_cols);
      rows = map (λ (t : Table). length t.rows) ts ++ replicate (table_limit - length ts) 0;
    }

-- the entries of its store: each table's rows, table after table
abbrev pub table_entries : List Table → List ℕ
table_entries ts = flat_map (λ (t : Table). entries t.rows) ts

-- the columns of a set, ascending
abbrev pub column_list : ℕ → Cols → List ℕ
column_list w D = sift D (tabulate (λ c. c) w)

-- the tables of a stored book
abbrev pub stored_tables : ℕ → Database → List ℕ → List Table
stored_tables w d store = tabulate (λ t. record { columns = column_list w (table_cols w d t); rows = table_rows w d store t }) d.tables

abbrev pub line_text : List ℕ → List ℕ
line_text l = l ++ (newline ∷ [])

-- printing what is read
unfoldable pub query_text : List Node → List ℕ
query_text ns = line_text (bytes "guide=1") ++ (line_text (bytes "nodes=" ++ digits (length ns)) ++ flat_map (λ n. line_text (node_text n)) ns)

-- the lines `cols=`, `rows=` and `row=` of a table or an answer
unfoldable pub rows_text : List ℕ → Rows → List ℕ
rows_text cs rows =
    line_text (bytes "cols=" ++ comma_digits cs)
    ++ (line_text (bytes "rows=" ++ digits (length rows)) ++ flat_map (λ r. line_text (bytes "row=" ++ comma_digits (map (slot r) cs))) rows)

unfoldable pub database_text : List Table → List ℕ
database_text ts =
    line_text (bytes "guide=1")
    ++ (line_text (bytes "tables=" ++ digits (length ts)) ++ flat_map (λ (t : Table). rows_text t.columns t.rows) ts)

-- "header, columns, row count, rows ascending, lines run"
unfoldable pub answer_text : ℕ → Columns → Rows → ℕ → List ℕ
answer_text w columns rows ran =
    line_text (bytes "guide=1") ++ (rows_text (column_list w (cols_of w columns)) rows ++ line_text (bytes "ran=" ++ digits ran))

-- "A refusal prints `refused=number,place`"
unfoldable pub refusal_text : Refusal → List ℕ
refusal_text r = line_text (bytes "refused=" ++ comma_digits (number r ∷ (place_of r ∷ [])))
