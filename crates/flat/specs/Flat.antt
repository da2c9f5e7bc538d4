-- The layout of flat slices: queries and databases of document 01 as entries below 2^32, and a refusal as one number.
use Rattle.std.specs.Prelude.{Bool, ◌&&◌, ℕ, zero, suc, ◌+◌, ◌*◌, ◌/◌, ◌%◌, ◌^◌, min, eqb, leb, get_or, take, drop, length}
use mathlib.Core.List.{List, [], ◌∷◌, ◌++◌, flat_map}
use Rattle.laws.specs.Lists.{when◌then◌else◌, tabulate}
use Rattle.algebra.specs.declared.Pairing.{Pairing}
use Rattle.algebra.specs.declared.Pairing.TheVariants.{Union, Join, Except}
use Rattle.algebra.specs.declared.Condition.{Condition}
use Rattle.algebra.specs.declared.Condition.TheVariants.{Eq, Ne, Max, Same}
use Rattle.algebra.specs.Columns.{Cols, no_cols}
use Rattle.relation.specs.declared.Columns.{Columns}
use Rattle.relation.specs.Rows.{columns, cols_of, columns_of}
use Rattle.database.specs.declared.Database.{Database}
use Rattle.database.specs.Refusals.{Verdict}
use Rattle.std.specs.Prelude.{Ok, Err}
use Rattle.database.specs.Stored.{table_limit, table_cols, row_count}
use Rattle.database.specs.Refusals.{number, place_of}
use Rattle.query.specs.declared.Node.{Node}
use Rattle.query.specs.declared.Node.TheVariants.{Table, Var, Fact, Pair, Filter, Copy, Drop, Fix, Mu, Last}
use Rattle.query.specs.declared.Query.{Query}
use Rattle.query.specs.Lines.{node_limit, nodes, line}
use Rattle.machine.specs.declared.Pause.{Pause}
use Rattle.machine.specs.declared.Progress.{Progress}
use Rattle.machine.specs.declared.Progress.TheVariants.{Finished, Paused}
use Rattle.machine.specs.declared.Ran.{Ran}
use Rattle.machine.specs.Run.{Answer, Enough}
use Rattle.plan.specs.declared.Op.{Op}
use Rattle.plan.specs.declared.Op.TheVariants as plan
use Rattle.plan.specs.declared.Slot.{Slot}
use Rattle.plan.specs.declared.Plan.{Plan}
use Rattle.flat.specs.declared.FlatLine.{FlatLine}
use Rattle.flat.specs.declared.FlatOp.{FlatOp}

-- "values 0–4,294,967,295": the highest number that an entry holds; a higher one is written as this
abbrev pub entry_limit : ℕ
entry_limit = 4294967295

abbrev pub entry : ℕ → ℕ
entry n = min n entry_limit

-- 0, or a refusal's number above its place
abbrev pub status_base : ℕ
status_base = 4294967296

abbrev pub status : Verdict → ℕ
status (Ok tt) = 0
status (Err r) = number r * status_base + entry (place_of r)

-- entries written from the start of a lent slice; what lies behind them stays
abbrev pub over : List ℕ → List ℕ → List ℕ
over xs s = xs ++ drop (length xs) s

-- a node line as a code and its two numbers, 0 where it has none; the codes follow document 01's table of lines
abbrev pub pair_line : Pairing → FlatLine
pair_line Union = record { code = 4; a = 0; b = 0 }
pair_line Join = record { code = 5; a = 0; b = 0 }
pair_line Except = record { code = 6; a = 0; b = 0 }

-- the first of the filters' codes
abbrev pub filter_code : ℕ
filter_code = 7

abbrev pub filter_line : Condition → FlatLine
filter_line (Eq c w) = record { code = filter_code; a = c; b = w }
filter_line (Ne c w) = record { code = filter_code + 1; a = c; b = w }
filter_line (Max c w) = record { code = filter_code + 2; a = c; b = w }
filter_line (Same c d) = record { code = filter_code + 3; a = c; b = d }

abbrev pub flat_line : Node → FlatLine
flat_line (Table t) = record { code = 1; a = t; b = 0 }
flat_line (Var v) = record { code = 2; a = v; b = 0 }
flat_line (Fact c w) = record { code = 3; a = c; b = w }
flat_line (Pair o) = pair_line o
flat_line (Filter f) = filter_line f
flat_line (Copy a b) = record { code = 11; a = a; b = b }
flat_line (Drop a) = record { code = 12; a = a; b = 0 }
flat_line (Fix v) = record { code = 13; a = v; b = 0 }
flat_line (Mu v) = record { code = 15; a = v; b = 0 }
flat_line (Last c) = record { code = 16; a = c; b = 0 }

-- and back; any other code is a line off the form, and so refused with 1 and its node
unfoldable pub node_of : FlatLine → Node
node_of l =
    when eqb l.code 1 then Table l.a else (when eqb l.code 2 then Var l.a else (
    when eqb l.code 3 then Fact l.a l.b else (when eqb l.code 4 then Pair Union else (
    when eqb l.code 5 then Pair Join else (when eqb l.code 6 then Pair Except else (
    when eqb l.code filter_code then Filter (Eq l.a l.b) else (when eqb l.code (filter_code + 1) then Filter (Ne l.a l.b) else (
    when eqb l.code (filter_code + 2) then Filter (Max l.a l.b) else (when eqb l.code (filter_code + 3) then Filter (Same l.a l.b) else (
    when eqb l.code 11 then Copy l.a l.b else (when eqb l.code 12 then Drop l.a else (
    when eqb l.code 13 then Fix l.a else (when eqb l.code 15 then Mu l.a else (when eqb l.code 16 then Last l.a else Table entry_limit))))))))))))))

-- a query: its count, then three entries a line
abbrev pub line_entries : ℕ
line_entries = 3

abbrev pub query_room : ℕ
query_room = 1 + line_entries * node_limit

abbrev pub line_at : List ℕ → ℕ → FlatLine
line_at s i = record { code = get_or s (1 + line_entries * i) 0; a = get_or s (2 + line_entries * i) 0; b = get_or s (3 + line_entries * i) 0 }

abbrev pub query_of : List ℕ → Query
query_of s = record { count = get_or s 0 0; lines = tabulate (λ i. line (node_of (line_at s i))) node_limit }

abbrev pub line_of : Node → List ℕ
line_of n = (flat_line n).code ∷ ((flat_line n).a ∷ ((flat_line n).b ∷ []))

abbrev pub flat_nodes : List Node → List ℕ
flat_nodes ns = length ns ∷ flat_map line_of ns

abbrev pub flat_query : Query → List ℕ
flat_query q = flat_nodes (nodes q)

-- a set of columns as a number: column c is in it if the bit of worth 2^c is set; a number with a higher bit is off the form, and no set
abbrev pub bit : ℕ → ℕ → Bool
bit bits c = eqb (bits / 2 ^ c % 2) 1

abbrev pub column_set : ℕ → ℕ → Columns
column_set w bits = when eqb (bits / 2 ^ w) 0 then columns_of w (bit bits) else columns_of w no_cols

unfoldable pub bit_set : ℕ → Cols → ℕ
bit_set zero D = 0
bit_set (suc c) D = bit_set c D + (when D c then 2 ^ c else 0)

abbrev pub bits_of : Columns → ℕ
bits_of s = bit_set columns (cols_of columns s)

-- a database: its table count, then two entries a table, its columns and its row count
abbrev pub table_width : ℕ
table_width = 2

abbrev pub database_room : ℕ
database_room = 1 + table_width * table_limit

abbrev pub database_of : List ℕ → Database
database_of s =
    record {
      tables = get_or s 0 0;
      columns = tabulate (λ t. column_set columns (get_or s (1 + table_width * t) 0)) table_limit;
      rows = tabulate (λ t. get_or s (2 + table_width * t) 0) table_limit;
    }

abbrev pub table_of : Database → ℕ → List ℕ
table_of d t = bits_of (columns_of columns (table_cols columns d t)) ∷ (entry (row_count columns d t) ∷ [])

abbrev pub table_numbers : Database → List ℕ
table_numbers d = tabulate (λ t. t) (min d.tables table_limit)

abbrev pub flat_database : Database → List ℕ
flat_database d = length (table_numbers d) ∷ flat_map (table_of d) (table_numbers d)

-- whether the slices of a query and a database have room
abbrev pub have_room : List ℕ → List ℕ → Bool
have_room query database = leb query_room (length query) && leb database_room (length database)

-- a finished run: the columns of the answer, its row count, and the lines run
abbrev pub run_room : ℕ
run_room = 3

abbrev pub flat_run : Answer → List ℕ
flat_run a = bits_of a.columns ∷ (entry (length a.rows) ∷ (a.ran ∷ []))

-- the same of what the code tells of it
abbrev pub told_entries : Ran → List ℕ
told_entries told = bits_of told.columns ∷ (entry told.rows ∷ (told.lines ∷ []))

-- a pause: "the next plan line, counted from 1, the lines run"
abbrev pub pause_room : ℕ
pause_room = 2

abbrev pub flat_pause : Pause → List ℕ
flat_pause p = p.next ∷ (p.ran ∷ [])

abbrev pub pause_in : List ℕ → Pause
pause_in s = record { next = get_or s 0 0; ran = get_or s 1 0 }

-- what the slices of a run that can be gone on with hold afterwards: what a finished run tells in the one, a pause in the other
abbrev pub told_after : Progress → List ℕ → List ℕ
told_after (Finished told) s = over (told_entries told) s
told_after (Paused p) s = s

abbrev pub pause_after : Progress → List ℕ → List ℕ
pause_after (Finished told) s = s
pause_after (Paused p) s = over (flat_pause p) s

-- a plan line's code and four numbers: what it writes, then what it reads, in the order of the line's fields, 0 where it has fewer. The codes are
-- those of the node lines; document 01's again, a fix's own line, has the fix's code, and its start the one behind.
abbrev pub op_line : ℕ → ℕ → ℕ → ℕ → ℕ → FlatOp
op_line code to a b c = record { code = code; to = entry to; a = entry a; b = entry b; c = entry c }

abbrev pub flat_op : Op → FlatOp
flat_op (plan.Table to t) = op_line 1 to t 0 0
flat_op (plan.Fact to c w) = op_line 3 to c w 0
flat_op (plan.Pair to l r o) = op_line (pair_line o).code to l r 0
flat_op (plan.Filter to from f) = op_line (filter_line f).code to from (filter_line f).a (filter_line f).b
flat_op (plan.Copy to from a b) = op_line 11 to from a b
flat_op (plan.Drop to from a) = op_line 12 to from a 0
flat_op (plan.Last to from a) = op_line 16 to from a 0
flat_op (plan.LoopStart total delta from path) = op_line 14 total delta from path
flat_op (plan.LoopNext total delta from path) = op_line 13 total delta from path

-- a plan: its line count, then seven entries a line, the last two the columns of a pair's operands
abbrev pub slot_entries : ℕ
slot_entries = 7

abbrev pub plan_room : ℕ
plan_room = 1 + slot_entries * node_limit

abbrev pub slot_of : Slot → List ℕ
slot_of s =
    (flat_op s.op).code
    ∷ ((flat_op s.op).to ∷ ((flat_op s.op).a ∷ ((flat_op s.op).b ∷ ((flat_op s.op).c ∷ (bits_of s.left ∷ (bits_of s.right ∷ []))))))

abbrev pub flat_slots : List Slot → List ℕ
flat_slots slots = length slots ∷ flat_map slot_of slots

-- a plan beside the budget that is enough for it: the plan as above, and the budget in a slice of its own
abbrev pub allowance_room : ℕ
allowance_room = 1

abbrev pub flat_plan : Enough → List ℕ
flat_plan e = flat_slots e.plan

abbrev pub flat_budget : Enough → List ℕ
flat_budget e = e.budget ∷ []

abbrev pub plan_slots : Plan → List Slot
plan_slots p = take p.count p.ops
