-- What the entries reply to values: refusals that a text cannot cause, the rule's sheet of each kind, and the slices at exit.
use Rattle.std.specs.Prelude.{List, [], ◌∷◌, ◌++◌, map, ℕ, replicate}
use Rattle.algebra.specs.declared.Pairing.TheVariants.{Union, Join, Except}
use Rattle.algebra.specs.declared.Condition.TheVariants.{Eq, Same}
use Rattle.relation.specs.Rows.{columns, columns_of}
use Rattle.database.specs.declared.Database.{Database}
use Rattle.database.specs.Refusals.{Reply, refused, accepted, number, place_of}
use Rattle.query.specs.declared.Node.{Node}
use Rattle.query.specs.declared.Node.TheVariants.{Table, Var, Fact, Pair, Filter, Copy, Drop, Fix}
use Rattle.query.specs.declared.Query.{Query}
use Rattle.query.specs.Lines.{nodes, node_limit, line, blank}
use Rattle.text.specs.Lines.{filled}
use Rattle.text.specs.Texts
use Rattle.text.specs.Texts.{query_value, database_value, table_entries}
use Rattle.rewrite.specs.Rewrite.{rewrite}
use Rattle.machine.specs.Run.{Answer, begin, run_query, workspace_after, answer_after}
use Rattle.engine.specs.Starred.{row, doors, reach, reach_step}

-- a query, or number and place
pub data Sheet : Type 0 where
  writes : List Node → Sheet
  refuses : ℕ → ℕ → Sheet

-- a rewrite of a query over a book: kind, node, and what it hands back
pub record Rewriting : Type 0 where
  pub query : List Node
  pub book : List Texts.Table
  pub kind : ℕ
  pub node : ℕ
  pub expected : Sheet

abbrev pub sheet_of : Reply Query → Sheet
sheet_of (refused r) = refuses (number r) (place_of r)
sheet_of (accepted q) = writes (nodes q)

abbrev pub rewrites : Rewriting → Sheet
rewrites x =
    sheet_of (rewrite columns node_limit (query_value x.query) (database_value columns x.book) (table_entries x.book) x.kind x.node)

-- a second table, with the columns 0 and 3, and Reach over it
abbrev pub floors : List Texts.Table
floors = record { columns = 0 ∷ (3 ∷ []); rows = filled (replicate columns 0) (0 ∷ (3 ∷ [])) (1 ∷ (4 ∷ [])) ∷ [] } ∷ []

abbrev pub reach_floors : ℕ → List Node
reach_floors v = Var v ∷ (Copy 3 2 ∷ (Drop 3 ∷ (Table 1 ∷ (Copy 0 2 ∷ (Drop 0 ∷ (Pair Join ∷ (Drop 2 ∷ [])))))))

abbrev pub step_only : List Node
step_only = Var 1 ∷ (Copy 1 2 ∷ (Drop 1 ∷ (Table 0 ∷ (Copy 0 2 ∷ (Drop 0 ∷ (Pair Join ∷ (Drop 2 ∷ [])))))))

abbrev pub over : List Node → ℕ → ℕ → Sheet → Rewriting
over q k n e = record { query = q; book = doors ++ floors; kind = k; node = n; expected = e }

abbrev pub two : List Node
two = reach ++ (Table 1 ∷ (reach_floors 2 ++ (Fix 2 ∷ (Pair Join ∷ []))))

-- an outer recursion over column 0, in whose step Reach is joined to the variable
abbrev pub nested : List Node
nested = Table 0 ∷ (Drop 1 ∷ (reach ++ (Var 2 ∷ (Pair Join ∷ (Drop 1 ∷ (Fix 2 ∷ []))))))

abbrev pub rewritings : List Rewriting
rewritings =
    over (reach ++ (Filter (Eq 0 1) ∷ [])) 1 11 (writes (Table 0 ∷ (Filter (Eq 0 1) ∷ reach_step)))
    ∷ (over (reach ++ (Fact 0 1 ∷ (Pair Join ∷ []))) 2 12 (writes (Table 0 ∷ (Fact 0 1 ∷ (Pair Join ∷ reach_step))))
    ∷ (over (Fact 0 1 ∷ (reach ++ (Pair Join ∷ []))) 3 12 (writes (Fact 0 1 ∷ (Table 0 ∷ (Pair Join ∷ reach_step))))
    ∷ (over (reach ++ (Fact 0 1 ∷ (Pair Except ∷ []))) 4 12 (writes (Table 0 ∷ (Fact 0 1 ∷ (Pair Except ∷ reach_step))))
    ∷ (over (reach ++ (Drop 0 ∷ [])) 5 11 (writes (Table 0 ∷ (Drop 0 ∷ reach_step)))
    ∷ (over two 6 21 (writes (Table 0 ∷ (Table 1 ∷ (Pair Join ∷ (step_only ++ (reach_floors 1 ++ (Pair Union ∷ (Fix 1 ∷ []))))))))
    -- a join of two fixes matches 2 and 3 too
    ∷ (over two 2 21 (writes (Table 0 ∷ (Table 1 ∷ (reach_floors 2 ++ (Fix 2 ∷ (Pair Join ∷ reach_step))))))
    ∷ (over two 3 21 (writes (reach ++ (Table 1 ∷ (Pair Join ∷ (reach_floors 2 ++ (Fix 2 ∷ []))))))
    -- in the middle of a sheet: all other lines stay
    ∷ (over (reach ++ (Filter (Same 0 0) ∷ (Filter (Eq 1 2) ∷ []))) 1 11 (writes (Table 0 ∷ (Filter (Same 0 0) ∷ (reach_step ++ (Filter (Eq 1 2) ∷ [])))))
    -- the operand is open and its columns are those of the variable around it: 15; with column 1 shared as well, which is dropped: 13
    ∷ (over nested 2 14 (refuses 15 0)
    ∷ (over (Table 0 ∷ (reach ++ (Var 2 ∷ (Pair Join ∷ (Fix 2 ∷ []))))) 2 13 (refuses 13 0)
    ∷ (over (reach ++ (Fact 1 3 ∷ (Pair Except ∷ []))) 4 12 (refuses 13 0)
    ∷ (over (reach ++ (Fact 2 7 ∷ (Pair Join ∷ []))) 2 12 (refuses 14 0)
    ∷ (over (reach ++ (Fact 2 7 ∷ (Pair Join ∷ []))) 3 12 (refuses 12 0)
    ∷ (over (reach ++ (Table 0 ∷ (Pair Union ∷ []))) 2 12 (refuses 12 0)
    ∷ (over (reach ++ (Filter (Eq 0 1) ∷ [])) 1 0 (refuses 12 0)
    ∷ (over (reach ++ (Filter (Eq 0 1) ∷ [])) 1 4294967295 (refuses 12 0)
    -- the sheet is tested as a run tests it
    ∷ (over (Table 2 ∷ []) 1 1 (refuses 10 1)
    ∷ [])))))))))))))))))

-- a run with its slices: number and place, or the row count and ran; and whether workspace and answer are then as they should be
pub record Running : Type 0 where
  pub query : Query
  pub database : Database
  pub store : List ℕ
  pub row_limit : ℕ
  pub workspace : List ℕ
  pub answer : List ℕ

-- the reply, the workspace and the answer slice at exit
pub data Ending : Type 0 where
  stops : ℕ → ℕ → List ℕ → List ℕ → Ending
  ends : ℕ → List ℕ → List ℕ → Ending

abbrev pub ending_of : Reply Answer → List ℕ → List ℕ → Ending
ending_of (refused r) ws out = stops (number r) (place_of r) ws out
ending_of (accepted a) ws out = ends a.ran ws out

abbrev pub runs : Running → Ending
runs x =
    let began = begin columns node_limit x.query x.database x.store x.row_limit 100 x.workspace in
    let reply = run_query columns node_limit x.query x.database x.store x.row_limit 100 x.workspace x.answer in
    ending_of reply (workspace_after began x.workspace) (answer_after reply x.answer)

-- `fact=0,5` `copy=0,1`: two registers of one row each
abbrev pub copied : Query
copied = query_value (Fact 0 5 ∷ (Copy 0 1 ∷ []))

abbrev pub running : Query → Database → List ℕ → ℕ → ℕ → ℕ → Running
running q d store l space room =
    record { query = q; database = d; store = store; row_limit = l; workspace = replicate space 7; answer = replicate room 9 }

abbrev pub empty : Database
empty = database_value columns []

abbrev pub with_rows : ℕ → List ℕ → Running
with_rows n store = running copied (record { tables = 1; columns = columns_of columns (λ c. Rattle.laws.specs.Lists.member c (0 ∷ (1 ∷ []))) ∷ []; rows = n ∷ [] }) store 1 18 8

abbrev pub counted : ℕ → Query
counted n = record { count = n; lines = map line (nodes copied) ++ replicate 200 blank }

pub record Expected : Type 0 where
  pub running : Running
  pub ending : Ending

abbrev pub case : Running → Ending → Expected
case r e = record { running = r; ending = e }

abbrev pub stopped : ℕ → ℕ → ℕ → ℕ → Ending
stopped n p space room = stops n p (replicate space 7) (replicate room 9)

abbrev pub runnings : List Expected
runnings =
    -- the answer's entries are written and no more; the workspace, also what is not needed, is zeros
    case (running copied empty [] 1 20 10) (ends 2 (replicate 20 0) (row 5 5 ++ replicate 2 9))
    -- a value: 2 with place 0, then 1 with the node
    ∷ (case (running (counted 0) empty [] 1 18 8) (stopped 2 0 18 8)
    ∷ (case (running (counted 129) empty [] 1 18 8) (stopped 2 0 18 8)
    ∷ (case (running (query_value (Fact 0 5 ∷ (Drop 8 ∷ (Drop 9 ∷ [])))) empty [] 1 18 8) (stopped 1 2 18 8)
    ∷ (case (running (query_value (Fact 0 5 ∷ (Fix 16 ∷ []))) empty [] 1 18 8) (stopped 1 2 18 8)
    -- a stored book: 11 with its table count or the table, before the sheet
    ∷ (case (running (counted 0) (record { tables = 17; columns = []; rows = [] }) [] 1 18 8) (stopped 11 16 18 8)
    ∷ (case (running copied (record { tables = 1; columns = []; rows = [] }) [] 1 18 8) (stopped 11 0 18 8)
    ∷ (case (with_rows 1 (replicate 7 0)) (stopped 11 0 18 8)
    ∷ (case (with_rows 4097 []) (stopped 11 0 18 8)
    ∷ (case (with_rows 1 (row 1 2 ++ [])) (ends 2 (replicate 18 0) (row 5 5))
    ∷ (case (with_rows 1 (0 ∷ (0 ∷ (1 ∷ replicate 5 0)))) (stopped 11 0 18 8)
    ∷ (case (with_rows 2 (row 1 2 ++ row 1 2)) (stopped 11 0 18 8)
    -- 16, then 17 for the workspace, both with nothing changed
    ∷ (case (running copied empty [] 0 18 8) (stopped 16 0 18 8)
    ∷ (case (running copied empty [] 4097 18 8) (stopped 16 0 18 8)
    ∷ (case (running copied empty [] 1 17 8) (stopped 17 0 17 8)
    -- 18 and 17 for the answer come from a run that began: the workspace is zeros, the answer slice as it was
    ∷ (case (running (query_value (Fact 0 5 ∷ (Fact 0 6 ∷ (Pair Union ∷ [])))) empty [] 1 27 8) (stops 18 0 (replicate 27 0) (replicate 8 9))
    ∷ (case (running copied empty [] 1 18 7) (stops 17 0 (replicate 18 0) (replicate 7 9))
    ∷ []))))))))))))))))
