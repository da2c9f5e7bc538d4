-- Document 01's starred cases as one table, over what the public entries reply to raw values.
use Rattle.std.specs.Prelude.{List, [], ◌∷◌, ◌++◌, ℕ, replicate}
use Rattle.algebra.specs.declared.Pairing.TheVariants.{Join}
use Rattle.algebra.specs.declared.Condition.TheVariants.{Eq}
use Rattle.relation.specs.Rows.{columns, cols_of}
use Rattle.database.specs.declared.Database.{Database}
use Rattle.database.specs.Refusals.{Reply, refused, accepted, number, place_of, ◌>>=◌}
use Rattle.query.specs.declared.Node.{Node}
use Rattle.query.specs.declared.Node.TheVariants.{Table, Var, Fact, Pair, Filter, Copy, Drop, Fix}
use Rattle.query.specs.declared.Query.{Query}
use Rattle.query.specs.Lines.{nodes, node_limit}
use Rattle.text.specs.declared.Step.{Step}
use Rattle.text.specs.Lines.{filled}
use Rattle.text.specs.Texts
use Rattle.text.specs.Texts.{query_value, database_value, table_entries, column_list}
use Rattle.rewrite.specs.Rewrite.{rewrite}
use Rattle.machine.specs.Run.{Answer, run_query}

-- what a case ends with: the query that was run, the answer's columns, its rows' values in those columns, and ran; or number and place
pub data Outcome : Type 0 where
  answers : List Node → List ℕ → List (List ℕ) → ℕ → Outcome
  refuses : ℕ → ℕ → Outcome

-- a query, a book, the steps, the row limit, the budget, and what is expected
pub record Case : Type 0 where
  pub query : List Node
  pub book : List Texts.Table
  pub steps : List Step
  pub row_limit : ℕ
  pub budget : ℕ
  pub expected : Outcome

unfoldable pub rewrite_all : Database → List ℕ → List Step → Query → Reply Query
rewrite_all d store [] q = accepted q
rewrite_all d store (s ∷ steps) q = rewrite columns node_limit q d store s.kind s.node >>= (λ p. rewrite_all d store steps p)

-- the query that was run and its answer. The lent slices have room, and the workspace is not clean.
unfoldable pub ask : Case → Reply (Query × Answer)
ask c = do
  let d = database_value columns c.book
  let store = table_entries c.book
  q ← rewrite_all d store c.steps (query_value c.query)
  a ← run_query columns node_limit q d store c.row_limit c.budget (replicate 4000 7) (replicate 200 7)
  accepted (q, a)

abbrev pub shown : Reply (Query × Answer) → Outcome
shown (refused r) = refuses (number r) (place_of r)
shown (accepted (q, a)) =
    answers (nodes q) (column_list columns (cols_of columns a.columns)) a.rows a.ran

-- "Book: one table, columns 0,1, rows 1,2 and 2,3."
abbrev pub row : ℕ → ℕ → List ℕ
row x y = filled (replicate columns 0) (0 ∷ (1 ∷ [])) (x ∷ (y ∷ []))

abbrev pub doors : List Texts.Table
doors = record { columns = 0 ∷ (1 ∷ []); rows = row 1 2 ∷ (row 2 3 ∷ []) } ∷ []

abbrev pub no_doors : List Texts.Table
no_doors = record { columns = 0 ∷ (1 ∷ []); rows = [] } ∷ []

-- "Sheet Reach, ten nodes": its seed, then its step and fix
abbrev pub reach_step : List Node
reach_step =
    Var 1 ∷ (Copy 1 2 ∷ (Drop 1 ∷ (Table 0 ∷ (Copy 0 2 ∷ (Drop 0 ∷ (Pair Join ∷ (Drop 2 ∷ (Fix 1 ∷ []))))))))

abbrev pub reach : List Node
reach = Table 0 ∷ reach_step

abbrev pub step : ℕ → ℕ → List Step
step k n = record { kind = k; node = n } ∷ []

-- Reach over the doors, with other lines behind it
abbrev pub reach_case : List Texts.Table → List Node → List Step → ℕ → ℕ → Outcome → Case
reach_case book more steps l budget expected =
    record { query = reach ++ more; book = book; steps = steps; row_limit = l; budget = budget; expected = expected }

abbrev pub reached : ℕ → Outcome
reached ran = answers reach (0 ∷ (1 ∷ [])) (row 1 2 ∷ (row 1 3 ∷ (row 2 3 ∷ []))) ran

abbrev pub starred_cases : List Case
starred_cases =
    -- Reach
    reach_case doors [] [] 24 1000000 (reached 15)
    -- allowance 15 answers
    ∷ (reach_case doors [] [] 24 15 (reached 15)
    -- 14 gives 19
    ∷ (reach_case doors [] [] 24 14 (refuses 19 0)
    -- L = 3 answers
    ∷ (reach_case doors [] [] 3 1000000 (reached 15)
    -- L = 2 gives 18
    ∷ (reach_case doors [] [] 2 1000000 (refuses 18 0)
    -- the empty table gives 0 rows, ran 5
    ∷ (reach_case no_doors [] [] 24 1000000 (answers reach (0 ∷ (1 ∷ [])) [] 5)
    -- `eq=0,1` added as node 11: kind 1 accepted, rows 1,2 and 1,3
    ∷ (reach_case doors (Filter (Eq 0 1) ∷ []) (step 1 11) 24 1000000
    (answers (Table 0 ∷ (Filter (Eq 0 1) ∷ reach_step)) (0 ∷ (1 ∷ [])) (row 1 2 ∷ (row 1 3 ∷ [])) 16)
    -- `eq=1,3`: 13
    ∷ (reach_case doors (Filter (Eq 1 3) ∷ []) (step 1 11) 24 1000000 (refuses 13 0)
    -- `drop=0`: kind 5 accepted, rows 2 and 3
    ∷ (reach_case doors (Drop 0 ∷ []) (step 5 11) 24 1000000
    (answers (Table 0 ∷ (Drop 0 ∷ reach_step)) (1 ∷ []) (row 0 2 ∷ (row 0 3 ∷ [])) 11)
    -- `drop=1`: 14
    ∷ (reach_case doors (Drop 1 ∷ []) (step 5 11) 24 1000000 (refuses 14 0)
    -- joining a `fact=2,7` on the right, kind 2: 14
    ∷ (reach_case doors (Fact 2 7 ∷ (Pair Join ∷ [])) (step 2 12) 24 1000000 (refuses 14 0)
    ∷ []))))))))))
