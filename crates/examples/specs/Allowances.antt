-- How large an allowance is enough, at the desk and at the panel, and how near a run comes to it.
use Rattle.std.specs.Prelude.{List, [], ◌∷◌, ◌++◌, ℕ, length, replicate}
use Rattle.algebra.specs.declared.Pairing.TheVariants.{Union, Join}
use Rattle.algebra.specs.declared.Condition.TheVariants.{Ne}
use Rattle.relation.specs.Rows.{columns}
use Rattle.database.specs.declared.Database.{Database}
use Rattle.database.specs.Refusals.{Reply, refused, accepted, number, place_of}
use Rattle.database.specs.Stored.{table_rows}
use Rattle.query.specs.declared.Node.{Node}
use Rattle.query.specs.declared.Node.TheVariants.{Table, Var, Fact, Pair, Filter, Copy, Drop, Fix, Mu}
use Rattle.query.specs.declared.Query.{Query}
use Rattle.text.specs.Texts
use Rattle.text.specs.Texts.{query_value, database_value, table_entries}
use Rattle.machine.specs.Machine.{start, lines_run, go_on}
use Rattle.machine.specs.Run.{Enough, allowance}
use Rattle.machine.specs.Limits.{Limits, desk_limits, panel_limits}
use Rattle.engine.specs.Starred.{row, doors, reach}
use Rattle.examples.specs.Values.{counted, empty}

-- the plan's number of lines, the product, and the lines that a run with that budget runs; or number and place
pub data Telling : Type 0 where
  enough : ℕ → ℕ → ℕ → Telling
  refuses : ℕ → ℕ → Telling

pub record Asking : Type 0 where
  pub limits : Limits
  pub query : Query
  pub database : Database
  pub store : List ℕ
  pub expected : Telling

abbrev pub telling_of : Asking → Reply Enough → Telling
telling_of x (refused r) = refuses (number r) (place_of r)
telling_of x (accepted e) =
    enough (length e.plan) e.budget (lines_run (go_on columns (table_rows columns x.database x.store) x.limits.rows e.plan e.budget start))

abbrev pub tells : Asking → Telling
tells x = telling_of x (allowance columns x.limits.nodes x.query x.database x.store x.limits.rows)

abbrev pub over : List Texts.Table → List Node → Limits → Telling → Asking
over book q l e = record { limits = l; query = query_value q; database = database_value columns book; store = table_entries book; expected = e }

-- the doors that lie behind the first of a chain of four: a seed of one row, and each round but the last adds one. Four filters that let all rows pass
-- make the path longer.
abbrev pub chain : List Texts.Table
chain = record { columns = 0 ∷ (1 ∷ []); rows = row 1 2 ∷ (row 2 3 ∷ (row 3 4 ∷ [])) } ∷ []

abbrev pub behind : List Node
behind =
    Fact 0 1
    ∷ (Var 1 ∷ (replicate 4 (Filter (Ne 0 9)) ++ (Table 0 ∷ (Pair Join ∷ (Drop 0 ∷ (Copy 1 0 ∷ (Drop 1 ∷ (Fix 1 ∷ []))))))))

-- Reach typed in one piece: eleven nodes, of which ten are left once it is split
abbrev pub one_piece : List Node
one_piece =
    Table 0
    ∷ (Var 1 ∷ (Copy 1 2 ∷ (Drop 1 ∷ (Table 0 ∷ (Copy 0 2 ∷ (Drop 0 ∷ (Pair Join ∷ (Drop 2 ∷ (Pair Union ∷ (Mu 1 ∷ []))))))))))

-- a step that names its variable twice: five nodes, four lines
abbrev pub twice : List Node
twice = Fact 0 1 ∷ (Var 1 ∷ (Var 1 ∷ (Pair Union ∷ (Fix 1 ∷ []))))

abbrev pub askings : List Asking
askings =
    over doors reach (desk_limits 24) (enough 10 240 15)
    ∷ (over doors reach panel_limits (enough 10 640 15)
    -- half of the product
    ∷ (over doors reach (desk_limits 3) (enough 10 30 15)
    -- a run that ends with 18: its line is not counted
    ∷ (over doors reach (desk_limits 2) (enough 10 20 9)
    ∷ (over doors one_piece (desk_limits 3) (enough 10 30 15)
    -- more than three quarters of it
    ∷ (over chain behind (desk_limits 4) (enough 12 48 39)
    ∷ (over [] twice (desk_limits 1) (enough 4 4 4)
    -- all of it
    ∷ (over [] (Fact 0 5 ∷ (Copy 0 1 ∷ [])) (desk_limits 1) (enough 2 2 2)
    ∷ (over [] (Fact 0 5 ∷ (Copy 0 1 ∷ [])) (desk_limits 4096) (enough 2 8192 2)
    -- 11 before the sheet's numbers, those before 16, and 16 on the desk
    ∷ (record { limits = desk_limits 0; query = counted 0; database = record { tables = 17; columns = []; rows = [] }; store = []; expected = refuses 11 16 }
    ∷ (record { limits = desk_limits 0; query = counted 129; database = empty; store = []; expected = refuses 2 0 }
    ∷ (over [] (Table 0 ∷ []) (desk_limits 4097) (refuses 10 1)
    ∷ (over doors reach (desk_limits 0) (refuses 16 0)
    ∷ (over doors reach (desk_limits 4097) (refuses 16 0)
    ∷ (record { limits = panel_limits; query = counted 33; database = empty; store = []; expected = refuses 2 0 }
    ∷ []))))))))))))))
