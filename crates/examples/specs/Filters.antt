-- Filters past the ordinary lines (document 02, U11): what kinds 7 to 11 hand back, with which node limits, and a list that brings one filter into two
-- recursions.
use Rattle.std.specs.Prelude.{List, [], ◌∷◌, ◌++◌, ℕ, replicate}
use Prim.Native.String.{String}
use Prim.Native.String as Str
use Rattle.algebra.specs.declared.Pairing.TheVariants.{Union, Join, Except}
use Rattle.algebra.specs.declared.Condition.TheVariants.{Eq, Ne, Max, Same}
use Rattle.relation.specs.Rows.{columns}
use Rattle.database.specs.declared.Database.{Database}
use Rattle.query.specs.declared.Node.{Node}
use Rattle.query.specs.declared.Node.TheVariants.{Table, Var, Pair, Filter, Copy, Drop, Last, Fix, Mu}
use Rattle.query.specs.Lines.{node_limit}
use Rattle.text.specs.Texts.{query_value, database_value, table_entries}
use Rattle.rewrite.specs.Rewrite.{rewrite, Step}
use Rattle.machine.specs.Limits.{panel_limits}
use Rattle.engine.specs.Starred.{doors, reach, reach_step}
use Rattle.examples.specs.Texts as Texts
use Rattle.examples.specs.Texts.{Example, reach_and}
use Rattle.examples.specs.Values.{Sheet, writes, refuses, sheet_of, Rewriting, over}

-- table 0 has the columns 0 and 1, table 1 the columns 0 and 3
abbrev pub eq : Node
eq = Filter (Eq 0 1)

abbrev pub joined : Node → List Node
joined f = Table 0 ∷ (Table 1 ∷ (Pair Join ∷ (f ∷ [])))

abbrev pub united : Node → List Node
united f = Table 0 ∷ (Table 0 ∷ (Pair Union ∷ (f ∷ [])))

abbrev pub copies : List Node → List Node
copies more = Table 0 ∷ (eq ∷ (Table 0 ∷ (eq ∷ (Pair Union ∷ more))))

abbrev pub passed : List Rewriting
passed =
    over (united eq) 7 4 (writes (copies []))
    ∷ (over (joined (Filter (Ne 1 2))) 8 4 (writes (Table 0 ∷ (Filter (Ne 1 2) ∷ (Table 1 ∷ (Pair Join ∷ [])))))
    ∷ (over (joined (Filter (Max 3 4))) 9 4 (writes (Table 0 ∷ (Table 1 ∷ (Filter (Max 3 4) ∷ (Pair Join ∷ [])))))
    ∷ (over (Table 0 ∷ (Table 1 ∷ (Pair Except ∷ (Filter (Same 0 1) ∷ [])))) 10 4 (writes (Table 0 ∷ (Filter (Same 0 1) ∷ (Table 1 ∷ (Pair Except ∷ [])))))
    ∷ (over (Table 0 ∷ (Filter (Ne 1 3) ∷ (eq ∷ []))) 11 3 (writes (Table 0 ∷ (eq ∷ (Filter (Ne 1 3) ∷ []))))
    -- a column that both sides have: either side
    ∷ (over (joined eq) 8 4 (writes (Table 0 ∷ (eq ∷ (Table 1 ∷ (Pair Join ∷ [])))))
    ∷ (over (joined eq) 9 4 (writes (Table 0 ∷ (Table 1 ∷ (eq ∷ (Pair Join ∷ [])))))
    -- in the middle of a sheet: all other lines stay, behind one more
    ∷ (over (united eq ++ (Drop 1 ∷ [])) 7 4 (writes (copies (Drop 1 ∷ [])))
    -- 22: the named side lacks a column, or one of two
    ∷ (over (joined (Filter (Ne 1 2))) 9 4 (refuses 22 0)
    ∷ (over (joined (Filter (Max 3 4))) 8 4 (refuses 22 0)
    ∷ (over (joined (Filter (Same 1 3))) 8 4 (refuses 22 0)
    ∷ (over (joined (Filter (Same 1 3))) 9 4 (refuses 22 0)
    -- open sides, within the step of a recursion: the variable has the columns of its fix
    ∷ (over (Table 0 ∷ (Var 1 ∷ (Var 1 ∷ (Pair Union ∷ (eq ∷ (Fix 1 ∷ [])))))) 7 5 (writes (Table 0 ∷ (Var 1 ∷ (eq ∷ (Var 1 ∷ (eq ∷ (Pair Union ∷ (Fix 1 ∷ []))))))))
    ∷ (over (Table 0 ∷ (Var 1 ∷ (Table 1 ∷ (Pair Join ∷ (Filter (Ne 1 2) ∷ (Drop 3 ∷ (Fix 1 ∷ []))))))) 8 5
    (writes (Table 0 ∷ (Var 1 ∷ (Filter (Ne 1 2) ∷ (Table 1 ∷ (Pair Join ∷ (Drop 3 ∷ (Fix 1 ∷ []))))))))
    ∷ (over (Table 0 ∷ (Var 1 ∷ (Table 1 ∷ (Pair Join ∷ (Filter (Ne 1 2) ∷ (Drop 3 ∷ (Fix 1 ∷ []))))))) 9 5 (refuses 22 0)
    ∷ (over (Table 0 ∷ (Var 1 ∷ (Table 1 ∷ (Pair Except ∷ (eq ∷ (Fix 1 ∷ [])))))) 10 5 (writes (Table 0 ∷ (Var 1 ∷ (eq ∷ (Table 1 ∷ (Pair Except ∷ (Fix 1 ∷ [])))))))
    -- 12: another line under the filter, or another kind; it comes before 22
    ∷ (over (joined eq) 7 4 (refuses 12 0)
    ∷ (over (united eq) 8 4 (refuses 12 0)
    ∷ (over (Table 0 ∷ (Table 1 ∷ (Pair Except ∷ (Filter (Ne 1 2) ∷ [])))) 9 4 (refuses 12 0)
    ∷ (over (joined eq) 10 4 (refuses 12 0)
    ∷ (over (united eq) 11 4 (refuses 12 0)
    ∷ (over (united eq) 7 3 (refuses 12 0)
    ∷ (over (united eq) 12 4 (refuses 12 0)
    ∷ (over (united eq) 0 4 (refuses 12 0)
    ∷ (over (united eq) 7 0 (refuses 12 0)
    ∷ (over (united eq) 7 5 (refuses 12 0)
    -- "`last` is no filter in these rules.", as the upper line and as the lower
    ∷ (over (united (Last 1)) 7 4 (refuses 12 0)
    ∷ (over (Table 0 ∷ (Filter (Ne 1 3) ∷ (Last 1 ∷ []))) 11 3 (refuses 12 0)
    ∷ (over (Table 0 ∷ (Last 1 ∷ (eq ∷ []))) 11 3 (refuses 12 0)
    -- nodes count in the split sheet: line 7 as typed
    ∷ (over (Table 0 ∷ (Var 1 ∷ (Pair Union ∷ (Mu 1 ∷ (Table 0 ∷ (Pair Union ∷ (eq ∷ []))))))) 7 7 (refuses 12 0)
    ∷ (over (Table 0 ∷ (Var 1 ∷ (Pair Union ∷ (Mu 1 ∷ (Table 0 ∷ (Pair Union ∷ (eq ∷ []))))))) 7 6
    (writes (Table 0 ∷ (Var 1 ∷ (Fix 1 ∷ (eq ∷ (Table 0 ∷ (eq ∷ (Pair Union ∷ []))))))))
    ∷ []))))))))))))))))))))))))))))))

-- a step with a node limit
pub record Limited : Type 0 where
  pub limit : ℕ
  pub rewriting : Rewriting

abbrev pub within : Limited → Sheet
within x =
    let r = x.rewriting in
    sheet_of (rewrite columns x.limit (query_value r.query) (database_value columns r.book) (table_entries r.book) r.kind r.node)

abbrev pub at : ℕ → Rewriting → Limited
at limit x = record { limit = limit; rewriting = x }

-- n filters behind the union's
abbrev pub filters : ℕ → List Node
filters n = replicate n (Filter (Ne 1 9))

abbrev pub limited : List Limited
limited =
    -- a sheet at the limit has no room, one below it has
    at 4 (over (united eq) 7 4 (refuses 2 0))
    ∷ (at 5 (over (united eq) 7 4 (writes (copies [])))
    -- 12 comes first, and no other kind asks for room
    ∷ (at 4 (over (joined eq) 7 4 (refuses 12 0))
    ∷ (at 4 (over (joined eq) 8 4 (writes (Table 0 ∷ (eq ∷ (Table 1 ∷ (Pair Join ∷ []))))))
    ∷ (at 3 (over (Table 0 ∷ (Filter (Ne 1 3) ∷ (eq ∷ []))) 11 3 (writes (Table 0 ∷ (eq ∷ (Filter (Ne 1 3) ∷ [])))))
    -- the panel and the desk, on 32 nodes and on 31
    ∷ (at panel_limits.nodes (over (united eq ++ filters 28) 7 4 (refuses 2 0))
    ∷ (at node_limit (over (united eq ++ filters 28) 7 4 (writes (copies (filters 28))))
    ∷ (at panel_limits.nodes (over (united eq ++ filters 27) 7 4 (writes (copies (filters 27))))
    -- what counts is the split sheet, which has a node less than the typed one for the `mu`
    ∷ (at 7 (over (Table 0 ∷ (Var 1 ∷ (Pair Union ∷ (Mu 1 ∷ (Table 0 ∷ (Pair Union ∷ (eq ∷ []))))))) 7 6
    (writes (Table 0 ∷ (Var 1 ∷ (Fix 1 ∷ (eq ∷ (Table 0 ∷ (eq ∷ (Pair Union ∷ [])))))))))
    ∷ []))))))))

-- what `answer` prints: it takes 24 nodes
abbrev pub ten : String
ten = "ne=0,9\nne=0,9\nne=0,9\nne=0,9\nne=0,9\nne=0,9\nne=0,9\nne=0,9\nne=0,9\nne=0,9\n"

abbrev pub printed : List Example
printed =
    Texts.steps (reach_and "23" (Str.◌++◌ "table=0\npair=union\neq=0,1\n" ten)) "step=7,13\n" "guide=1\ncols=0,1\nrows=2\nrow=1,2\nrow=1,3\nran=29\n"
    ∷ (Texts.steps (reach_and "24" (Str.◌++◌ "table=0\npair=union\neq=0,1\nne=0,9\n" ten)) "step=7,13\n" "refused=2,0\n"
    ∷ (Texts.steps (reach_and "23" (Str.◌++◌ "table=0\npair=union\neq=0,1\n" ten)) "step=7,13\nstep=7,13\n" "refused=12,0\n"
    ∷ (Texts.steps (reach_and "13" "fact=2,7\npair=join\neq=2,7\n") "step=8,13\n" "refused=22,0\n"
    ∷ (Texts.steps (reach_and "13" "fact=2,7\npair=join\neq=2,7\n") "step=9,13\n" "guide=1\ncols=0,1,2\nrows=3\nrow=1,2,7\nrow=1,3,7\nrow=2,3,7\nran=18\n"
    ∷ (Texts.steps (reach_and "13" "fact=1,3\npair=except\neq=0,1\n") "step=10,13\nstep=1,11\n" "guide=1\ncols=0,1\nrows=1\nrow=1,2\nran=18\n"
    ∷ (Texts.steps (reach_and "12" "ne=1,2\neq=0,1\n") "step=11,12\nstep=1,11\n" "guide=1\ncols=0,1\nrows=1\nrow=1,3\nran=17\n"
    ∷ []))))))

-- a filter over a union of a join and a recursion: node 10 is Reach, node 13 its join with the sources of doors, node 23 Reach again, node 25 the filter
abbrev pub book : Database
book = database_value columns doors

abbrev pub store : List ℕ
store = table_entries doors

abbrev pub again : List Node
again = Var 2 ∷ (Copy 1 2 ∷ (Drop 1 ∷ (Table 0 ∷ (Copy 0 2 ∷ (Drop 0 ∷ (Pair Join ∷ (Drop 2 ∷ (Fix 2 ∷ []))))))))

abbrev pub tour : List Node
tour = reach ++ (Table 0 ∷ (Drop 1 ∷ (Pair Join ∷ (Table 0 ∷ (again ++ (Pair Union ∷ (eq ∷ [])))))))

-- into both recursions
abbrev pub in_both : List Node
in_both = Table 0 ∷ (eq ∷ (reach_step ++ (Table 0 ∷ (Drop 1 ∷ (Pair Join ∷ (Table 0 ∷ (eq ∷ (again ++ (Pair Union ∷ [])))))))))

abbrev pub made : ℕ → ℕ → ℕ → Step
made limit k n = record { limit = limit; database = book; store = store; kind = k; node = n }

-- kind 7 at the desk, 8 and 1 at the panel, a kind 9 that is refused between them
abbrev pub steps : List Step
steps =
    made node_limit 7 25
    ∷ (made panel_limits.nodes 8 14 ∷ (made panel_limits.nodes 9 14 ∷ (made panel_limits.nodes 1 11 ∷ (made node_limit 1 25 ∷ []))))
