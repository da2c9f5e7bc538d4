-- Document 02, U5: "Our floor sheets copy the floor to a working column, drop it and copy it back. The floor never changes".
use Rattle.std.specs.Prelude.{List, [], ◌∷◌, ◌++◌, ℕ, replicate}
use Rattle.algebra.specs.declared.Pairing.TheVariants.{Union, Join, Except}
use Rattle.algebra.specs.declared.Condition.TheVariants.{Eq, Same}
use Rattle.relation.specs.Rows.{columns}
use Rattle.query.specs.declared.Node.{Node}
use Rattle.query.specs.declared.Node.TheVariants.{Table, Var, Fact, Pair, Filter, Copy, Drop, Fix}
use Rattle.text.specs.Lines.{filled}
use Rattle.text.specs.Texts
use Rattle.engine.specs.Starred.{Case, Outcome, answers, refuses, step}
use Rattle.examples.specs.Values.{Sheet, writes, refuses as stays, Rewriting}

-- doors with their floor in column 3, and the names of floors in column 6
abbrev pub door : ℕ → ℕ → ℕ → List ℕ
door x y f = filled (replicate columns 0) (0 ∷ (1 ∷ (3 ∷ []))) (x ∷ (y ∷ (f ∷ [])))

abbrev pub building : List Texts.Table
building =
    record { columns = 0 ∷ (1 ∷ (3 ∷ [])); rows = door 1 2 5 ∷ (door 2 3 5 ∷ (door 3 4 6 ∷ [])) }
    ∷ (record { columns = 3 ∷ (6 ∷ []); rows = filled (replicate columns 0) (3 ∷ (6 ∷ [])) (5 ∷ (9 ∷ [])) ∷ [] } ∷ [])

-- Reach through the doors: the floor goes to column 4 and comes home
abbrev pub floor_path : List Node
floor_path =
    Var 1 ∷ (Copy 3 4 ∷ (Drop 3 ∷ (Copy 1 2 ∷ (Drop 1 ∷ (Table 0 ∷ (Drop 3 ∷ (Copy 0 2 ∷ (Drop 0 ∷ (Pair Join ∷ (Drop 2 ∷ (Copy 4 3 ∷ (Drop 4 ∷ []))))))))))))

abbrev pub floor_step : List Node
floor_step = floor_path ++ (Fix 1 ∷ [])

abbrev pub floor_sheet : List Node
floor_sheet = Table 0 ∷ floor_step

-- a fix over the doors whose step has these lines
abbrev pub stepping : List Node → List Node
stepping path = Table 0 ∷ (path ++ (Fix 1 ∷ []))

-- the variable with columns 0 and 1 exchanged
abbrev pub exchanged : List Node
exchanged = Var 1 ∷ (Copy 0 2 ∷ (Drop 0 ∷ (Copy 1 0 ∷ (Drop 1 ∷ (Copy 2 1 ∷ (Drop 2 ∷ []))))))

abbrev pub inside : List Node → ℕ → ℕ → Sheet → Rewriting
inside q k n e = record { query = q; book = building; kind = k; node = n; expected = e }

abbrev pub floor_rewritings : List Rewriting
floor_rewritings =
    -- the floor comes home: every kind that tests for stability
    inside (floor_sheet ++ (Filter (Eq 3 5) ∷ [])) 1 16 (writes (Table 0 ∷ (Filter (Eq 3 5) ∷ floor_step)))
    ∷ (inside (floor_sheet ++ (Fact 3 5 ∷ (Pair Join ∷ []))) 2 17 (writes (Table 0 ∷ (Fact 3 5 ∷ (Pair Join ∷ floor_step))))
    ∷ (inside (Fact 3 5 ∷ (floor_sheet ++ (Pair Join ∷ []))) 3 17 (writes (Fact 3 5 ∷ (Table 0 ∷ (Pair Join ∷ floor_step))))
    ∷ (inside (floor_sheet ++ (Fact 3 5 ∷ (Pair Except ∷ []))) 4 17 (writes (Table 0 ∷ (Fact 3 5 ∷ (Pair Except ∷ floor_step))))
    ∷ (inside (floor_sheet ++ (Table 1 ∷ (Var 2 ∷ (Fix 2 ∷ (Pair Join ∷ []))))) 6 19
    (writes (Table 0 ∷ (Table 1 ∷ (Pair Join ∷ (floor_path ++ (Var 1 ∷ (Pair Union ∷ (Fix 1 ∷ []))))))))
    -- the room does not
    ∷ (inside (floor_sheet ++ (Filter (Eq 1 3) ∷ [])) 1 16 (stays 13 0)
    ∷ (inside (floor_sheet ++ (Filter (Same 1 3) ∷ [])) 1 16 (stays 13 0)
    -- "a column that only a closed operand brings has none"; what it has together with the open side keeps its origin
    ∷ (inside (stepping (Var 1 ∷ (Drop 3 ∷ (Fact 3 5 ∷ (Pair Join ∷ [])))) ++ (Filter (Eq 3 5) ∷ [])) 1 7 (stays 13 0)
    ∷ (inside (stepping (Var 1 ∷ (Copy 3 4 ∷ (Drop 3 ∷ (Fact 4 5 ∷ (Pair Join ∷ (Copy 4 3 ∷ (Drop 4 ∷ []))))))) ++ (Filter (Eq 3 5) ∷ [])) 1 10
    (writes (Table 0 ∷ (Filter (Eq 3 5) ∷ ((Var 1 ∷ (Copy 3 4 ∷ (Drop 3 ∷ (Fact 4 5 ∷ (Pair Join ∷ (Copy 4 3 ∷ (Drop 4 ∷ []))))))) ++ (Fix 1 ∷ [])))))
    -- a copy of a column that has none has none
    ∷ (inside (stepping (Var 1 ∷ (Drop 3 ∷ (Fact 4 5 ∷ (Pair Join ∷ (Copy 4 3 ∷ (Drop 4 ∷ [])))))) ++ (Filter (Eq 3 5) ∷ [])) 1 9 (stays 13 0)
    -- "a union keeps an origin only where both sides agree": they agree on the floor, not on the rooms, one side having them exchanged
    ∷ (inside (stepping (floor_path ++ (exchanged ++ (Pair Union ∷ []))) ++ (Filter (Eq 3 5) ∷ [])) 1 24
    (writes (Table 0 ∷ (Filter (Eq 3 5) ∷ ((floor_path ++ (exchanged ++ (Pair Union ∷ []))) ++ (Fix 1 ∷ [])))))
    ∷ (inside (stepping (floor_path ++ (exchanged ++ (Pair Union ∷ []))) ++ (Filter (Eq 0 1) ∷ [])) 1 24 (stays 13 0)
    -- a column with another one's value is not stable
    ∷ (inside (stepping exchanged ++ (Filter (Eq 0 1) ∷ [])) 1 10 (stays 13 0)
    ∷ []))))))))))))

-- the same through the run
abbrev pub floor_case : List Node → ℕ → ℕ → Outcome → Case
floor_case more k n expected =
    record { query = floor_sheet ++ more; book = building; steps = step k n; row_limit = 24; budget = 1000000; expected = expected }

abbrev pub floor_cases : List Case
floor_cases =
    floor_case (Filter (Eq 3 5) ∷ []) 1 16
    (answers (Table 0 ∷ (Filter (Eq 3 5) ∷ floor_step)) (0 ∷ (1 ∷ (3 ∷ []))) (door 1 2 5 ∷ (door 1 3 5 ∷ (door 1 4 5 ∷ (door 2 3 5 ∷ (door 2 4 5 ∷ []))))) 34)
    ∷ (floor_case (Filter (Eq 1 3) ∷ []) 1 16 (refuses 13 0)
    ∷ [])
