-- Two editors on two branches (document 02, U10): what two steps reply before and after each other, and the sheet that each order leaves.
use Rattle.std.specs.Prelude.{List, [], ◌∷◌, ◌++◌, ℕ, replicate}
use Rattle.algebra.specs.declared.Pairing.TheVariants.{Union, Join}
use Rattle.algebra.specs.declared.Condition.TheVariants.{Eq, Ne}
use Rattle.relation.specs.Rows.{columns}
use Rattle.database.specs.declared.Database.{Database}
use Rattle.database.specs.Refusals.{Reply, refused, accepted, number, place_of}
use Rattle.query.specs.declared.Node.{Node}
use Rattle.query.specs.declared.Node.TheVariants.{Table, Pair, Filter, Fix, Mu}
use Rattle.query.specs.declared.Query.{Query}
use Rattle.query.specs.Lines.{nodes, node_limit}
use Rattle.text.specs.Texts.{query_value, database_value, table_entries}
use Rattle.rewrite.specs.Rewrite.{Step, replied}
use Rattle.branches.specs.Branches.{stepped}
use Rattle.engine.specs.Starred.{doors, reach, reach_step}
use Rattle.examples.specs.Values.{floors, reach_floors, step_only}

-- doors, and a second table with the columns 0 and 3
abbrev pub book : Database
book = database_value columns (doors ++ floors)

abbrev pub store : List ℕ
store = table_entries (doors ++ floors)

-- number and place, unless it is accepted
pub data Told : Type 0 where
  accepts : Told
  refuses : ℕ → ℕ → Told

abbrev pub told_of : Reply Query → Told
told_of (refused r) = refuses (number r) (place_of r)
told_of (accepted q) = accepts

-- a step, kind and node, made with a node limit
abbrev pub made : ℕ → ℕ × ℕ → Step
made limit s = record { limit = limit; database = book; store = store; kind = s.0; node = s.1 }

abbrev pub reply : Query → ℕ × ℕ → Reply Query
reply q s = replied columns q (made node_limit s)

abbrev pub after : Query → ℕ × ℕ → Query
after q s = stepped columns q (made node_limit s)

-- what the first step is told before and after the second, the second before and after the first, and the lines after both: the first before the second, and
-- the second before the first
pub record Orders : Type 0 where
  pub first : Told
  pub first_after : Told
  pub second : Told
  pub second_after : Told
  pub first_then_second : List Node
  pub second_then_first : List Node

-- two steps, kinds and nodes, on a query
pub record Turns : Type 0 where
  pub query : List Node
  pub first : ℕ × ℕ
  pub second : ℕ × ℕ
  pub expected : Orders

abbrev pub orders : Turns → Orders
orders x =
    let q = query_value x.query in
    record {
      first = told_of (reply q x.first);
      first_after = told_of (reply (after q x.second) x.first);
      second = told_of (reply q x.second);
      second_after = told_of (reply (after q x.first) x.second);
      first_then_second = nodes (after (after q x.first) x.second);
      second_then_first = nodes (after (after q x.second) x.first);
    }

-- whose step comes first does not matter
abbrev pub alike : Told → Told → List Node → Orders
alike v v' ns = record { first = v; first_after = v; second = v'; second_after = v'; first_then_second = ns; second_then_first = ns }

-- a filter over each of two recursions: node 11 over Reach, node 22 over Reach on the other table; node 23 joins them
abbrev pub right_step : List Node
right_step = reach_floors 2 ++ (Fix 2 ∷ [])

abbrev pub halves : Node → Node → List Node
halves f g = reach ++ (f ∷ (Table 1 ∷ (right_step ++ (g ∷ (Pair Join ∷ [])))))

abbrev pub moved_both : List Node
moved_both = Table 0 ∷ (Filter (Eq 0 1) ∷ (reach_step ++ (Table 1 ∷ (Filter (Eq 0 1) ∷ (right_step ++ (Pair Join ∷ []))))))

abbrev pub moved_left : Node → List Node
moved_left g = Table 0 ∷ (Filter (Eq 0 1) ∷ (reach_step ++ (Table 1 ∷ (right_step ++ (g ∷ (Pair Join ∷ []))))))

-- the same with the left recursion typed in one piece: its nodes are one fewer once it is split
abbrev pub halves_mu : List Node
halves_mu = Table 0 ∷ (step_only ++ (Pair Union ∷ (Mu 1 ∷ (Filter (Eq 0 1) ∷ (Table 1 ∷ (right_step ++ (Filter (Eq 0 1) ∷ (Pair Join ∷ []))))))))

abbrev pub turns : List Turns
turns =
    -- both accepted
    record { query = halves (Filter (Eq 0 1)) (Filter (Eq 0 1)); first = (1, 11); second = (1, 22); expected = alike accepts accepts moved_both }
    -- one accepted, the other refused: column 3 comes from the table
    ∷ (record { query = halves (Filter (Eq 0 1)) (Filter (Eq 3 4)); first = (1, 11); second = (1, 22); expected = alike accepts (refuses 13 0) (moved_left (Filter (Eq 3 4))) }
    -- both refused, with two numbers
    ∷ (record { query = halves (Filter (Eq 1 3)) (Filter (Eq 0 1)); first = (1, 11); second = (5, 22); expected = alike (refuses 13 0) (refuses 12 0) (halves (Filter (Eq 1 3)) (Filter (Eq 0 1))) }
    -- nodes count in the split sheet, which the first accepted step hands back; both refused, it is as typed
    ∷ (record { query = halves_mu; first = (1, 11); second = (1, 22); expected = alike accepts accepts moved_both }
    ∷ (record { query = halves_mu; first = (1, 12); second = (1, 23); expected = alike (refuses 12 0) (refuses 12 0) halves_mu }
    -- the sheet is refused
    ∷ (record { query = Table 0 ∷ (Table 2 ∷ (Pair Union ∷ [])); first = (1, 1); second = (1, 2); expected = alike (refuses 10 2) (refuses 10 2) (Table 0 ∷ (Table 2 ∷ (Pair Union ∷ []))) }
    ∷ [])))))

-- two filters, one over the other: the upper one finds a recursion below it only once the lower one has gone
abbrev pub filters : List Node
filters = reach ++ (Filter (Eq 0 1) ∷ (Filter (Eq 0 2) ∷ []))

-- a filter in the operand that a step of kind 2 moves: another line stands at its node afterwards
abbrev pub operand : List Node
operand = reach ++ (Table 1 ∷ (right_step ++ (Filter (Eq 0 1) ∷ (Pair Join ∷ []))))

-- one node under the other: why the condition is there
abbrev pub nested : List Turns
nested =
    record {
      query = filters;
      first = (1, 11);
      second = (1, 12);
      expected = record {
        first = accepts;
        first_after = accepts;
        second = refuses 12 0;
        second_after = accepts;
        first_then_second = Table 0 ∷ (Filter (Eq 0 1) ∷ (Filter (Eq 0 2) ∷ reach_step));
        second_then_first = Table 0 ∷ (Filter (Eq 0 1) ∷ (reach_step ++ (Filter (Eq 0 2) ∷ [])));
      };
    }
    ∷ (record {
      query = operand;
      first = (1, 21);
      second = (2, 22);
      expected = record {
        first = accepts;
        first_after = refuses 12 0;
        second = accepts;
        second_after = accepts;
        first_then_second = Table 0 ∷ (Table 1 ∷ (Filter (Eq 0 1) ∷ (right_step ++ (Pair Join ∷ reach_step))));
        second_then_first = Table 0 ∷ (Table 1 ∷ (right_step ++ (Filter (Eq 0 1) ∷ (Pair Join ∷ reach_step))));
      };
    }
    ∷ [])

-- 33 nodes as typed, 32 once the mu is split: the panel takes it only after a step at the desk
abbrev pub only_desk : List Node
only_desk = halves_mu ++ replicate 9 (Filter (Ne 0 9))
