-- What a kind finds at a node of a checked query, what 13 to 15 ask of it, and what is written, all read off the lines and what the check tells.
-- That this is what document 01's rules reply is a theorem (`node_reply_lem`).
use Rattle.std.specs.Prelude.{Option, Some, None, option_and_then}
use Rattle.std.specs.Prelude.{◌≡◌, Bool, true, false, not, ◌&&◌, ◌||◌, ℕ, ◌+◌, ◌-◌, ◌≤◌, ◌<◌, eqb, leb}
use Rattle.laws.specs.Lists.{when◌then◌else◌, ◌iff◌, every, all}
use Rattle.algebra.specs.declared.Pairing.{Pairing}
use Rattle.algebra.specs.declared.Pairing.TheVariants.{Union, Join, Except}
use Rattle.algebra.specs.declared.Condition.{Condition}
use Rattle.algebra.specs.Columns.{Cols, named}
use Rattle.relation.specs.Rows.{columns, cols_of}
use Rattle.database.specs.declared.Refusal.TheVariants.{NoMatch, Unstable, Used, OpenOperand}
use Rattle.database.specs.Refusals.{Reply, refused, accepted, require, or_refuse, ◌>>=◌}
use Rattle.query.specs.declared.Node.{Node}
use Rattle.query.specs.declared.Node.TheVariants.{Table, Var, Fact, Pair, Filter, Copy, Drop, Last, Fix, Mu}
use Rattle.query.specs.declared.Query.{Query}
use Rattle.query.specs.declared.Facts.{Facts}
use Rattle.query.specs.Lines.{node_limit}
use Rattle.query.specs.Shape.{has_step}
use Rattle.query.specs.FreeSets.{none_in}
use Rattle.rewrite.specs.Places.{line_at, start_at, free_at, columns_at, fix_number, StartsLow}
use Rattle.rewrite.specs.Path.{used_columns}
use Rattle.origins.specs.Origins.{unstable_columns}
use Rattle.rewrite.specs.Splices.{with_lines, exchanged, merged}
use Rattle.matching.specs.declared.Found.{Found}
use Rattle.matching.specs.declared.Found.TheVariants.{FilterFix, FixJoin, JoinFix, FixExcept, DropFix, FixFix}

-- where the operands of the node of index i end: the last just before it, the first just before the last starts
abbrev pub right_of : ℕ → ℕ
right_of i = i - 1

abbrev pub left_of : Facts → ℕ → ℕ
left_of facts i = start_at facts (i - 1) - 1

module _ (q : Query) where
  -- what is found over an operand, if that is a fix
  abbrev pub over_fix : ℕ → Found → Option Found
  over_fix x m = when has_step (line_at q x) then Some m else None

  -- k: the kind; i: the index of the node
  module _ (k i : ℕ) where
    abbrev pub filter_found : Condition → Option Found
    filter_found f = when eqb k 1 then over_fix (right_of i) (FilterFix f (right_of i)) else None

    abbrev pub drop_found : ℕ → Option Found
    drop_found c = when eqb k 5 then over_fix (right_of i) (DropFix c (right_of i)) else None

  module _ (facts : Facts) (k i : ℕ) where
    abbrev pub join_found : Option Found
    join_found =
        when eqb k 2 then over_fix (left_of facts i) (FixJoin (left_of facts i) (right_of i))
        else
        when eqb k 3 then over_fix (right_of i) (JoinFix (left_of facts i) (right_of i))
        else
        when eqb k 6 then option_and_then (over_fix (right_of i)) (over_fix (left_of facts i) (FixFix (left_of facts i) (right_of i)))
        else None

    abbrev pub except_found : Option Found
    except_found = when eqb k 4 then over_fix (left_of facts i) (FixExcept (left_of facts i) (right_of i)) else None

    abbrev pub pair_found : Pairing → Option Found
    pair_found Union = None
    pair_found Join = join_found
    pair_found Except = except_found

    abbrev pub line_found : Node → Option Found
    line_found (Table t) = None
    line_found (Var v) = None
    line_found (Fact c x) = None
    line_found (Pair o) = pair_found o
    line_found (Filter f) = filter_found k i f
    line_found (Copy a b) = None
    line_found (Drop a) = drop_found k i a
    line_found (Last a) = None
    line_found (Fix v) = None
    line_found (Mu v) = None

    -- what kind k finds at the node of index i
    abbrev pub found_at : Option Found
    found_at = line_found (line_at q i)

-- what is found ends at lines of the query
abbrev pub Within : Query → Found → Type 0
Within q (FilterFix f x) = x < q.count
Within q (FixJoin x o) = (x < q.count) × (o < q.count)
Within q (JoinFix o x) = (x < q.count) × (o < q.count)
Within q (FixExcept x o) = (x < q.count) × (o < q.count)
Within q (DropFix d x) = x < q.count
Within q (FixFix x y) = (x < q.count) × (y < q.count)

-- no operand ends behind the node of index i, and the left one of two fixes ends before the right one's step
abbrev pub Fits : Facts → ℕ → Found → Type 0
Fits facts i (FilterFix f x) = x ≤ i
Fits facts i (FixJoin x o) = (x ≤ i) × (o ≤ i)
Fits facts i (JoinFix o x) = (x ≤ i) × (o ≤ i)
Fits facts i (FixExcept x o) = (x ≤ i) × (o ≤ i)
Fits facts i (DropFix d x) = x ≤ i
Fits facts i (FixFix x y) = (x < start_at facts (y - 1)) × (start_at facts (y - 1) < i) × (y ≤ i)

-- of a checked query's facts: no node starts behind its own line, and a fix's step starts behind its seed
pub record Placed (q : Query) (facts : Facts) : Type 0 where
  pub fits : q.count ≤ node_limit
  pub low : StartsLow facts
  pub seeded : (y : ℕ) → has_step (line_at q y) ≡ true → start_at facts y < start_at facts (y - 1)

-- a column of an operand, E, that the fix, D, has too (shared) or lacks (not shared) is not marked
abbrev pub apart_at : Bool → Cols → Cols → Cols → ℕ → Bool
apart_at shared D E marked c = not (E c && (D c iff shared)) || not (marked c)

module _ (q : Query) (facts : Facts) where
  -- the columns of the node of index x; of the step of the fix of index x, those that are not stable and those that are used
  abbrev pub cols_at : ℕ → Cols
  cols_at x = cols_of columns (columns_at facts x)

  abbrev pub unstable_at : ℕ → Cols
  unstable_at x = cols_of columns (unstable_columns q facts x)

  abbrev pub used_at : ℕ → Cols
  used_at x = cols_of columns (used_columns q facts x)

  -- "Shared columns are stable"
  abbrev pub shared_kept : ℕ → ℕ → Bool
  shared_kept x o = all (apart_at true (cols_at x) (cols_at o) (unstable_at x)) columns

  -- "the operand's other columns are not used"
  abbrev pub others_fresh : ℕ → ℕ → Bool
  others_fresh x o = all (apart_at false (cols_at x) (cols_at o) (used_at x)) columns

  -- "The filter's columns are stable."
  abbrev pub filter_kept : Condition → ℕ → Bool
  filter_kept f x = every (λ c. not (unstable_at x c)) (named f)

  -- "The column is not used."
  abbrev pub drop_fresh : ℕ → ℕ → Bool
  drop_fresh d x = not (used_at x d)

  -- 13, 14, 15
  abbrev pub stable_at : Found → Bool
  stable_at (FilterFix f x) = filter_kept f x
  stable_at (FixJoin x o) = shared_kept x o
  stable_at (JoinFix o x) = shared_kept x o
  stable_at (FixExcept x o) = shared_kept x o
  stable_at (DropFix d x) = true
  stable_at (FixFix x y) = shared_kept x y && shared_kept y x

  abbrev pub unused_at : Found → Bool
  unused_at (FilterFix f x) = true
  unused_at (FixJoin x o) = others_fresh x o
  unused_at (JoinFix o x) = others_fresh x o
  unused_at (FixExcept x o) = true
  unused_at (DropFix d x) = drop_fresh d x
  unused_at (FixFix x y) = others_fresh x y && others_fresh y x

  -- kinds 1 to 5: step and fix of the fix of index x behind what follows them up to i
  abbrev pub moved_at : ℕ → ℕ → Query
  moved_at i x = with_lines q (exchanged (start_at facts (x - 1)) (x + 1) (i + 1) q.lines)

  -- kind 6
  abbrev pub merged_at : ℕ → ℕ → ℕ → Query
  merged_at i x y =
      with_lines q (merged (start_at facts (x - 1)) x (start_at facts (y - 1)) i (fix_number (line_at q y)) (fix_number (line_at q x)) q.lines)

  -- what is written at the node of index i
  abbrev pub written_at : ℕ → Found → Query
  written_at i (FilterFix f x) = moved_at i x
  written_at i (FixJoin x o) = moved_at i x
  written_at i (JoinFix o x) = moved_at i x
  written_at i (FixExcept x o) = moved_at i x
  written_at i (DropFix d x) = moved_at i x
  written_at i (FixFix x y) = merged_at i x y

abbrev pub closed_at : Facts → Found → Bool
closed_at facts (FilterFix f x) = true
closed_at facts (FixJoin x o) = none_in (free_at facts o)
closed_at facts (JoinFix o x) = none_in (free_at facts o)
closed_at facts (FixExcept x o) = none_in (free_at facts o)
closed_at facts (DropFix d x) = true
closed_at facts (FixFix x y) = true

-- "12 to 15 in order": what is found, if the tests pass it
abbrev pub judged_at : Query → Facts → Option Found → Reply Found
judged_at q facts o = do
  m ← or_refuse o NoMatch
  _ ← require (stable_at q facts m) Unstable
  _ ← require (unused_at q facts m) Used
  _ ← require (closed_at facts m) OpenOperand
  accepted m

-- and what is written
abbrev pub reply_to : Query → Facts → ℕ → Option Found → Reply Query
reply_to q facts i o = judged_at q facts o >>= λ m. accepted (written_at q facts i m)

-- "Nodes count from 1.": what is replied at node n, by the index; 12 where there is no such node
abbrev pub at_node : Query → (ℕ → Reply Query) → ℕ → Reply Query
at_node q reply n = when eqb n 0 then refused NoMatch else when leb n q.count then reply (n - 1) else refused NoMatch
