-- What a kind from 7 to 11 finds at a node of a checked query, what 2 and 22 ask of it, and what is written, all read off the lines and what the check
-- tells. That this is document 02's step is a theorem (`pass_exact`).
use Rattle.std.specs.Prelude.{Bool, true, ℕ, ◌+◌, eqb, ltb, Option, Some, None}
use Rattle.laws.specs.Lists.{when◌then◌else◌, every}
use Rattle.algebra.specs.declared.Pairing.{Pairing}
use Rattle.algebra.specs.declared.Pairing.TheVariants.{Union, Join, Except}
use Rattle.algebra.specs.declared.Condition.{Condition}
use Rattle.algebra.specs.Columns.{named}
use Rattle.database.specs.declared.Refusal.TheVariants.{NodeCount, NoMatch, SideLacks}
use Rattle.database.specs.Refusals.{Reply, accepted, require, or_refuse, ◌>>=◌}
use Rattle.query.specs.declared.Node.{Node}
use Rattle.query.specs.declared.Node.TheVariants.{Table, Var, Fact, Pair, Filter, Copy, Drop, Last, Fix, Mu}
use Rattle.query.specs.declared.Query.{Query}
use Rattle.query.specs.declared.Facts.{Facts}
use Rattle.rewrite.specs.Places.{line_at, start_at}
use Rattle.rewrite.specs.Splices.{with_lines, exchanged, with_inserted}
use Rattle.matching.specs.Found.{right_of, left_of, cols_at}
use Rattle.passing.specs.declared.Passed.{Passed}
use Rattle.passing.specs.declared.Passed.TheVariants.{PastUnion, PastLeft, PastRight, PastExcept, PastFilter}

-- k: the kind; f: a filter
module _ (k : ℕ) (f : Condition) where
  abbrev pub pair_passed : Pairing → Option Passed
  pair_passed Union = when eqb k 7 then Some (PastUnion f) else None
  pair_passed Join = when eqb k 8 then Some (PastLeft f) else when eqb k 9 then Some (PastRight f) else None
  pair_passed Except = when eqb k 10 then Some PastExcept else None

  -- by the line that the filter takes
  abbrev pub under_passed : Node → Option Passed
  under_passed (Table t) = None
  under_passed (Var v) = None
  under_passed (Fact c x) = None
  under_passed (Pair o) = pair_passed o
  under_passed (Filter g) = when eqb k 11 then Some PastFilter else None
  under_passed (Copy a b) = None
  under_passed (Drop a) = None
  under_passed (Last a) = None  -- "`last` is no filter in these rules."
  under_passed (Fix v) = None
  under_passed (Mu v) = None

-- i: the index of the node
module _ (q : Query) (k i : ℕ) where
  abbrev pub line_passed : Node → Option Passed
  line_passed (Table t) = None
  line_passed (Var v) = None
  line_passed (Fact c x) = None
  line_passed (Pair o) = None
  line_passed (Filter f) = under_passed k f (line_at q (right_of i))
  line_passed (Copy a b) = None
  line_passed (Drop a) = None
  line_passed (Last a) = None  -- "`last` is no filter in these rules."
  line_passed (Fix v) = None
  line_passed (Mu v) = None

  -- what kind k finds at the node of index i
  abbrev pub passed_at : Option Passed
  passed_at = line_passed (line_at q i)

-- 2, "if the sheet, once split, is already at the node limit"
abbrev pub room_at : ℕ → Query → Passed → Bool
room_at limit q (PastUnion f) = ltb q.count limit
room_at limit q (PastLeft f) = true
room_at limit q (PastRight f) = true
room_at limit q PastExcept = true
room_at limit q PastFilter = true

-- of a filter over a pair, i being the filter's index: where the left side ends, where the right one starts and ends
abbrev pub left_end : Facts → ℕ → ℕ
left_end facts i = left_of facts (right_of i)

abbrev pub right_end : ℕ → ℕ
right_end i = right_of (right_of i)

abbrev pub right_start : Facts → ℕ → ℕ
right_start facts i = start_at facts (right_end i)

-- 9 and 11: the filter and the line that it takes are exchanged
abbrev pub lowered_at : Query → ℕ → Query
lowered_at q i = with_lines q (exchanged (right_of i) i (i + 1) q.lines)

module _ (q : Query) (facts : Facts) (i : ℕ) where
  -- 22, "the named side lacks a column of the filter"
  abbrev pub side_at : Passed → Bool
  side_at (PastUnion f) = true
  side_at (PastLeft f) = every (cols_at q facts (left_end facts i)) (named f)
  side_at (PastRight f) = every (cols_at q facts (right_end i)) (named f)
  side_at PastExcept = true
  side_at PastFilter = true

  -- 8 and 10: the filter moves before the right side's first line
  abbrev pub left_at : Query
  left_at = with_lines q (exchanged (right_start facts i) i (i + 1) q.lines)

  -- 7: a second filter before the right side's first line, and the first one, now a line further, at the right side
  abbrev pub both_at : Condition → Query
  both_at f = lowered_at (with_inserted q (right_start facts i) (Filter f)) (i + 1)

  -- what is written at the node of index i
  abbrev pub pass_written : Passed → Query
  pass_written (PastUnion f) = both_at f
  pass_written (PastLeft f) = left_at
  pass_written (PastRight f) = lowered_at q i
  pass_written PastExcept = left_at
  pass_written PastFilter = lowered_at q i

module _ (limit : ℕ) (q : Query) (facts : Facts) where
  -- 12, then 2 and 22: what is found, if the tests pass it
  abbrev pub pass_judged : ℕ → Option Passed → Reply Passed
  pass_judged i o = do
    m ← or_refuse o NoMatch
    _ ← require (room_at limit q m) (NodeCount 0)
    _ ← require (side_at q facts i m) SideLacks
    accepted m

  -- and what is written
  abbrev pub pass_reply_to : ℕ → Option Passed → Reply Query
  pass_reply_to i o = pass_judged i o >>= λ m. accepted (pass_written q facts i m)

  -- the step of kind k at the node of index i
  abbrev pub pass_reply : ℕ → ℕ → Reply Query
  pass_reply k i = pass_reply_to i (passed_at q k i)
