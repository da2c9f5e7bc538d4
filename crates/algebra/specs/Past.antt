-- The five rules of document 02's "Filters past the ordinary lines", on terms: what each kind finds, asks and writes. The node is the filter's.
use Rattle.std.specs.Prelude.{◌≡◌, Bool, true, false, ℕ, eqb}
use Rattle.std.specs.Prelude.{Option, Some, None}
use Rattle.laws.specs.Lists.{when◌then◌else◌, every}
use Rattle.algebra.specs.declared.Pairing.{Pairing}
use Rattle.algebra.specs.declared.Pairing.TheVariants.{Union, Join, Except}
use Rattle.algebra.specs.declared.Condition.{Condition}
use Rattle.algebra.specs.Term.{Term, table, var, fact, pair, filter, copy, drop, last, fix, mu}
use Rattle.algebra.specs.Columns.{Cols, Schema, cols, named}
use Rattle.algebra.specs.WellFormed.{Each}

-- what a kind finds: a filter, and the operands of the line that it goes past
pub data Past : Type 0 where
  past_union : Condition → Term → Term → Past  -- 7, "a filter over a union copied to both sides"
  past_left : Condition → Term → Term → Past  -- 8, of "Kinds 8 and 9 move a filter over a join to the left or right side"
  past_right : Condition → Term → Term → Past  -- 9
  past_except : Condition → Term → Term → Past  -- "Kind 10 moves it over an except to the left"
  past_filter : Condition → Condition → Term → Past  -- "11 exchanges two filters": the upper, the lower

unfoldable pub past_pair : ℕ → Condition → Pairing → Term → Term → Option Past
past_pair k f Union a b = when eqb k 7 then Some (past_union f a b) else None
past_pair k f Join a b = when eqb k 8 then Some (past_left f a b) else (when eqb k 9 then Some (past_right f a b) else None)
past_pair k f Except a b = when eqb k 10 then Some (past_except f a b) else None

-- what kind k finds under a filter
unfoldable pub under_filter : ℕ → Condition → Term → Option Past
under_filter k f (table t) = None
under_filter k f (var v) = None
under_filter k f (fact c x) = None
under_filter k f (pair o a b) = past_pair k f o a b
under_filter k f (filter g a) = when eqb k 11 then Some (past_filter f g a) else None
under_filter k f (copy c d a) = None
under_filter k f (drop c a) = None
under_filter k f (last c a) = None  -- "`last` is no filter in these rules."
under_filter k f (fix v a b) = None
under_filter k f (mu v a) = None

-- what kind k finds at a node
unfoldable pub find_past : ℕ → Term → Option Past
find_past k (table t) = None
find_past k (var v) = None
find_past k (fact c x) = None
find_past k (pair o a b) = None
find_past k (filter f a) = under_filter k f a
find_past k (copy c d a) = None
find_past k (drop c a) = None
find_past k (last c a) = None  -- "`last` is no filter in these rules."
find_past k (fix v a b) = None
find_past k (mu v a) = None

-- "Kind 7 adds a node"
unfoldable pub adds_node : Past → Bool
adds_node (past_union f a b) = true
adds_node (past_left f a b) = false
adds_node (past_right f a b) = false
adds_node (past_except f a b) = false
adds_node (past_filter f g a) = false

-- G: the book's columns; C: those of the variable around the node
module _ (G : Schema) (C : Cols) where
  -- "if that side has all its columns"
  unfoldable pub side_has : Past → Bool
  side_has (past_union f a b) = true
  side_has (past_left f a b) = every (cols G C a) (named f)
  side_has (past_right f a b) = every (cols G C b) (named f)
  side_has (past_except f a b) = true
  side_has (past_filter f g a) = true

  -- the same in words
  abbrev pub SideHas : Past → Type 0
  SideHas (past_union f a b) = Unit {0}
  SideHas (past_left f a b) = Each (λ c. cols G C a c ≡ true) (named f)
  SideHas (past_right f a b) = Each (λ c. cols G C b c ≡ true) (named f)
  SideHas (past_except f a b) = Unit {0}
  SideHas (past_filter f g a) = Unit {0}

-- what the rule writes
unfoldable pub moved : Past → Term
moved (past_union f a b) = pair Union (filter f a) (filter f b)
moved (past_left f a b) = pair Join (filter f a) b
moved (past_right f a b) = pair Join a (filter f b)
moved (past_except f a b) = pair Except (filter f a) b
moved (past_filter f g a) = filter g (filter f a)
