-- Document 02's "Two editors on two branches": which nodes lie on two branches, what it is for two steps there to commute, and the lists of steps that two
-- editors make by turns. w is the number of columns.
use Rattle.std.specs.Prelude.{◌≡◌, ◌↔◌, ◌≢◌, List, [], ◌∷◌, ℕ, ◌+◌, ◌≤◌, ◌<◌}
use Rattle.std.specs.Prelude.{Some}
use Rattle.algebra.specs.Term.{Term}
use Rattle.algebra.specs.Columns.{size}
use Rattle.database.specs.declared.Database.{Database}
use Rattle.database.specs.Refusals.{Verdict}
use Rattle.database.specs.Refusals.{verdict, ◌>>=◌}
use Rattle.query.specs.declared.Node.{Node}
use Rattle.query.specs.declared.Query.{Query}
use Rattle.query.specs.Lines.{nodes, term_of}
use Rattle.query.specs.Check.{split_term, split_of}
use Rattle.rewrite.specs.Rewrite.{ended_at, handed_back, Step, replied}

-- the lines in which the nodes of steps count: "all later node places count in the split sheet". A sheet that has none, and gets 3 or 20, is as typed.
abbrev pub split_lines : Query → List Node
split_lines q = nodes (split_of q (term_of (nodes q) >>= split_term))

-- line i is one of those that end at node n, which are as many as the term there has nodes
pub record Stretch (q : Query) (n i : ℕ) : Type 0 where
  pub node : Term
  pub ends : ended_at (split_lines q) n ≡ Some node
  pub from : n < i + size node
  pub to : i ≤ n

-- node m lies under node n: it is another one, and its line is among those that end at n
pub record Under (q : Query) (m n : ℕ) : Type 0 where
  pub other : m ≢ n
  pub among : Stretch q n m

-- "two different nodes of which neither lies under the other"
pub record Apart (q : Query) (m n : ℕ) : Type 0 where
  pub different : m ≢ n
  pub not_under : ¬ Under q m n
  pub not_over : ¬ Under q n m

-- the sheet after a step: the rule's where it is accepted, else the one given
abbrev pub stepped : ℕ → Query → Step → Query
stepped w q s = handed_back q (replied w q s)

-- "both given the same book", each with a node limit of its own, that of desk or panel: with it the sheet is taken exactly if it is with this one
pub record Given (limit : ℕ) (d : Database) (store : List ℕ) (q : Query) (s : Step) : Type 0 where
  pub same_database : s.database ≡ d
  pub same_store : s.store ≡ store
  pub taken : (q.count ≤ s.limit) ↔ (q.count ≤ limit)

-- "either is accepted after the other exactly if it was before, with the same refusal otherwise, and … both orders end in the same sheet"
pub record Commute (w : ℕ) (q : Query) (s s' : Step) : Type 0 where
  pub first_after_lem : verdict (replied w (stepped w q s') s) ≡ verdict (replied w q s)
  pub second_after_lem : verdict (replied w (stepped w q s) s') ≡ verdict (replied w q s')
  pub same_sheet : stepped w (stepped w q s) s' ≡ stepped w (stepped w q s') s

-- a step of kinds 1 to 6 at node m or at one under it
pub record OnBranch (q : Query) (m : ℕ) (s : Step) : Type 0 where
  pub kind : s.kind ≤ 6
  pub node : Stretch q m s.node

-- the third list is made of the first two by turns, each in its order
pub data Interleaved {A : Type 0} : List A → List A → List A → Type 0 where
  nothing : Interleaved [] [] []
  from_first : {x : A} {l m n : List A} → Interleaved l m n → Interleaved (x ∷ l) m (x ∷ n)
  from_second : {x : A} {l m n : List A} → Interleaved l m n → Interleaved l (x ∷ m) (x ∷ n)

-- each step of a list with the verdict that its editor gets
unfoldable pub told : ℕ → Query → List Step → List (Step × Verdict)
told w q [] = []
told w q (s ∷ steps) = (s, verdict (replied w q s)) ∷ told w (stepped w q s) steps
