-- Document 01's "Checking": the two passes as lists of faults in the paper's order; the refusal is the first. Before them each `mu` is split
-- (document 02, U4), and they see the split sheet only. w is the number of columns.
use Rattle.std.specs.Prelude.{Bool, true, false, not, ◌&&◌, ◌||◌, List, [], ◌∷◌, ◌++◌, ℕ, ◌+◌, ltb}
use Rattle.laws.specs.Lists.{◌iff◌, every, all, member}
use Rattle.algebra.specs.declared.Pairing.{Pairing}
use Rattle.algebra.specs.declared.Pairing.TheVariants.{Union, Join, Except}
use Rattle.algebra.specs.Mapping.{Relation}
use Rattle.algebra.specs.Term.{Term, meaning, table, var, fact, pair, filter, copy, drop, last, fix, mu}
use Rattle.algebra.specs.Columns.{Cols, no_cols, Schema, cols, free, is_closed, size, fix_numbers, named}
use Rattle.algebra.specs.Split.{split, splits}
use Rattle.database.specs.declared.Database.{Database}
use Rattle.database.specs.declared.Refusal.{Refusal}
use Rattle.database.specs.declared.Refusal.TheVariants.{Scope, OpenExcept, OpenJoin, OpenFix, HalfOpen, ColumnFault, NoTable, Unsplit}
use Rattle.database.specs.Stored.{schema, check_database, tables}
use Rattle.database.specs.Refusals.{Reply, refused, accepted, no_fault, ◌>>=◌}
use Rattle.query.specs.declared.Query.{Query}
use Rattle.query.specs.Lines.{nodes, with_nodes, lines, check_form, term_of}

-- a fault where a test fails
unfoldable pub unless : Bool → Refusal → List Refusal
unless true r = []
unless false r = r ∷ []

-- 20, "no closed or no open branch, place the lowest such `mu` as typed", lowest node first. The term's lines follow n others. Branches are
-- looked at as typed too: once the mus in them are split they are closed or open as before (`split_splits`).
unfoldable pub split_faults : Term → ℕ → List Refusal
split_faults (table t) n = []
split_faults (var v) n = []
split_faults (fact c x) n = []
split_faults (pair o a b) n = split_faults a n ++ split_faults b (n + size a)
split_faults (filter f a) n = split_faults a n
split_faults (copy c d a) n = split_faults a n
split_faults (drop c a) n = split_faults a n
split_faults (last c a) n = split_faults a n
split_faults (fix v a b) n = split_faults a n ++ split_faults b (n + size a)
split_faults (mu v a) n = split_faults a n ++ unless (splits a) (Unsplit (n + size (mu v a)))

-- the split sheet's term: 20 is "tested after 3 and before 4"
unfoldable pub split_term : Term → Reply Term
split_term t = do
  _ ← no_fault (split_faults t 0)
  accepted (split t)

-- 5, 6, 8 at a pair at node n, whose sides are closed or not
abbrev pub pair_faults : Pairing → Bool → Bool → ℕ → List Refusal
pair_faults Union left right n = unless (left iff right) (HalfOpen n)
pair_faults Join left right n = unless (left || right) (OpenJoin n)
pair_faults Except left right n = unless right (OpenExcept n)

-- "First pass, lowest node first, then lowest number: 4 to 8." Of a `last`, U9: "an open operand is refused with 5 at that line". The term's lines follow n
-- others; around: the numbers of the fixes in whose step it lies; taken: those of the fixes of lower nodes. A mu that is left got 20: a sheet that has passed it
-- has none.
unfoldable pub first_pass : Term → List ℕ → List ℕ → ℕ → List Refusal
first_pass (table t) around taken n = []
first_pass (var v) around taken n = unless (member v around) (Scope (n + 1))
first_pass (fact c x) around taken n = []
first_pass (pair o a b) around taken n =
    first_pass a around taken n
    ++ (first_pass b around (taken ++ fix_numbers a) (n + size a) ++ pair_faults o (is_closed a) (is_closed b) (n + size (pair o a b)))
first_pass (filter f a) around taken n = first_pass a around taken n
first_pass (copy c d a) around taken n = first_pass a around taken n
first_pass (drop c a) around taken n = first_pass a around taken n
first_pass (last c a) around taken n = first_pass a around taken n ++ unless (is_closed a) (OpenExcept (n + size (last c a)))
first_pass (fix v a b) around taken n =
    first_pass a around taken n
    ++ (first_pass b (v ∷ around) (taken ++ fix_numbers a) (n + size a)
    ++ (unless (not (member v (taken ++ (fix_numbers a ++ fix_numbers b)))) (Scope (n + size (fix v a b)))
    ++ (unless (is_closed (fix v a b)) (OpenFix (n + size (fix v a b)))
    ++ unless (member v (free b)) (HalfOpen (n + size (fix v a b))))))
first_pass (mu v a) around taken n = first_pass a around taken n ++ (Unsplit (n + size (mu v a)) ∷ [])

abbrev pub same_cols : ℕ → Cols → Cols → Bool
same_cols w D E = all (λ c. D c iff E c) w

-- 9: the sides of a union
abbrev pub sides_ok : ℕ → Pairing → Cols → Cols → Bool
sides_ok w Union D E = same_cols w D E
sides_ok w Join D E = true
sides_ok w Except D E = true

-- "Second pass, lowest node: 9 or 10." The term's lines follow n others; C: the variable's columns.
unfoldable pub second_pass : Schema → Term → Cols → ℕ → List Refusal
second_pass G (table t) C n = unless (ltb t G.tables) (NoTable (n + 1))
second_pass G (var v) C n = []
second_pass G (fact c x) C n = []
second_pass G (pair o a b) C n =
    second_pass G a C n
    ++ (second_pass G b C (n + size a) ++ unless (sides_ok G.width o (cols G C a) (cols G C b)) (ColumnFault (n + size (pair o a b))))
second_pass G (filter f a) C n = second_pass G a C n ++ unless (every (cols G C a) (named f)) (ColumnFault (n + size (filter f a)))
second_pass G (copy c d a) C n = second_pass G a C n ++ unless (cols G C a c && not (cols G C a d)) (ColumnFault (n + size (copy c d a)))
second_pass G (drop c a) C n = second_pass G a C n ++ unless (cols G C a c) (ColumnFault (n + size (drop c a)))
second_pass G (last c a) C n = second_pass G a C n ++ unless (cols G C a c) (ColumnFault (n + size (last c a)))
second_pass G (fix v a b) C n =
    second_pass G a C n
    ++ (second_pass G b (cols G C a) (n + size a)
    ++ unless (same_cols G.width (cols G (cols G C a) b) (cols G C a)) (ColumnFault (n + size (fix v a b))))
second_pass G (mu v a) C n = second_pass G a C n

unfoldable pub faults : Schema → Term → List Refusal
faults G t = first_pass t [] [] 0 ++ second_pass G t no_cols 0

-- the split sheet's term, or the first of 2, 1, 3, 20, 4 to 8, 9 and 10: "all later node places count in the split sheet"
unfoldable pub check_query : ℕ → Query → Schema → Reply Term
check_query limit q G = do
  _ ← check_form G.width limit q
  typed ← term_of (nodes q)
  t ← split_term typed
  _ ← no_fault (faults G t)
  accepted t

-- the split sheet as a value: the lines of the checked term t of q, in place of those typed
abbrev pub split_sheet : Query → Term → Query
split_sheet q t = with_nodes q (lines t)

-- what later stages see of a query: the split sheet, and of one that is refused the query as given
abbrev pub split_of : Query → Reply Term → Query
split_of q (refused r) = q
split_of q (accepted t) = split_sheet q t

-- "A sheet is checked over a book if neither gets a number from 1 to 11", and "a sheet that gets 20 isn't checked either": what a run and a step
-- test first, the book before the sheet
unfoldable pub check_over : ℕ → ℕ → Query → Database → List ℕ → Reply Term
check_over w limit q d store = do
  _ ← check_database w d store
  check_query limit q (schema w d)

-- the meaning of a term over a book: no variable stands for anything
abbrev pub meaning_over : ℕ → Database → List ℕ → Term → Relation
meaning_over w d store t = meaning (tables w d store) t (λ v m. ⊥)

-- "A sheet's meaning over a book is its last node's by the table of lines": that of its term as typed, no mu being split
abbrev pub typed_meaning : ℕ → Database → List ℕ → Reply Term → Relation
typed_meaning w d store (refused r) m = ⊥
typed_meaning w d store (accepted t) m = meaning_over w d store t m

abbrev pub sheet_meaning : ℕ → Database → List ℕ → Query → Relation
sheet_meaning w d store q = typed_meaning w d store (term_of (nodes q))
