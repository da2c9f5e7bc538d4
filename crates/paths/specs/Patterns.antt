-- The lines of a path, line by line; `path_lines_lem` says that these are the lines of its term.
use Rattle.std.specs.Prelude.{List, [], ◌∷◌, ◌++◌, ℕ, ◌+◌}
use Rattle.algebra.specs.declared.Pairing.TheVariants.{Union, Join}
use Rattle.query.specs.declared.Node.{Node}
use Rattle.query.specs.declared.Node.TheVariants.{Table, Var, Fact, Pair, Filter, Copy, Drop, Fix, Mu, Last}
use Rattle.paths.specs.Grammar.{PropertyPath, name, alternative, sequence, inverse, plus}
use Rattle.paths.specs.Sheets.{recursions}

-- behind the left side of a sequence, and behind the right one
abbrev pub to_middle : List Node
to_middle = Copy 1 2 ∷ (Drop 1 ∷ [])

abbrev pub from_middle : List Node
from_middle = Copy 0 2 ∷ (Drop 0 ∷ (Pair Join ∷ (Drop 2 ∷ [])))

-- behind the operand of an inverse
abbrev pub exchange : List Node
exchange = Copy 0 2 ∷ (Drop 0 ∷ (Copy 1 0 ∷ (Drop 1 ∷ (Copy 2 1 ∷ (Drop 2 ∷ [])))))

-- the lines of a path that follows n recursions
unfoldable pub lines_from : ℕ → PropertyPath → List Node
lines_from n (name t) = Table t ∷ []
lines_from n (alternative p q) = lines_from n p ++ (lines_from (n + recursions p) q ++ (Pair Union ∷ []))
lines_from n (sequence p q) = lines_from n p ++ (to_middle ++ (lines_from (n + recursions p) q ++ from_middle))
lines_from n (inverse p) = lines_from n p ++ exchange
lines_from n (plus p) =
    lines_from n p
    ++ (Var (n + (recursions p + recursions p))
    ∷ (to_middle ++ (lines_from (n + recursions p) p ++ (from_middle ++ (Fix (n + (recursions p + recursions p)) ∷ [])))))

-- a line with its recursion number raised by r
abbrev pub raised : ℕ → Node → Node
raised r (Table t) = Table t
raised r (Var v) = Var (v + r)
raised r (Fact c x) = Fact c x
raised r (Pair o) = Pair o
raised r (Filter f) = Filter f
raised r (Copy a b) = Copy a b
raised r (Drop a) = Drop a
raised r (Fix v) = Fix (v + r)
raised r (Mu v) = Mu (v + r)
raised r (Last c) = Last c
