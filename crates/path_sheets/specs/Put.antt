-- Lines put behind a sheet's, as far as there is room, and which lines end what stands before an operand.
use Rattle.std.specs.Prelude.{Option, Some, None, Bool, true, false, List, [], ◌∷◌, ◌++◌, map, ℕ, ◌+◌, ◌-◌, min, leb, take, drop, set}
use Rattle.laws.specs.Lists.{when◌then◌else◌}
use Rattle.laws.specs.Options.{◌then◌}
use Rattle.algebra.specs.declared.Pairing.TheVariants.{Union}
use Rattle.query.specs.declared.Node.{Node}
use Rattle.query.specs.declared.Node.TheVariants.{Table, Var, Fact, Pair, Filter, Copy, Drop, Fix, Mu, Last}
use Rattle.query.specs.declared.Line.{Line}
use Rattle.query.specs.declared.Query.{Query}
use Rattle.query.specs.Lines.{node_limit, line}
use Rattle.reading.specs.QueryReading.{stored}
use Rattle.paths.specs.Patterns.{to_middle, from_middle}
use Rattle.paths.specs.Written.{turn_end}
use Rattle.path_sheets.specs.declared.Sheet.{Sheet}
use Rattle.path_sheets.specs.declared.Before.{Before}

-- one line more, if there is room
unfoldable pub put_line : Sheet → Node → Option Sheet
put_line s x = when leb s.limit s.query.count then None else Some (record { query = stored s.query x; limit = s.limit })

unfoldable pub put_all : Sheet → List Node → Option Sheet
put_all s [] = Some s
put_all s (x ∷ l) = put_line s x then (λ (t : Sheet). put_all t l)

-- lines that are wanted or not
abbrev pub lines_if : Bool → List Node → List Node
lines_if true l = l
lines_if false l = []

-- what ends a sequence, and a whole path
abbrev pub sequence_last : Before → List Node
sequence_last b = turn_end b.inverted ++ lines_if b.sequence from_middle

abbrev pub path_last : Before → List Node
path_last b = sequence_last b ++ lines_if b.alternatives (Pair Union ∷ [])

-- a line with its recursion number raised, if that is as low as an accepted path's
abbrev pub raised_low : ℕ → Node → Node
raised_low r (Table t) = Table t
raised_low r (Var v) = Var (min v node_limit + r)
raised_low r (Fact c x) = Fact c x
raised_low r (Pair o) = Pair o
raised_low r (Filter f) = Filter f
raised_low r (Copy a b) = Copy a b
raised_low r (Drop a) = Drop a
raised_low r (Fix v) = Fix (min v node_limit + r)
raised_low r (Mu v) = Mu (min v node_limit + r)
raised_low r (Last c) = Last c

-- the lines of a query from an index on, up to another, with their numbers raised
abbrev pub again_lines : Query → ℕ → ℕ → ℕ → List Node
again_lines q first end r = map (λ (l : Line). raised_low r l.node) (take (end - first) (drop first q.lines))

-- behind the operand of a plus, which begins at the line first
abbrev pub plus_lines : Query → ℕ → ℕ → ℕ → List Node
plus_lines q first r v =
    Var v ∷ (to_middle ++ (again_lines q first (min q.count node_limit) r ++ (from_middle ++ (Fix v ∷ []))))

-- a sheet with another line at an index
abbrev pub replaced : Sheet → ℕ → Node → Sheet
replaced s at x =
    when leb node_limit at then s else record { query = record { count = s.query.count; lines = set s.query.lines at (line x) }; limit = s.limit }
