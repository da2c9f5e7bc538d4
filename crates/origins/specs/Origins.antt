-- The origins of a step's columns as its lines and the check's facts show them, node by node.
use Rattle.std.specs.Prelude.{not, List, [], ℕ, zero, suc, ◌+◌, ◌-◌, eqb, ltb, get_or, set, replicate}
use Rattle.std.specs.Prelude.{Option, Some, None}
use Rattle.laws.specs.Lists.{when◌then◌else◌, tabulate}
use Rattle.algebra.specs.declared.Pairing.{Pairing}
use Rattle.algebra.specs.declared.Pairing.TheVariants.{Union, Join, Except}
use Rattle.algebra.specs.Columns.{Cols}
use Rattle.relation.specs.declared.Columns.{Columns}
use Rattle.relation.specs.Rows.{columns, cols_of, columns_of}
use Rattle.query.specs.declared.Node.{Node}
use Rattle.query.specs.declared.Node.TheVariants.{Table, Var, Fact, Pair, Filter, Copy, Drop, Fix, Mu, Last}
use Rattle.query.specs.declared.Query.{Query}
use Rattle.query.specs.declared.Facts.{Facts}
use Rattle.query.specs.Lines.{node_limit}
use Rattle.origins.specs.declared.NodeOrigins.{NodeOrigins}
use Rattle.rewrite.specs.Places.{line_at, start_at, columns_at}

-- the number held for a column: its origin, or the number of columns where it has none
abbrev pub number_at : NodeOrigins → ℕ → ℕ
number_at held c = when ltb c columns then get_or held.from c 0 else columns

-- the origin that a number stands for
abbrev pub origin_of : ℕ → Option ℕ
origin_of n = when ltb n columns then Some n else None

-- of a pair's column, from the numbers of its sides
abbrev pub pair_number : Pairing → ℕ → ℕ → ℕ
pair_number Union m n = when eqb m n then m else columns
pair_number Join m n = when ltb m columns then m else n
pair_number Except m n = m

-- of a column of a variable with the columns own, of a copy and of a drop over an operand with these numbers
abbrev pub own_number : Cols → ℕ → ℕ
own_number own c = when own c then c else columns

abbrev pub copied_number : (ℕ → ℕ) → ℕ → ℕ → ℕ → ℕ
copied_number last a b c = when eqb c b then last a else last c

abbrev pub dropped_number : (ℕ → ℕ) → ℕ → ℕ → ℕ
dropped_number last a c = when eqb c a then columns else last c

-- of a line's column; own: the line's columns; last, first: the numbers of its operands
abbrev pub origin_number : Node → Cols → (ℕ → ℕ) → (ℕ → ℕ) → ℕ → ℕ
origin_number (Table t) own last first c = columns
origin_number (Var v) own last first c = own_number own c
origin_number (Fact b x) own last first c = columns
origin_number (Pair o) own last first c = pair_number o (first c) (last c)
origin_number (Filter f) own last first c = last c
origin_number (Copy a b) own last first c = copied_number last a b c
origin_number (Drop a) own last first c = dropped_number last a c
origin_number (Fix v) own last first c = columns
origin_number (Mu v) own last first c = columns
origin_number (Last a) own last first c = last c

abbrev pub line_origins : Node → Columns → NodeOrigins → NodeOrigins → NodeOrigins
line_origins node own last first = record { from = tabulate (origin_number node (cols_of columns own) (number_at last) (number_at first)) columns }

-- no column has an origin
abbrev pub no_origins : NodeOrigins
no_origins = record { from = replicate columns columns }

abbrev pub origins_at : List NodeOrigins → ℕ → NodeOrigins
origins_at held j = get_or held j (record { from = [] })

module _ (q : Query) (facts : Facts) where
  -- of the node of index j, those of the nodes before it being held: the right operand ends just before it, the left one before the right one starts
  abbrev pub node_origins : List NodeOrigins → ℕ → NodeOrigins
  node_origins held j =
      line_origins (line_at q j) (columns_at facts j) (origins_at held (j - 1)) (origins_at held (start_at facts (j - 1) - 1))

  -- of the k nodes from n on, one after the other
  unfoldable pub origins_from : ℕ → ℕ → List NodeOrigins → List NodeOrigins
  origins_from n zero held = held
  origins_from n (suc k) held = set (origins_from n k held) (n + k) (node_origins (origins_from n k held) (n + k))

  -- of the nodes of a step whose lines stand from n on before those of its fix, which has the index f
  abbrev pub step_origins : ℕ → ℕ → List NodeOrigins
  step_origins n f = origins_from n (f - n) (replicate node_limit no_origins)

-- the columns that do not have themselves as origin
abbrev pub strayed : NodeOrigins → Columns
strayed held = columns_of columns (λ c. not (eqb (number_at held c) c))

-- of the step of the fix of index f, the columns that are not stable
abbrev pub unstable_columns : Query → Facts → ℕ → Columns
unstable_columns q facts f = strayed (origins_at (step_origins q facts (start_at facts (f - 1)) f) (f - 1))
