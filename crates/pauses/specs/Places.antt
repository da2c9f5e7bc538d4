-- The test of 23 at one register, and at the registers of one node. w is the number of columns, L the row limit.
use Rattle.std.specs.Prelude.{Bool, true, false, ◌&&◌, List, ℕ, ◌+◌, ◌-◌, ◌*◌, ◌≤◌, eqb, length, get_or, drop}
use Rattle.std.specs.Prelude.{Option, Some, None}
use Rattle.laws.specs.Lists.{when◌then◌else◌, all}
use Rattle.algebra.specs.Columns.{Cols}
use Rattle.relation.specs.Rows.{Rows, rows_of}
use Rattle.relation.specs.Registers.{stretch}
use Rattle.query.specs.declared.Node.{Node}
use Rattle.query.specs.declared.Node.TheVariants.{Table, Var, Fact, Pair, Filter, Copy, Drop, Last, Fix, Mu}
use Rattle.query.specs.Shape.{has_step}
use Rattle.machine.specs.Pauses.{register_ok}

-- so many entries from a place on are zero
abbrev pub zeros : List ℕ → ℕ → ℕ → Bool
zeros ws start n = all (λ i. eqb (get_or ws (start + i) 0) 0) n

-- all entries of register i are there
abbrev pub Room : ℕ → ℕ → ℕ → List ℕ → Type 0
Room w L i ws = stretch w L * i + stretch w L ≤ length ws

module _ (w L : ℕ) (ws : List ℕ) where
  abbrev pub count_at : ℕ → ℕ
  count_at i = get_or ws (stretch w L * i) 0

  abbrev pub rows_at : ℕ → Rows
  rows_at i = rows_of w (count_at i) (drop (stretch w L * i + 1) ws)

  -- register i may hold what it holds, and what is behind its rows is zero
  unfoldable pub place_ok : Option Cols → ℕ → Bool
  place_ok h i = register_ok w L h (rows_at i) && zeros ws (stretch w L * i + 1 + w * count_at i) (w * (L - count_at i))

-- a `var` line
abbrev pub is_var : Node → Bool
is_var (Table t) = false
is_var (Var v) = true
is_var (Fact c x) = false
is_var (Pair o) = false
is_var (Filter f) = false
is_var (Copy c d) = false
is_var (Drop c) = false
is_var (Last c) = false
is_var (Fix v) = false
is_var (Mu v) = false

-- the registers of a node by its line, with the node's columns D: its own, i, which is to be zero for a `var`, and a fix's delta register
unfoldable pub node_ok : ℕ → ℕ → List ℕ → Node → Cols → ℕ → ℕ → Bool
node_ok w L ws x D i delta =
    when is_var x then place_ok w L ws None i else place_ok w L ws (Some D) i && (when has_step x then place_ok w L ws (Some D) delta else true)
