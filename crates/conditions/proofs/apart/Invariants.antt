use mathlib.Core.Path.{◌≡◌}
use mathlib.Core.Bool.{Bool, true}
use Prim.Native.Nat.{ℕ}
use Rattle.laws.specs.Lists.{all}
use Rattle.relation.specs.declared.Columns.{Columns}
use Rattle.relation.specs.Rows.{columns, cols_of}
use Rattle.matching.specs.Found.{apart_at}
use Rattle.conditions.proofs.apart.Given as goal

abbrev pub test : Bool → Columns → Columns → Columns → ℕ → Bool
test s a b m = apart_at s (cols_of columns a) (cols_of columns b) (cols_of columns m)

abbrev pub invariant-loop-c : goal.invariant-loop-c
invariant-loop-c l = all (test l.shared l.fix l.other l.marked) l.c ≡ true
