use Prim.Native.Nat.{ℕ, ◌≤◌, ◌-◌}
use mathlib.Core.Path.{◌≡◌}
use mathlib.Core.Bool.{Bool, true}
use mathlib.Core.List.{List}
use Rattle.laws.specs.Lists.{all}
use Rattle.relation.specs.declared.Columns.{Columns}
use Rattle.relation.specs.Rows.{columns, cols_of}
use Rattle.relation.specs.Rowwise.{row_ok}
use Rattle.database.proofs.form.rows_ok.Given as goal

abbrev pub test : Columns → List ℕ → ℕ → ℕ → Bool
test cols store start = row_ok columns (cols_of columns cols) store start

abbrev pub invariant-loop-i : goal.invariant-loop-i
invariant-loop-i l = (l.i ≤ l.n) × (all (test l.cols l.store l.start) l.i ≡ true)

abbrev pub decreases-loop-i : goal.decreases-loop-i
decreases-loop-i l = l.n - l.i
