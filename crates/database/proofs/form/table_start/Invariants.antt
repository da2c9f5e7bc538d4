use Prim.Native.Nat.{◌≤◌, ◌-◌}
use mathlib.Core.Path.{◌≡◌}
use Rattle.relation.specs.Rows.{columns}
use Rattle.database.specs.Stored.{table_start}
use Rattle.database.proofs.form.table_start.Given as goal

abbrev pub invariant-loop-u : goal.invariant-loop-u
invariant-loop-u l = (l.u ≤ l.t) × (l.start ≡ table_start columns l.database l.u)

abbrev pub decreases-loop-u : goal.decreases-loop-u
decreases-loop-u l = l.t - l.u
