use Prim.Native.Nat.{◌≤◌, ◌-◌}
use mathlib.Core.Path.{◌≡◌}
use Rattle.relation.specs.Rows.{columns}
use Rattle.database.specs.Stored.{schema}
use Rattle.node_columns.specs.NodeColumns.{columns_to}
use Rattle.node_columns.proofs.column_sets.Given as goal

abbrev pub invariant-loop-i : goal.invariant-loop-i
invariant-loop-i l = (l.i ≤ l.query.count) × (l.held ≡ columns_to (schema columns l.database) l.query l.i)

abbrev pub decreases-loop-i : goal.decreases-loop-i
decreases-loop-i l = l.query.count - l.i
