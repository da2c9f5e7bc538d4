use Prim.Native.Nat.{◌≤◌, ◌<◌, ◌-◌}
use mathlib.Core.Path.{◌≡◌}
use mathlib.Core.List.{[]}
use lib.ListN.{drop}
use Rattle.algebra.specs.Columns.{no_cols, Schema}
use Rattle.query.specs.Passes.{visits_of, visit_at}
use Rattle.query.proofs.Contexts.{context}
use Rattle.node_columns.proofs.variable_columns.Given as goal

abbrev pub invariant-loop-g : goal.invariant-loop-g
invariant-loop-g l = (l.i < l.g) × (l.g ≤ l.query.count) × ((G : Schema) → (visit_at G l.query l.i).variable ≡ (context G l.i (drop l.g (visits_of G l.query)) (record { variable = no_cols; around = [] })).variable)

abbrev pub decreases-loop-g : goal.decreases-loop-g
decreases-loop-g l = l.query.count - l.g
