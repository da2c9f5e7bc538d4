use Prim.Native.Nat.{◌≤◌, ◌-◌}
use mathlib.Core.Path.{◌≡◌}
use Rattle.algebra.specs.Columns.{Schema}
use Rattle.relation.specs.Rows.{columns}
use Rattle.database.specs.declared.Database.{Database}
use Rattle.database.specs.Stored.{schema}
use Rattle.database.specs.Refusals.{no_refusal}
use Rattle.query.specs.Passes.{visits_of, second_at}
use Rattle.query.proofs.PassLoops.{found}
use Rattle.checking.proofs.second_pass.second_pass.Given as goal

abbrev pub G : Database → Schema
G = schema columns

abbrev pub invariant-loop-i : goal.invariant-loop-i
invariant-loop-i l = (l.i ≤ l.query.count) × (no_refusal ≡ found (second_at (G l.database)) (visits_of (G l.database) l.query) l.i)

abbrev pub decreases-loop-i : goal.decreases-loop-i
decreases-loop-i l = l.query.count - l.i
