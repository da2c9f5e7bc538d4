use Prim.Native.Nat.{◌≤◌, ◌+◌}
use mathlib.Core.Path.{◌≡◌}
use Rattle.algebra.specs.Term.{Term}
use Rattle.relation.specs.Rows.{columns}
use Rattle.database.specs.declared.Database.{Database}
use Rattle.pauses.specs.Tested.{Laid}
use Rattle.pauses.proofs.NodeTests.{SoFar}
use Rattle.pauses.proofs.test.registers_ok.Given as goal

abbrev pub invariant-loop-i : goal.invariant-loop-i
invariant-loop-i l = (l.i ≤ l.count) × (l.count ≡ l.query.count) × (l.registers ≤ l.count + l.i) × ((d : Database) (t : Term) (laid : Laid columns l.query l.facts l.limit l.ws d t) → SoFar laid l.i l.registers)
