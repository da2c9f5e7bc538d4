use Prim.Native.Nat.{ℕ, ◌≤◌, ◌<◌}
use mathlib.Core.Path.{◌≡◌}
use mathlib.Core.Bool.{true}
use lib.ListN.{length}
use Rattle.relation.specs.Rows.{columns}
use Rattle.database.specs.Stored.{table_start, table_ok}
use Rattle.database.proofs.form.check_database.Given as goal

abbrev pub invariant-loop-t : goal.invariant-loop-t
invariant-loop-t l = (l.start ≡ table_start columns l.database l.t) × ((l.start ≤ length l.store) × ((u : ℕ) → u < l.t → table_ok columns l.database l.store u ≡ true))
