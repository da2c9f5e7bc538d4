-- No table begins past the store's end.
use Rattle.std.specs.Prelude.{◌≤◌, length}
use Rattle.readings.proofs.print_tables.Given as goal

abbrev pub invariant-loop-t : goal.invariant-loop-t
invariant-loop-t g l = l.from ≤ length l.store
