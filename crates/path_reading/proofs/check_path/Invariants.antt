use Prim.Native.Nat.{◌≤◌}
use lib.ListN.{drop}
use Rattle.paths.specs.Reader.{path_limit, read_path}
use Rattle.path_reading.proofs.Modes.{Kept}
use Rattle.path_reading.proofs.check_path.Given as goal

abbrev pub invariant-loop-i : goal.invariant-loop-i
invariant-loop-i l = (l.i ≤ path_limit) × (l.depth ≤ l.i) × Kept path_limit (read_path path_limit l.text) l.mode l.depth l.i (drop l.i l.text)
