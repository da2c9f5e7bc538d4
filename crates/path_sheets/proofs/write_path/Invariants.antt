use mathlib.Core.Path.{◌≡◌}
use Prim.Native.Nat.{◌≤◌, min}
use lib.ListN.{drop}
use Rattle.database.specs.Refusals.{accepted}
use Rattle.query.specs.Lines.{node_limit}
use Rattle.paths.specs.Grammar.{PropertyPath}
use Rattle.paths.specs.Reader.{path_limit, read_path}
use Rattle.path_sheets.proofs.Along.{Along}
use Rattle.path_sheets.proofs.write_path.Given as goal

abbrev pub invariant-loop-i : goal.invariant-loop-i
invariant-loop-i l = (l.i ≤ path_limit) × ((p : PropertyPath) → read_path path_limit l.path ≡ accepted p → Along (min l.limit node_limit) p l.writing l.i (drop l.i l.path))
