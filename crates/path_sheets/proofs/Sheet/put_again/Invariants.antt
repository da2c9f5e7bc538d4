use mathlib.Core.Path.{◌≡◌}
use Rattle.path_sheets.specs.Put.{put_all, again_lines}
use Rattle.path_sheets.proofs.Sheet.put_again.Given as goal

abbrev pub invariant-loop-i : goal.invariant-loop-i
invariant-loop-i l = put_all l.self (again_lines l.source l.i l.end l.by) ≡ put_all l.initial.self (again_lines l.source l.first l.end l.by)
