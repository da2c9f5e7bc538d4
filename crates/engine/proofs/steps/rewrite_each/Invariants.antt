use Prim.Native.Nat.{◌*◌, min}
use mathlib.Core.Path.{◌≡◌}
use lib.ListN.{drop}
use Rattle.relation.specs.Rows.{columns}
use Rattle.query.specs.Lines.{node_limit}
use Rattle.rewrite.specs.Rewrite.{held}
use Rattle.engine.specs.Demands.{steps_over}
use Rattle.engine.proofs.steps.rewrite_each.Given as goal

abbrev pub invariant-loop-i : goal.invariant-loop-i
invariant-loop-i l =
    held columns l.initial.held (steps_over (min l.limit node_limit) l.database l.store l.steps)
    ≡ held columns l.held (steps_over (min l.limit node_limit) l.database l.store (drop (2 * l.i) l.steps))
