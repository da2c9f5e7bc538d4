-- `pause_ok`: the next line, the ceiling, the registers.
use borrow.Author.Tests.{lt-leb}
use native.Mathlib.Omega.{arith}
use Prim.Native.Nat.{◌-◌}
use mathlib.Core.Path.{◌∙◌}
use Rattle.relation.specs.Rows.{columns}
use Rattle.database.specs.Stored.{schema}
use Rattle.machine.specs.Pauses.{most_lines}
use Rattle.pauses.proofs.Decided.{decided, fails}
use Rattle.pauses.proofs.test.pause_ok.Goals as goal
use Rattle.pauses.proofs.test.pause_ok.Goals.{then-next-eq0-via-then-next-eq0, then-next-eq0-via-else-next-eq0+then-lines-next}

pub returns-then-next-eq0 : goal.returns-then-next-eq0
returns-then-next-eq0 c d t x =
    fails (schema columns d) c.args.limit c.args.budget t c.args.pause c.args.ws.now x.laid.room
    (λ h. elim c.then-next-eq0.branch [
      | then-next-eq0-via-then-next-eq0 w ↦ omega (arith, h.first, w.if-next-eq0.true)
      | then-next-eq0-via-else-next-eq0+then-lines-next w ↦ omega (arith, h.last, x.planned, w.if-lines-next.true)
    ])

pub returns-else-budget-pause : goal.returns-else-budget-pause
returns-else-budget-pause c d t x =
    lt-leb c.args.budget (most_lines - c.args.pause.ran) (omega (arith, c.if-budget-pause.false))
    ∙ fails (schema columns d) c.args.limit c.args.budget t c.args.pause c.args.ws.now x.laid.room (λ h. omega (arith, h.lines, c.if-budget-pause.false))

pub returns-then-budget-pause : goal.returns-then-budget-pause
returns-then-budget-pause c d t x =
    c.registers_ok.ensures d t x.laid
    ∙ decided (schema columns d) c.args.limit c.args.budget t c.args.pause c.args.ws.now x.laid.room x.small (omega (arith, c.if-next-eq0.false))
    (omega (arith, c.if-lines-next.false, x.planned)) (omega (arith, c.if-budget-pause.true))
