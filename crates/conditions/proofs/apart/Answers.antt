-- The columns below c have passed.
use native.Mathlib.Omega.{arith}
use mathlib.Core.Path.{◌≡◌, sym, ◌∙◌}
use Rattle.relation.specs.Rows.{columns}
use Rattle.laws.proofs.Indexed.{all_none, all_more, all_fails}
use Rattle.conditions.proofs.apart.Invariants.{test}
use Rattle.conditions.proofs.apart.Goals as goal

pub returns-then-not-apart_at : goal.returns-then-not-apart_at
returns-then-not-apart_at c =
    sym (all_fails (test c.args.shared c.args.fix c.args.other c.args.marked) columns c.loop-c.c c.loop-c-test.true (sym c.apart_at.ensures ∙ c.if-not-apart_at.true))

pub loop-c-preserved : goal.loop-c-preserved
loop-c-preserved c =
    all_more (test c.args.shared c.args.fix c.args.other c.args.marked) c.loop-c.c c.loop-c.invariant (sym c.apart_at.ensures ∙ c.if-not-apart_at.false)

pub returns : goal.returns
returns c =
    let e : c.loop-c.c ≡ columns = omega arith in
    sym (rw e at c.loop-c.invariant)

pub loop-c-init : goal.loop-c-init
loop-c-init c = all_none _
