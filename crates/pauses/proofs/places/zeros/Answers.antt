-- `zeros`: the first i entries are zero.
use borrow.Author.Tests.{eq-eqb, ne_eqb}
use native.Mathlib.Omega.{arith}
use Prim.Native.Nat.{ℕ, ◌+◌}
use mathlib.Core.Path.{sym}
use mathlib.Core.Bool.{Bool}
use mathlib.Core.List.{List}
use lib.Dec.{eqb}
use lib.ListN.{get_or}
use Rattle.laws.proofs.Indexed.{all_none, all_more, all_fails}
use Rattle.pauses.proofs.places.zeros.Goals as goal

abbrev zero : List ℕ → ℕ → ℕ → Bool
zero ws start i = eqb (get_or ws (start + i) 0) 0

pub returns-then-ws-start-ne0 : goal.returns-then-ws-start-ne0
returns-then-ws-start-ne0 c =
    sym (
    all_fails (zero c.args.ws.now c.args.start) c.args.n c.loop-i.i c.loop-i-test.true
    (ne_eqb (get_or c.args.ws.now (c.args.start + c.loop-i.i) 0) 0 c.if-ws-start-ne0.true)
    )

pub loop-i-preserved : goal.loop-i-preserved
loop-i-preserved c =
    (omega arith, all_more (zero c.args.ws.now c.args.start) c.loop-i.i c.loop-i.invariant.1 (eq-eqb (get_or c.args.ws.now (c.args.start + c.loop-i.i) 0) 0 c.if-ws-start-ne0.false))

pub loop-i-init : goal.loop-i-init
loop-i-init c = (omega arith, all_none _)
