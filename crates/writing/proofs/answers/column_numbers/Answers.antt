-- `column_numbers` meets its contract: after c turns the first c places are filled.
use native.Mathlib.Omega.{arith}
use Prim.Native.Nat.{ℕ}
use mathlib.Core.Path.{◌≡◌, refl, ap, ◌∙◌}
use lib.ListN.{set}
use Rattle.laws.specs.Lists.{tabulate}
use Rattle.laws.proofs.Passes.{filled}
use Rattle.laws.proofs.FlatMaps.{filled_tabulate, filled_tabulate_more}
use Rattle.relation.specs.Rows.{columns as width}
use Rattle.writing.proofs.answers.column_numbers.Goals as goal

pub loop-c-init : goal.loop-c-init
unfolding tabulate
loop-c-init c = (omega arith, refl)

pub loop-c-preserved : goal.loop-c-preserved
loop-c-preserved c =
    let n : ℕ = c.loop-c.c in
    (omega arith, ap (λ l. set l n n) c.loop-c.invariant.1 ∙ filled_tabulate_more width 0 (λ k. k) n c.loop-c-test.true)

pub returns : goal.returns
returns c =
    let e : c.loop-c.c ≡ width = omega arith in
    c.loop-c.invariant.1 ∙ ap (λ n. filled width 0 (tabulate (λ k. k) n)) e ∙ filled_tabulate width 0 (λ k. k)
