-- `apply_steps` meets its contract: the lines left, for the query held there, reply what the whole file does for the first query.
use native.Mathlib.Omega.{arith}
use mathlib.Core.Path.{◌≡◌, ap, sym, ◌∙◌}
use Rattle.std.specs.Prelude.{Some, None, Ok, Err}
use Rattle.std.proofs.Common.{rules}
use Rattle.database.specs.declared.Refusal.TheVariants.{NoMatch}
use Rattle.rewrite.specs.Rewrite.{told}
use Rattle.answering.proofs.StepLines.{due_first, due_none, due_bad, due_on, due_fails, due_more, rewrite_accepted}
use Rattle.answering.proofs.apply_steps.Goals as goal

pub loop-place-init : goal.loop-place-init
loop-place-init c = due_first _ _ _ _

pub returns-in_err-step : goal.returns-in_err-step
returns-in_err-step c =
    let none : c.due_step.result ≡ None = search rules in
    let e : c.from_residual.result ≡ Err NoMatch = search rules in
    e ∙ ap told (sym (due_bad _ _ _ _ _ _ c.loop-place.invariant c.loop-place-test.true (λ n. sym none ∙ c.due_step.ensures n)))

pub returns-in_err-held : goal.returns-in_err-held
returns-in_err-held c =
    let some : c.due_step.result ≡ Some (c.in_ok-step.step, c.in_ok-step.next) = search rules in
    due_fails _ _ _ _ _ _ c.loop-place.invariant c.loop-place-test.true c.in_ok-step.step c.in_ok-step.next (λ n. sym some ∙ c.due_step.ensures n) c.rewrite.ensures (search rules)

pub loop-place-smaller : goal.loop-place-smaller
loop-place-smaller c =
    let some : c.due_step.result ≡ Some (c.in_ok-step.step, c.in_ok-step.next) = search rules in
    let on = due_on _ _ _ _ _ _ c.loop-place.invariant c.loop-place-test.true c.in_ok-step.step c.in_ok-step.next (λ n. sym some ∙ c.due_step.ensures n) in
    omega arith

pub loop-place-preserved : goal.loop-place-preserved
loop-place-preserved c =
    let some : c.due_step.result ≡ Some (c.in_ok-step.step, c.in_ok-step.next) = search rules in
    let written : c.rewrite.result ≡ Ok c.in_ok-held.held = search rules in
    due_more _ _ _ _ _ _ c.loop-place.invariant c.loop-place-test.true c.in_ok-step.step c.in_ok-step.next (λ n. sym some ∙ c.due_step.ensures n) c.in_ok-held.held
    (rewrite_accepted c.loop-place.held _ (sym written ∙ c.rewrite.ensures))

pub returns : goal.returns
returns c = ap told (sym (due_none _ _ _ _ _ _ c.loop-place.invariant c.loop-place-test.false))
