-- `allowance`: the refusal of the tests before 17, or the plan of the term that passes them, and its product.
use native.Mathlib.Omega.{arith}
use mathlib.Core.Path.{ap, sym, ◌∙◌}
use Prim.Native.Nat.{min}
use Rattle.std.specs.Prelude.{Err}
use Rattle.std.proofs.lemmas.Result.{err_from_is_err_and}
use Rattle.database.specs.declared.Refusal.{Refusal}
use Rattle.query.specs.Lines.{node_limit}
use Rattle.allowance.specs.Allowances.{allowance_value}
use Rattle.allowance.proofs.Answered.{unanswered, told, facts_are, small, allowed}
use Rattle.allowance.proofs.Tested.{refusal_tested}
use Rattle.allowance.proofs.within.allowance.Goals as goal

pub returns-in_err-checked : goal.returns-in_err-checked
returns-in_err-checked c =
    let a = c.args in
    let (_, e, g) = err_from_is_err_and _ c.from_residual.ensures.1 in
    let tests = refusal_tested (min a.limit node_limit) a.query a.database a.store.now a.rows c.runnable.ensures c.in_err-checked.was in
    let p = told (min a.limit node_limit) a.query a.database a.store.now a.rows
    (e ∙ ap (λ (r : Refusal). Err r) g ∙ ap allowance_value (sym (unanswered (min a.limit node_limit) a.query a.database a.store.now a.rows tests))) in
    record { value = p.0; enough = p.1 }

pub returns : goal.returns
returns c =
    let a = c.args in
    let p = told (min a.limit node_limit) a.query a.database a.store.now a.rows
    (allowed a.limit a.query a.database a.store.now a.rows c.runnable.ensures c.in_ok-checked.was c.plan_of-plan.result c.plan_of-plan.ensures) in
    record { value = p.0; enough = p.1 }

pub plan_of-plan-requires : goal.plan_of-plan-requires
plan_of-plan-requires c =
    let a = c.args in facts_are a.limit a.query a.database a.store.now a.rows c.runnable.ensures c.in_ok-checked.was

pub overflow_mul-budget : goal.overflow_mul-budget
overflow_mul-budget c =
    let a = c.args in
    omega (arith, small a.limit a.query a.database a.store.now a.rows c.runnable.ensures c.in_ok-checked.was c.plan_of-plan.result c.plan_of-plan.ensures)

pub overflow_cast-budget : goal.overflow_cast-budget
overflow_cast-budget c =
    let a = c.args in
    omega (arith, small a.limit a.query a.database a.store.now a.rows c.runnable.ensures c.in_ok-checked.was c.plan_of-plan.result c.plan_of-plan.ensures)
