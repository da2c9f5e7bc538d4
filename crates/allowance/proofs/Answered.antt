-- What a caller is answered, from what the tests before 17 reply; and that the answer is enough.
use mathlib.Core.Path.{◌≡◌, refl, ap, sym, ◌∙◌, subst}
use mathlib.Core.Logic.{◌≢◌}
use mathlib.Core.List.{List}
use native.Mathlib.Omega.{arith}
use Prim.Native.Nat.{ℕ, min, ◌*◌, ◌≤◌}
use native.Mathlib.Nat.{le_trans, min-le_right, mul-le-mul}
use Rattle.algebra.specs.Term.{Term}
use Rattle.relation.specs.Rows.{columns}
use Rattle.database.specs.declared.Database.{Database}
use Rattle.database.specs.declared.Refusal.{Refusal}
use Rattle.database.specs.declared.Refusal.TheVariants.{BudgetSpent}
use Rattle.std.specs.Prelude.{Result, Ok}
use Rattle.database.specs.Stored.{rows_limit, schema}
use Rattle.database.specs.Refusals.{Reply, refused, accepted}
use Rattle.query.specs.declared.Query.{Query}
use Rattle.query.specs.declared.Checked.{Checked}
use Rattle.query.specs.Facts.{checked_value}
use Rattle.query.specs.Lines.{node_limit}
use Rattle.plan.specs.Plan.{plan_lines, plan_value}
use Rattle.machine.specs.Run.{product, Enough, runnable, allowance, run_query}
use Rattle.machine.proofs.LinesWithin.{allowance_enough, product_fits}
use Rattle.machine.proofs.Passed.{passed}
use Rattle.plan.specs.declared.Slot.{Slot}
use Rattle.plan.specs.declared.Plan.{Plan}
use Rattle.compiling.specs.Compiled.{CheckedFacts}
use Rattle.compiling.proofs.CompileReply.{checked_facts}
use Rattle.allowance.proofs.Tested.{Tested, sheet_tested}
use Rattle.allowance.specs.declared.Allowed.{Allowed}
use Rattle.allowance.specs.Allowances.{allowance_value}

module _ (limit : ℕ) (q : Query) (d : Database) (store : List ℕ) (L : ℕ) where
  abbrev answer : Reply Enough
  answer = allowance columns limit q d store L

  pub unanswered : {r : Refusal} → runnable columns limit q d store L ≡ refused r → answer ≡ refused r
  unfolding allowance
  unanswered e = rw e

  pub answered : {t : Term} → runnable columns limit q d store L ≡ accepted t
      → answer ≡ accepted (record { plan = plan_lines (schema columns d) t; budget = product (plan_lines (schema columns d) t) L })
  unfolding allowance
  answered e = rw e

  -- both clauses of the contract
  pub told : {r : Result Allowed Refusal} → r ≡ allowance_value answer
      → (r ≡ allowance_value answer)
      × ((given : Allowed) → r ≡ Ok given → (budget : ℕ) → given.budget ≤ budget → (workspace lent : List ℕ)
      → run_query columns limit q d store L budget workspace lent ≢ refused BudgetSpent)
  told {r} e = (e, λ given ok. by_reply answer refl given (sym e ∙ ok))
    where
      by_reply : (x : Reply Enough) → answer ≡ x → (given : Allowed) → allowance_value x ≡ Ok given
          → (budget : ℕ) → given.budget ≤ budget → (workspace lent : List ℕ) → run_query columns limit q d store L budget workspace lent ≢ refused BudgetSpent
      by_reply (refused c) is given ok = let z : ◌≡◌ {A = ℕ} 0 1 = cc in absurd (omega arith)
      by_reply (accepted x) is given ok = λ budget more.
          let e : ◌≡◌ {A = Allowed} (record { plan = plan_value columns node_limit x.plan; budget = x.budget }) given = cc in
          allowance_enough columns limit q d store L is budget (omega (arith, ap (λ (y : Allowed). y.budget) e, more))

-- of a query that passes, from what the tests hand on
module _ (limit : ℕ) (q : Query) (d : Database) (store : List ℕ) (L : ℕ) {x : Result Checked Refusal} {y : Checked}
    (is : x ≡ checked_value (schema columns d) q (runnable columns (min limit node_limit) q d store L)) (ok : x ≡ Ok y) where
  abbrev within : ℕ
  within = min limit node_limit

  tested : Tested within q d store L y
  tested = sheet_tested within q d store L is ok

  pub facts_are : CheckedFacts y.query y.facts
  facts_are = checked_facts limit q d store y tested.handed

  -- the plan that is made of the facts
  module _ (p : Plan) (made : (f : CheckedFacts y.query y.facts) → p ≡ plan_value columns node_limit (plan_lines (schema columns f.database) f.term)) where
    abbrev slots : List Slot
    slots = plan_lines (schema columns d) tested.handed.term

    planned : p ≡ plan_value columns node_limit slots
    unfolding facts_are checked_facts
    planned = made facts_are

    -- its product fits
    pub small : p.count * L ≤ node_limit * rows_limit
    small =
        let most : within * L ≤ node_limit * rows_limit = mul-le-mul (min-le_right limit node_limit) (passed columns within q d store L tested.tested).few in
        subst (λ (n : ℕ). n * L ≤ node_limit * rows_limit) (sym (ap (λ (y : Plan). y.count) planned))
        (le_trans (product_fits columns within q d store L tested.tested) most)

    pub allowed : ◌≡◌ {A = Result Allowed Refusal} (Ok (record { plan = p; budget = p.count * L })) (allowance_value (allowance columns within q d store L))
    allowed =
        ap (λ (y : Plan). Ok (record { plan = y; budget = y.count * L })) planned
        ∙ ap allowance_value (sym (answered within q d store L tested.tested))
