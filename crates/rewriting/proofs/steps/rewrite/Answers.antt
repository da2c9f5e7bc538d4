-- The check refuses, or its facts are those of the split sheet's term; a step of the split sheet is a step of the query as given.
use native.Mathlib.Omega.{arith}
use Prim.Native.Nat.{ℕ, ◌≤◌}
use mathlib.Core.Path.{◌≡◌, sym, subst}
use Rattle.std.specs.Prelude.{Ok}
use Rattle.std.proofs.Common.{rules}
use Rattle.query.specs.Lines.{node_limit}
use Rattle.rewriting.proofs.Checks.{step_refused, step_placed, step_handed}
use Rattle.rewriting.proofs.steps.rewrite.Goals as goal

pub rewrite_checked-requires : goal.rewrite_checked-requires
rewrite_checked-requires c =
    let is : c.check.result ≡ Ok c.in_ok-checked.checked = search rules in (
      step_placed c.args.limit c.args.query c.args.database c.args.store.now c.check.ensures c.args.kind c.args.node is,
      subst (λ (l : ℕ). l ≤ node_limit) (sym c.min.ensures) (omega arith),
    )

pub returns-in_err-checked : goal.returns-in_err-checked
returns-in_err-checked c = step_refused c.args.limit c.args.query c.args.database c.args.store.now c.check.ensures c.args.kind c.args.node (search rules)

pub returns : goal.returns
returns c =
    let is : c.check.result ≡ Ok c.in_ok-checked.checked = search rules in
    step_handed c.args.limit c.args.query c.args.database c.args.store.now c.check.ensures c.args.kind c.args.node is c.min.result c.min.ensures
    c.rewrite_checked.result c.map_err-2.result c.rewrite_checked.ensures (λ p e. search rules) (λ u e. search rules)
