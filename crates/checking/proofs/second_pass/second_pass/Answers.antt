-- `second_pass::second_pass`: no node passed so far has a fault, so that the next one with a fault has the first.
use borrow.Author.Rules.{rules}
use native.Mathlib.Omega.{arith}
use mathlib.Core.Path.{◌≡◌, sym, ◌∙◌}
use Rattle.std.specs.Prelude.{Err}
use Rattle.database.specs.Refusals.{no_refusal}
use Rattle.query.specs.Passes.{visits_of, second_at}
use Rattle.query.proofs.ShapedNodes.{visits_count}
use Rattle.query.proofs.PassLoops.{found_none, found_more, found_first, found_all, second_verdict_lem}
use Rattle.checking.proofs.second_pass.second_pass.Invariants.{G}
use Rattle.checking.proofs.second_pass.second_pass.Goals as goal

pub loop-i-init : goal.loop-i-init
loop-i-init c = (search rules, found_none (second_at (G c.args.database)) (visits_of (G c.args.database) c.args.query))

pub second_fault-requires : goal.second_fault-requires
second_fault-requires c = (c.requires.0, c.requires.1, c.requires.2, omega arith)

pub returns-in_err-second_fault : goal.returns-in_err-second_fault
returns-in_err-second_fault c =
    let H = G c.args.database in
    let told : c.from_residual.result ≡ Err c.in_err-second_fault.field-0.0 = search rules in
    told
    ∙ found_first (second_at H) _ c.loop-i.i (omega (arith, visits_count c.args.query c.args.start c.requires.0 H)) c.loop-i.invariant.1
    (sym c.in_err-second_fault.was ∙ c.second_fault.ensures)
    ∙ second_verdict_lem c.args.query c.args.start c.requires.0 H

pub loop-i-preserved : goal.loop-i-preserved
loop-i-preserved c =
    let H = G c.args.database in (
      omega arith,
      found_more (second_at H) _ c.loop-i.i (omega (arith, visits_count c.args.query c.args.start c.requires.0 H)) no_refusal no_refusal c.loop-i.invariant.1
          (sym c.in_ok-second_fault.was ∙ c.second_fault.ensures),
    )

pub returns : goal.returns
returns c =
    let H = G c.args.database in
    c.loop-i.invariant.1
    ∙ found_all (second_at H) _ c.loop-i.i (omega (arith, visits_count c.args.query c.args.start c.requires.0 H))
    ∙ second_verdict_lem c.args.query c.args.start c.requires.0 H
