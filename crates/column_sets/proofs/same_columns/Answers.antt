-- The columns below c are in both sets or in neither.
use borrow.Author.Rules.{rules}
use native.Mathlib.Omega.{arith}
use mathlib.Core.Path.{◌≡◌, sym, ◌∙◌}
use Rattle.laws.proofs.Indexed.{all_none, all_more, all_fails}
use Rattle.relation.specs.Rows.{columns}
use Rattle.column_sets.proofs.same_columns.Invariants.{test}
use Rattle.column_sets.proofs.same_columns.Goals as goal

pub returns-then-not-same_at : goal.returns-then-not-same_at
returns-then-not-same_at c =
    sym (all_fails (test c.args.a c.args.b) columns c.loop-c.c c.loop-c-test.true (sym c.same_at.ensures ∙ c.if-not-same_at.true))

pub loop-c-preserved : goal.loop-c-preserved
loop-c-preserved c =
    (omega arith, all_more (test c.args.a c.args.b) c.loop-c.c c.loop-c.invariant.1 (sym c.same_at.ensures ∙ c.if-not-same_at.false))

pub returns : goal.returns
returns c =
    let e : c.loop-c.c ≡ columns = omega arith in
    sym (rw e at c.loop-c.invariant.1)

pub loop-c-init : goal.loop-c-init
loop-c-init c = (search rules, all_none _)
