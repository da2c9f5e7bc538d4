-- No column below c is in the set.
use borrow.Author.Rules.{rules}
use native.Mathlib.Omega.{arith}
use mathlib.Core.Path.{◌≡◌, ap, sym}
use mathlib.Core.Bool.{not}
use Rattle.laws.proofs.Indexed.{all_none, all_more, all_fails}
use Rattle.relation.specs.Rows.{columns}
use Rattle.relation.proofs.CodeRows.{held}
use Rattle.column_sets.proofs.any_column.Invariants.{test}
use Rattle.column_sets.proofs.any_column.Goals as goal

pub loop-c-init : goal.loop-c-init
loop-c-init c = (search rules, all_none _)

pub returns-then-cols-c : goal.returns-then-cols-c
returns-then-cols-c c =
    sym (ap not (all_fails (test c.args.cols) columns c.loop-c.c c.loop-c-test.true (ap not (held columns c.args.cols c.loop-c.c c.loop-c-test.true c.if-cols-c.true))))

pub loop-c-preserved : goal.loop-c-preserved
loop-c-preserved c =
    (omega arith, all_more (test c.args.cols) c.loop-c.c c.loop-c.invariant.1 (ap not (held columns c.args.cols c.loop-c.c c.loop-c-test.true c.if-cols-c.false)))

pub returns : goal.returns
returns c =
    let e : c.loop-c.c ≡ columns = omega arith in
    sym (ap not (rw e at c.loop-c.invariant.1))
