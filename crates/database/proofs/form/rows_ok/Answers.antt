-- The rows below i are on the form.
use native.Mathlib.Omega.{arith}
use mathlib.Core.Path.{◌≡◌, sym, ◌∙◌}
use Rattle.laws.proofs.Indexed.{all_none, all_more, all_fails}
use Rattle.relation.specs.Rows.{columns, cols_of}
use Rattle.relation.proofs.CodeRows.{rows_tested}
use Rattle.database.proofs.form.rows_ok.Invariants.{test}
use Rattle.database.proofs.form.rows_ok.Goals as goal

pub returns-then-not-row_ok : goal.returns-then-not-row_ok
returns-then-not-row_ok c =
    sym (
    rows_tested columns c.args.store.now c.args.start (cols_of columns c.args.cols) c.args.n
    ∙ all_fails (test c.args.cols c.args.store.now c.args.start) c.args.n c.loop-i.i c.loop-i-test.true
    (sym c.row_ok.ensures ∙ c.if-not-row_ok.true)
    )

pub loop-i-preserved : goal.loop-i-preserved
loop-i-preserved c = (
  omega arith,
  all_more (test c.args.cols c.args.store.now c.args.start) c.loop-i.i c.loop-i.invariant.1
      (sym c.row_ok.ensures ∙ c.if-not-row_ok.false),
)

pub returns : goal.returns
returns c =
    let e : c.loop-i.i ≡ c.args.n = omega arith in
    sym (rows_tested columns c.args.store.now c.args.start (cols_of columns c.args.cols) c.args.n ∙ rw e at c.loop-i.invariant.1)

pub loop-i-init : goal.loop-i-init
loop-i-init c = (omega arith, all_none _)
