-- Before line i the lines from the first on have been gathered.
use native.Mathlib.Omega.{arith}
use Prim.Native.Nat.{◌-◌, ◌+◌}
use mathlib.Core.Path.{◌≡◌, ap, sym, ◌∙◌}
use Rattle.algebra.specs.Columns.{both}
use Rattle.relation.specs.declared.Columns.{Columns}
use Rattle.relation.specs.Rows.{columns, cols_of, columns_of}
use Rattle.rewrite.specs.Path.{uses_at, gathered}
use Rattle.rewrite.proofs.Gathered.{gathered_none, gathered_more}
use Rattle.rewrite.proofs.path.gather.Goals as goal

pub loop-i-init : goal.loop-i-init
loop-i-init c =
    let e : c.args.first - c.args.first ≡ 0 = omega arith in
    c.no_columns-used.ensures ∙ sym (ap (gathered c.args.sheet.query c.args.sheet.facts c.args.v c.args.first) e ∙ gathered_none c.args.sheet.query c.args.sheet.facts c.args.v c.args.first)

pub loop-i-preserved : goal.loop-i-preserved
loop-i-preserved c =
    let e : c.loop-i.i + 1 - c.args.first ≡ (c.loop-i.i - c.args.first) + 1 = omega arith in
    let f : c.args.first + (c.loop-i.i - c.args.first) ≡ c.loop-i.i = omega arith in
    c.with_line-used.ensures
    ∙ ap (λ (s : Columns). columns_of columns (both (cols_of columns s) (uses_at c.args.sheet.query c.args.sheet.facts c.args.v c.loop-i.i))) c.loop-i.invariant
    ∙ gathered_more c.args.sheet.query c.args.sheet.facts c.args.v c.args.first (c.loop-i.i - c.args.first) c.loop-i.i f
    ∙ ap (gathered c.args.sheet.query c.args.sheet.facts c.args.v c.args.first) (sym e)
