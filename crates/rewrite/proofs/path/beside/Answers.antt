-- The left operand's columns with the right one's.
use native.Mathlib.Omega.{arith}
use Prim.Native.Nat.{ℕ, ◌-◌}
use mathlib.Core.Path.{◌≡◌, ap, ap₂, ◌∙◌}
use Rattle.algebra.specs.Columns.{Cols, both}
use Rattle.relation.specs.Rows.{columns, columns_of}
use Rattle.query.specs.declared.Facts.{Facts}
use Rattle.rewrite.specs.Places.{start_at}
use Rattle.rewrite.specs.Path.{operand_at, beside_at}
use Rattle.rewrite.proofs.path.beside.Goals as goal

pub operand-requires : goal.operand-requires
operand-requires c =
    omega (arith, c.requires.1 c.preceding-right.result)

-- the operands by their places
placed : (facts : Facts) (v i left right : ℕ) → right ≡ i - 1 → left ≡ start_at facts right - 1
    → both (operand_at facts v left) (operand_at facts v right) ≡ beside_at facts v i
unfolding both
placed facts v i left right e f =
    ap₂ (λ (l r : ℕ). both (operand_at facts v l) (operand_at facts v r)) (f ∙ ap (λ (k : ℕ). start_at facts k - 1) e) e

pub returns : goal.returns
returns c =
    c.both.ensures
    ∙ ap₂ (λ (D E : Cols). columns_of columns (both D E)) c.operand.ensures c.operand-2.ensures
    ∙ ap (columns_of columns) (placed c.args.facts c.args.v c.args.i _ _ c.preceding-right.ensures c.preceding-left.ensures)
