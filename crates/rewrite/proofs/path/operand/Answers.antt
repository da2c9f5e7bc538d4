-- None of an operand on the path, else what the check tells.
use Prim.Native.Nat.{ℕ}
use mathlib.Core.Path.{◌≡◌, ap, sym, ◌∙◌}
use mathlib.Core.Bool.{Bool, false}
use Rattle.laws.specs.Lists.{when◌then◌else◌}
use Rattle.algebra.specs.Columns.{Cols, no_cols}
use Rattle.algebra.proofs.Narrow.{below_none}
use Rattle.relation.specs.Rows.{columns, cols_of}
use Rattle.relation.proofs.ColumnsRound.{columns_round}
use Rattle.query.specs.declared.Facts.{Facts}
use Rattle.rewrite.specs.Places.{columns_at}
use Rattle.rewrite.specs.Path.{on_path, operand_at}
use Rattle.rewrite.proofs.path.operand.Goals as goal

-- by what the test of the path says
by_test : (facts : Facts) (v i : ℕ) {b : Bool} → b ≡ on_path facts v i
    → (λ e. when b then false else cols_of columns (columns_at facts i) e) ≡ operand_at facts v i
by_test facts v i f = ap {B = Cols} (λ (b : Bool) (e : ℕ). when b then false else cols_of columns (columns_at facts i) e) f

pub returns-then-on_path : goal.returns-then-on_path
returns-then-on_path c =
    ap (cols_of columns) c.no_columns.ensures ∙ columns_round columns no_cols (below_none columns)
    ∙ by_test c.args.facts c.args.v c.args.i (sym c.if-on_path.true ∙ c.on_path.ensures)
