-- Each condition names one column or two.
use Prim.Native.Nat.{ℕ}
use mathlib.Core.Path.{◌≡◌, ap, sym, ◌∙◌}
use mathlib.Core.Logic.{inl, inr}
use lib.Dec.{eqb}
use Rattle.laws.specs.Lists.{member}
use Rattle.algebra.specs.declared.Condition.{Condition}
use Rattle.algebra.specs.Columns.{with, both, named}
use Rattle.relation.specs.declared.Columns.{Columns}
use Rattle.relation.specs.Rows.{columns, cols_of, columns_of}
use Rattle.rewrite.proofs.GrownColumns.{grown_one, member_one}
use Rattle.rewrite.proofs.path.with_named.Goals as goal

-- the set with the columns of a condition
abbrev grown : Columns → Condition → Columns
grown s f = columns_of columns (both (cols_of columns s) (λ e. member e (named f)))

-- a condition that names one column
one_named : (s : Columns) (n : ℕ) {r : Columns} {f : Condition} (k : Condition) → f ≡ k → ((e : ℕ) → member e (named k) ≡ eqb e n)
    → r ≡ columns_of columns (with (cols_of columns s) n) → r ≡ grown s f
one_named s n k e f h = h ∙ grown_one columns (cols_of columns s) n _ f ∙ ap (grown s) (sym e)

pub returns-in-Eq : goal.returns-in-Eq
returns-in-Eq c = elim c.in-Eq.is [
  | inl (_, e) ↦ one_named c.args.cols c.in-Eq.c _ e (λ i. member_one i c.in-Eq.c) c.with_column.ensures
  | inr (inl (_, e)) ↦ one_named c.args.cols c.in-Eq.c _ e (λ i. member_one i c.in-Eq.c) c.with_column.ensures
  | inr (inr (_, e)) ↦ one_named c.args.cols c.in-Eq.c _ e (λ i. member_one i c.in-Eq.c) c.with_column.ensures
]
