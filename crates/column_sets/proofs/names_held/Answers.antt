-- `names_held` tests the columns that the condition names.
use mathlib.Core.Path.{ap, sym, ◌∙◌}
use mathlib.Core.Bool.{Bool, ◌&&◌}
use mathlib.Core.Logic.{inl, inr}
use Rattle.laws.specs.Lists.{every}
use Rattle.laws.proofs.Indexed.{and_unit}
use Rattle.algebra.specs.declared.Condition.{Condition}
use Rattle.algebra.specs.Columns.{named}
use Rattle.relation.specs.declared.Columns.{Columns}
use Rattle.relation.specs.Rows.{columns, cols_of}
use Rattle.column_sets.proofs.names_held.Goals as goal

abbrev all_held : Columns → Condition → Bool
all_held cols f = every (cols_of columns cols) (named f)

pub returns-in-Eq : goal.returns-in-Eq
unfolding every
returns-in-Eq c =
    c.has_column.ensures ∙ sym (and_unit _) ∙ elim c.in-Eq.is [
      | inl p ↦ ap (all_held c.args.cols) (sym p.1)
      | inr (inl p) ↦ ap (all_held c.args.cols) (sym p.1)
      | inr (inr p) ↦ ap (all_held c.args.cols) (sym p.1)
    ]

pub returns-in-Same : goal.returns-in-Same
unfolding every
returns-in-Same c =
    c.has_both.ensures ∙ ap (λ (b : Bool). cols_of columns c.args.cols c.in-Same.c && b) (sym (and_unit _))
    ∙ ap (all_held c.args.cols) (sym c.in-Same.is)
