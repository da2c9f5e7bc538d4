-- Each line puts in the columns that it names, a pair those of its closed operands.
use borrow.Author.Rules.{rules}
use Prim.Native.Nat.{ℕ}
use mathlib.Core.Path.{◌≡◌, refl, ap, sym, ◌∙◌}
use mathlib.Core.Bool.{false}
use mathlib.Core.Logic.{inl, inr}
use lib.Dec.{eqb}
use lib.ListN.{length}
use Rattle.algebra.specs.Columns.{with, both}
use Rattle.relation.specs.declared.Columns.{Columns}
use Rattle.relation.specs.Rows.{columns, cols_of, columns_of}
use Rattle.query.specs.declared.Node.{Node}
use Rattle.rewrite.specs.Path.{beside_at, line_uses}
use Rattle.rewrite.proofs.GrownColumns.{grown_none, grown_one, grown_by}
use Rattle.rewrite.proofs.path.with_used.Lts as lts
use Rattle.rewrite.proofs.path.with_used.Reads as reads
use Rattle.rewrite.proofs.path.with_used.Tie as tie
use Rattle.rewrite.proofs.path.with_used.Goals as goal

abbrev Start : Type 0
Start = lts.Start tie.the-claims reads.Pre reads.Post

size : (c : Start) → length c.args.used.has ≡ columns
size c = search rules

-- the set with what a line uses
abbrev grown : Start → Node → Columns
grown c n = columns_of columns (both (cols_of columns c.args.used) (line_uses (beside_at c.args.facts c.args.v c.args.i) n))

-- a line that uses nothing
unchanged : (c : Start) (n : Node) → c.args.node ≡ n → ((e : ℕ) → line_uses (beside_at c.args.facts c.args.v c.args.i) n e ≡ false)
    → c.args.used ≡ grown c c.args.node
unchanged c n e none = grown_none columns c.args.used (size c) _ none ∙ ap (grown c) (sym e)

pub returns-in-Pair : goal.returns-in-Pair
returns-in-Pair c =
    c.both.ensures
    ∙ ap (λ (x : Columns). columns_of columns (both (cols_of columns c.args.used) (cols_of columns x))) c.beside.ensures
    ∙ grown_by columns (cols_of columns c.args.used) _ ∙ ap (grown c.before.before.before) (sym c.in-Pair.is)

-- a line that names one column
one_named : (s : Start) (n : Node) (a : ℕ) {r : Columns} → s.args.node ≡ n
    → ((e : ℕ) → line_uses (beside_at s.args.facts s.args.v s.args.i) n e ≡ eqb e a) → r ≡ columns_of columns (with (cols_of columns s.args.used) a)
    → r ≡ grown s s.args.node
one_named s n a e f h = h ∙ grown_one columns (cols_of columns s.args.used) a _ f ∙ ap (grown s) (sym e)

pub returns-in-Drop : goal.returns-in-Drop
returns-in-Drop c = elim c.in-Drop.is [
  | inl e ↦ one_named c.before.before.before _ c.in-Drop.c e (λ i. refl) c.with_column.ensures
  | inr e ↦ one_named c.before.before.before _ c.in-Drop.c e (λ i. refl) c.with_column.ensures
]

pub returns-in-Table : goal.returns-in-Table
returns-in-Table c = elim c.in-Table.is [
  | inl (_, e) ↦ unchanged c.before _ e (λ i. refl)
  | inr (inl (_, e)) ↦ unchanged c.before _ e (λ i. refl)
  | inr (inr (inl (_, _, e))) ↦ unchanged c.before _ e (λ i. refl)
  | inr (inr (inr (inl (_, e)))) ↦ unchanged c.before _ e (λ i. refl)
  | inr (inr (inr (inr (_, e)))) ↦ unchanged c.before _ e (λ i. refl)
]
