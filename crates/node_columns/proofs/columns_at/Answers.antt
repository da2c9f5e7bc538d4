-- `node_columns::columns_at` is the definition, line by line.
use native.Mathlib.Omega.{arith}
use Prim.Native.Nat.{◌<◌}
use mathlib.Core.Path.{◌≡◌, ap, sym, ◌∙◌}
use mathlib.Core.Logic.{inl, inr}
use mathlib.Core.List.{[]}
use lib.ListN.{get_or}
use Rattle.algebra.specs.Columns.{Schema}
use Rattle.relation.specs.declared.Columns.{Columns}
use Rattle.relation.specs.Rows.{columns, columns_of}
use Rattle.database.specs.Stored.{schema}
use Rattle.query.specs.declared.Node.{Node}
use Rattle.query.specs.Lines.{node_limit}
use Rattle.query.specs.Passes.{visit_at}
use Rattle.node_columns.specs.NodeColumns.{node_columns}
use Rattle.query.proofs.ShapedNodes.{operand_low}
use Rattle.node_columns.proofs.ColumnNodes.{cols_from, cols_at_lem}
use Rattle.node_columns.proofs.columns_at.Lts as lts
use Rattle.node_columns.proofs.columns_at.Reads as reads
use Rattle.node_columns.proofs.columns_at.Tie as tie
use Rattle.node_columns.proofs.columns_at.Goals as goal

abbrev After-left-1 : Type 0
After-left-1 = lts.After-left tie.the-claims reads.Pre reads.Post

abbrev After-preceding-first : Type 0
After-preceding-first = lts.After-preceding2 tie.the-claims reads.Pre reads.Post

abbrev Start : Type 0
Start = lts.Start tie.the-claims reads.Pre reads.Post

lower : (c : After-preceding-first) → c.preceding-first.result < node_limit
lower c =
    operand_low c.args.query c.args.start c.requires.0 c.args.i _ _ c.requires.1 c.preceding-last.ensures c.preceding-first.ensures

-- what the code has found, by the line
module _ (c : After-left-1) where
  abbrev s : Start
  s = c.before.before.before.before.before

  abbrev G : Schema
  G = schema columns s.args.database

  abbrev nil : Columns
  nil = record { has = [] }

  abbrev answer : Node → Columns
  answer n =
      cols_from n (λ t. columns_of columns (G.columns t)) (columns_of columns (visit_at G s.args.query s.args.i).variable)
      (get_or s.args.held c.preceding-last.result nil) (get_or s.args.held c.preceding-first.result nil)

  told : (n : Node) → c.node_at-node.result ≡ n → answer n ≡ node_columns G (visit_at G s.args.query s.args.i)
  told n e =
      ap answer (sym e)
      ∙ cols_at_lem s.args.query s.args.start s.requires.0 G s.args.i s.requires.1 s.args.held s.requires.2 _
      c.node_at-node.ensures _ _ c.preceding-last.ensures c.preceding-first.ensures

pub returns-in-Table : goal.returns-in-Table
returns-in-Table c = c.table_columns.ensures ∙ told c.before.before _ c.in-Table.is

pub returns-in-Fact : goal.returns-in-Fact
returns-in-Fact c = c.one_column.ensures ∙ told c.before.before _ c.in-Fact.is

pub returns-in-Pair : goal.returns-in-Pair
returns-in-Pair c = c.pair_columns.ensures ∙ told c.before.before _ c.in-Pair.is

pub returns-in-Copy : goal.returns-in-Copy
returns-in-Copy c = c.with_column.ensures ∙ told c.before.before _ c.in-Copy.is

pub returns-in-Drop : goal.returns-in-Drop
returns-in-Drop c = c.without_column.ensures ∙ told c.before.before _ c.in-Drop.is

pub returns-in-Filter : goal.returns-in-Filter
returns-in-Filter c = elim c.in-Filter.is [
  | inl (_, e) ↦ told c.before _ e
  | inr (inl (_, e)) ↦ told c.before _ e
  | inr (inr (_, e)) ↦ told c.before _ e
]

pub returns-in-Fix : goal.returns-in-Fix
returns-in-Fix c = told c.before _ c.in-Fix.is

pub returns-in-Var : goal.returns-in-Var
returns-in-Var c =
    c.variable_columns.ensures (G c.before.before) (s c.before.before).requires.2 ∙ told c.before.before _ c.in-Var.is

pub offset_bounds-held-first : goal.offset_bounds-held-first
offset_bounds-held-first c = omega (arith, lower c.before)

pub bounds-held-first : goal.bounds-held-first
bounds-held-first c = omega (arith, lower c.before)
