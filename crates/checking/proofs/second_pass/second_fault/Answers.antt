-- `second_pass::second_fault` finds at a node what the second pass does.
use native.Mathlib.Omega.{arith}
use Prim.Native.Nat.{◌+◌, ◌<◌}
use mathlib.Core.Path.{◌≡◌, ap, sym, ◌∙◌}
use mathlib.Core.Bool.{Bool}
use mathlib.Core.Logic.{inl, inr}
use mathlib.Core.List.{[]}
use lib.ListN.{get_or, take}
use Rattle.algebra.specs.Columns.{Schema}
use Rattle.relation.specs.declared.Columns.{Columns}
use Rattle.relation.specs.Rows.{columns}
use Rattle.database.specs.declared.Refusal.TheVariants.{ColumnFault}
use Rattle.database.specs.Refusals.{Verdict}
use Rattle.database.specs.Stored.{schema}
use Rattle.database.specs.Refusals.{Reply, verdict, no_fault}
use Rattle.query.specs.declared.Node.{Node}
use Rattle.query.specs.Lines.{node_limit}
use Rattle.query.specs.Check.{unless}
use Rattle.query.specs.Passes.{visits_of, visit_at, second_at}
use Rattle.query.proofs.ShapedNodes.{operand_low}
use Rattle.checking.proofs.FaultNodes.{fault_of, fault_at_lem}
use Rattle.checking.proofs.second_pass.second_fault.Lts as lts
use Rattle.checking.proofs.second_pass.second_fault.Reads as reads
use Rattle.checking.proofs.second_pass.second_fault.Tie as tie
use Rattle.checking.proofs.second_pass.second_fault.Goals as goal

abbrev After-left-1 : Type 0
After-left-1 = lts.After-left tie.the-claims reads.Pre reads.Post

abbrev After-preceding-first : Type 0
After-preceding-first = lts.After-preceding2 tie.the-claims reads.Pre reads.Post

abbrev Start : Type 0
Start = lts.Start tie.the-claims reads.Pre reads.Post

lower : (c : After-preceding-first) → c.preceding-first.result < node_limit
lower c =
    operand_low c.args.query c.args.start c.requires.0 c.args.i _ _ c.requires.3 c.preceding-last.ensures c.preceding-first.ensures

-- what the code has found, by the line
module _ (c : After-left-1) where
  abbrev s : Start
  s = c.before.before.before.before.before

  abbrev G : Schema
  G = schema columns s.args.database

  abbrev nil : Columns
  nil = record { has = [] }

  abbrev answer : Node → Reply (Unit {0})
  answer n =
      fault_of n s.args.database.tables (get_or s.args.held c.preceding-last.result nil)
      (get_or s.args.held c.preceding-first.result nil) (s.args.i + 1)

  told : (n : Node) → c.node_at-node.result ≡ n
      → verdict (answer n) ≡ verdict (no_fault (second_at G (take s.args.i (visits_of G s.args.query)) (visit_at G s.args.query s.args.i)))
  told n e =
      ap (λ (m : Node). verdict (answer m)) (sym e)
      ∙ ap verdict (fault_at_lem s.args.query s.args.start s.requires.0 s.args.database s.requires.1 s.args.i s.requires.3 s.args.held s.requires.2 _
      c.node_at-node.ensures _ _ c.preceding-last.ensures c.preceding-first.ensures)

  -- 9 where a test fails
  abbrev failed : Bool → Verdict
  failed b = verdict (no_fault (unless b (ColumnFault (s.args.i + 1))))

pub returns-in-Table : goal.returns-in-Table
returns-in-Table c = c.accept_if.ensures ∙ told c.before.before _ c.in-Table.is

pub returns-in-Pair : goal.returns-in-Pair
returns-in-Pair c =
    c.accept_if-in-Pair.ensures ∙ ap (failed c.before.before.before) c.sides_agree.ensures ∙ told c.before.before.before _ c.in-Pair.is

pub returns-in-Filter : goal.returns-in-Filter
returns-in-Filter c =
    c.accept_if-in-Filter.ensures ∙ ap (failed c.before.before.before) c.names_held.ensures ∙ told c.before.before.before _ c.in-Filter.is

pub returns-in-Copy : goal.returns-in-Copy
returns-in-Copy c =
    c.accept_if-in-Copy.ensures ∙ ap (failed c.before.before.before) c.can_copy.ensures ∙ told c.before.before.before _ c.in-Copy.is

pub returns-in-Drop : goal.returns-in-Drop
returns-in-Drop c =
    c.accept_if-in-Drop.ensures ∙ ap (failed c.before.before.before) c.has_column.ensures ∙ told c.before.before.before _ c.in-Drop.is

pub returns-in-Fix : goal.returns-in-Fix
returns-in-Fix c =
    c.accept_if-in-Fix.ensures ∙ ap (failed c.before.before.before) c.same_columns.ensures ∙ told c.before.before.before _ c.in-Fix.is

pub returns-in-Var : goal.returns-in-Var
returns-in-Var c = elim c.in-Var.is [
  | inl (_, e) ↦ told c.before _ e
  | inr (inl (_, _, e)) ↦ told c.before _ e
  | inr (inr (_, e)) ↦ told c.before _ e
]

pub returns-in-Last : goal.returns-in-Last
returns-in-Last c =
    c.accept_if-in-Last.ensures ∙ ap (failed c.before.before.before) c.has_column-in-Last.ensures ∙ told c.before.before.before _ c.in-Last.is

pub offset_bounds-held-first : goal.offset_bounds-held-first
offset_bounds-held-first c = omega (arith, lower c.before)

pub bounds-held-first : goal.bounds-held-first
bounds-held-first c = omega (arith, lower c.before)
