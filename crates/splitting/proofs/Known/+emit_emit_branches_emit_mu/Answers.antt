-- The emitters call each other. The measure is the number of nodes of the term that ends at the index, times four; the branches' emitter comes before a
-- node's at the same node, and a node's before a mu's.
use native.Mathlib.Omega.{arith}
use Rattle.splitting.proofs.Nodes.{two_takes_two}
use Rattle.splitting.proofs.EmitSteps.{
  leaf_line,
  leaf_emitted,
  one_node,
  one_room,
  one_line,
  one_emitted,
  two_node,
  two_left,
  two_right,
  two_line,
  two_emitted,
  mu_node,
  mu_seed,
  mu_step,
  mu_line,
  mu_emitted,
}
use Rattle.splitting.proofs.EmitGroups.{
  union_node,
  union_left,
  union_right,
  union_grouped,
  other_grouped,
  branch_room,
  first_grouped,
  branch_line,
  more_grouped,
}
use Rattle.splitting.proofs.Known.+emit_emit_branches_emit_mu.Goals as goal

pub emit-emit_line-requires : goal.emit-emit_line-requires
emit-emit_line-requires t c = leaf_line c.requires c.in-Leaf.is

pub emit-returns-in-Leaf : goal.emit-returns-in-Leaf
emit-returns-in-Leaf t c = leaf_emitted c.in-Leaf.is c.emit_line.ensures

pub emit-overflow_sub-i : goal.emit-overflow_sub-i
emit-overflow_sub-i t c = (one_node c.requires.node c.in-One.is).below.first

pub emit-emit-end-requires : goal.emit-emit-end-requires
emit-emit-end-requires t c = (omega (arith, (one_node c.requires.node c.in-One.is).below.falls), one_room c.requires c.in-One.is)

pub emit-emit_line-requires-in-One : goal.emit-emit_line-requires-in-One
emit-emit_line-requires-in-One t c = one_line c.requires c.in-One.is c.emit-end.ensures

pub emit-returns-in-One : goal.emit-returns-in-One
emit-returns-in-One t c = one_emitted c.in-One.is c.emit-end.ensures c.emit_line-in-One.ensures

pub emit-overflow_sub-right : goal.emit-overflow_sub-right
emit-overflow_sub-right t c = (two_node c.requires.node (two_takes_two c.in-Two.is)).below.first

pub emit-overflow_sub-left : goal.emit-overflow_sub-left
emit-overflow_sub-left t c = (two_node c.requires.node (two_takes_two c.in-Two.is)).below.second

pub emit-emit-middle-requires : goal.emit-emit-middle-requires
emit-emit-middle-requires t c = let w = two_takes_two c.in-Two.is in (omega (arith, (two_node c.requires.node w).below.left_falls), two_left c.requires w)

pub emit-emit-end-requires-in-Two : goal.emit-emit-end-requires-in-Two
emit-emit-end-requires-in-Two t c = let w = two_takes_two c.in-Two.is in (omega (arith, (two_node c.requires.node w).below.right_falls), two_right c.requires w c.emit-middle.ensures)

pub emit-emit_line-requires-in-Two : goal.emit-emit_line-requires-in-Two
emit-emit_line-requires-in-Two t c = two_line c.requires (two_takes_two c.in-Two.is) c.emit-middle.ensures c.emit-end-in-Two.ensures

pub emit-returns-in-Two : goal.emit-returns-in-Two
emit-returns-in-Two t c = two_emitted (two_takes_two c.in-Two.is) c.emit-middle.ensures c.emit-end-in-Two.ensures c.emit_line-in-Two.ensures

pub emit_branches-overflow_sub-right : goal.emit_branches-overflow_sub-right
emit_branches-overflow_sub-right t c = (union_node c.requires c.in-Union.is).below.first

pub emit_branches-overflow_sub-left : goal.emit_branches-overflow_sub-left
emit_branches-overflow_sub-left t c = (union_node c.requires c.in-Union.is).below.second

pub emit_branches-emit_branches-middle-requires : goal.emit_branches-emit_branches-middle-requires
emit_branches-emit_branches-middle-requires t c = (omega (arith, (union_node c.requires c.in-Union.is).below.left_falls), union_left c.requires c.in-Union.is)

pub emit_branches-emit_branches-requires : goal.emit_branches-emit_branches-requires
emit_branches-emit_branches-requires t c = (omega (arith, (union_node c.requires c.in-Union.is).below.right_falls), union_right c.requires c.in-Union.is c.emit_branches-middle.ensures)

pub emit_branches-returns-in-Union : goal.emit_branches-returns-in-Union
emit_branches-returns-in-Union t c = union_grouped c.in-Union.is c.emit_branches-middle.ensures c.emit_branches.ensures

pub emit_branches-returns-then-self-i : goal.emit_branches-returns-then-self-i
emit_branches-returns-then-self-i t c = other_grouped c.in_default.not-Union c.if-self-i.true

pub emit_branches-emit-end-requires : goal.emit_branches-emit-end-requires
emit_branches-emit-end-requires t c = (omega arith, branch_room c.requires c.in_default.not-Union c.if-self-i.false)

pub emit_branches-returns-then-at-from : goal.emit_branches-returns-then-at-from
emit_branches-returns-then-at-from t c = first_grouped c.in_default.not-Union c.if-self-i.false c.emit-end.ensures c.if-at-from.true

pub emit_branches-emit_line-requires : goal.emit_branches-emit_line-requires
emit_branches-emit_line-requires t c = branch_line c.requires c.in_default.not-Union c.if-self-i.false c.emit-end.ensures c.if-at-from.false

pub emit_branches-returns-else-at-from : goal.emit_branches-returns-else-at-from
emit_branches-returns-else-at-from t c = more_grouped c.in_default.not-Union c.if-self-i.false c.emit-end.ensures c.if-at-from.false c.emit_line.ensures

pub emit_mu-overflow_sub-body : goal.emit_mu-overflow_sub-body
emit_mu-overflow_sub-body t c = let (e, x) = c.requires in (mu_node x.node e).below.first

pub emit_mu-emit_branches-seed-requires : goal.emit_mu-emit_branches-seed-requires
emit_mu-emit_branches-seed-requires t c = let (e, x) = c.requires in (omega (arith, (mu_node x.node e).below.falls), mu_seed x e)

pub emit_mu-emit_branches-step-requires : goal.emit_mu-emit_branches-step-requires
emit_mu-emit_branches-step-requires t c = let (e, x) = c.requires in (omega (arith, (mu_node x.node e).below.falls), mu_step x e c.emit_branches-seed.ensures)

pub emit_mu-emit_line-requires : goal.emit_mu-emit_line-requires
emit_mu-emit_line-requires t c = let (e, x) = c.requires in mu_line x e c.emit_branches-seed.ensures c.emit_branches-step.ensures

pub emit_mu-returns : goal.emit_mu-returns
emit_mu-returns t c = mu_emitted c.requires.0 c.emit_branches-seed.ensures c.emit_branches-step.ensures c.emit_line.ensures
