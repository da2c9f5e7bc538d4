-- `registers_ok`: the registers of the nodes before i have passed.
use native.Mathlib.Omega.{arith}
use Prim.Native.Nat.{ℕ, ◌≤◌, ◌<◌, ◌+◌, ◌*◌}
use mathlib.Core.Path.{◌≡◌, refl, ap, sym, ◌∙◌, subst}
use lib.ListN.{length}
use Rattle.algebra.specs.Term.{Term}
use Rattle.algebra.specs.Columns.{size}
use Rattle.algebra.proofs.Sizes.{size_positive}
use Rattle.relation.specs.Rows.{columns}
use Rattle.relation.specs.Registers.{stretch}
use Rattle.database.specs.declared.Database.{Database}
use Rattle.query.proofs.Lengths.{nodes_length}
use Rattle.query.proofs.Reading.{size_lines}
use Rattle.pauses.specs.Tested.{Laid}
use Rattle.pauses.proofs.NodeTests.{both_fine, SoFar, none_yet, one_fix, one_other, one_fails, all_passed, registers_are, node_tested, step_told, own_room, delta_room}
use Rattle.pauses.proofs.test.registers_ok.Lts as lts
use Rattle.pauses.proofs.test.registers_ok.Reads as reads
use Rattle.pauses.proofs.test.registers_ok.Tie as tie
use Rattle.pauses.proofs.test.registers_ok.Goals as goal
use Rattle.pauses.proofs.test.registers_ok.Goals.{then-has_step, else-has_step}

abbrev After-loop-i : Type 0
After-loop-i = lts.After-loop tie.the-claims reads.Pre reads.Post goal.the-invariant-loop-i goal.the-decreases-loop-i

abbrev After-node_ok : Type 0
After-node_ok = lts.After-node_ok tie.the-claims reads.Pre reads.Post goal.the-invariant-loop-i goal.the-decreases-loop-i

abbrev In-loop-i : Type 0
In-loop-i = lts.In-loop tie.the-claims reads.Pre reads.Post goal.the-invariant-loop-i goal.the-decreases-loop-i

abbrev Start : Type 0
Start = lts.Start tie.the-claims reads.Pre reads.Post goal.the-invariant-loop-i goal.the-decreases-loop-i

-- a term with these lines has as many nodes
counted : (c : Start) (d : Database) (t : Term)
    → Laid columns c.args.query c.args.facts c.args.limit c.args.ws.now d t → size t ≡ c.args.query.count
counted c d t laid = sym (size_lines t) ∙ ap length (sym laid.own) ∙ nodes_length c.args.query _ c.well_formed.0 laid.few

pub loop-i-init : goal.loop-i-init
loop-i-init c = (
  omega arith,
  refl,
  omega arith,
  λ d t laid. subst (λ (n : ℕ). SoFar laid 0 n) (counted c.before.before d t laid) (none_yet laid),
)

-- in the loop there is a node of index i
here : (c : In-loop-i) (d : Database) (t : Term) → Laid columns c.args.query c.args.facts c.args.limit c.args.ws.now d t → c.loop-i.i < size t
here c d t laid = omega (arith, c.loop-i-test.true, counted c.before.before.before d t laid)

pub node_ok-requires : goal.node_ok-requires
node_ok-requires c =
    let at = c.loop-i.invariant.3 c.requires.database c.requires.term c.requires.laid in
    let h = here c.before.before.before c.requires.database c.requires.term c.requires.laid in (
      own_room c.requires.laid c.loop-i.i h,
      λ step. rw at.next (delta_room c.requires.laid c.loop-i.i h (step_told c.requires.laid h c.node_at-node.result c.node_at-node.ensures ∙ step)),
    )

-- what the test of a node says
tested : (c : After-node_ok) (d : Database) (t : Term) → (laid : Laid columns c.args.query c.args.facts c.args.limit c.args.ws.now d t) → c.node_ok.result ≡ both_fine laid c.loop-i.i
tested c d t laid =
    c.node_ok.ensures ∙ node_tested laid (here c.before.before.before d t laid) (c.loop-i.invariant.3 d t laid) c.node_at-node.result c.node_at-node.ensures

pub returns-then-not-node_ok : goal.returns-then-not-node_ok
returns-then-not-node_ok c d t laid =
    sym (one_fails laid c.loop-i.i (here c.before.before.before.before.before d t laid) (sym (tested c.before.before d t laid) ∙ c.if-not-node_ok.true))

-- one node more
pub loop-i-preserved : goal.loop-i-preserved
loop-i-preserved c = (
  omega arith,
  refl,
  elim c.if-has_step.branch [ then-has_step w ↦ omega arith | else-has_step w ↦ omega arith ],
  λ d t laid.
      let h = here c.before.before.before.before.before.before.before d t laid in
      let at = c.loop-i.invariant.3 d t laid in
      let passes = sym (tested c.before.before.before.before d t laid) ∙ c.if-not-node_ok.false in
      let line = step_told laid h c.node_at-node.result c.node_at-node.ensures ∙ sym c.has_step.ensures in
      let next : ℕ → Type 0 = λ k. SoFar laid (c.loop-i.i + 1) k in
      elim c.if-has_step.branch [
        | then-has_step w ↦ subst next (sym w.registers-is) (one_fix laid h at passes (line ∙ w.if-has_step.true))
        | else-has_step w ↦ subst next (sym w.registers-is) (one_other laid h at passes (line ∙ w.if-has_step.false))
      ],
)

-- behind the loop
done : (c : After-loop-i) (d : Database) (t : Term) → (laid : Laid columns c.args.query c.args.facts c.args.limit c.args.ws.now d t) → SoFar laid (size t) c.loop-i.registers
done c d t laid =
    let e : c.loop-i.i ≡ size t = omega (arith, counted c.before.before.before d t laid) in
    subst (λ (n : ℕ). SoFar laid n c.loop-i.registers) e (c.loop-i.invariant.3 d t laid)

room : (c : After-loop-i) → (c.loop-i.registers * stretch columns c.args.limit ≤ length c.args.ws.now)
    × (stretch columns c.args.limit * 0 + stretch columns c.args.limit ≤ length c.args.ws.now)
room c =
    (rw (registers_are c.requires.laid (done c c.requires.database c.requires.term c.requires.laid)) c.requires.laid.room, own_room c.requires.laid 0 (size_positive c.requires.term))

pub returns : goal.returns
returns c d t laid = c.zeros.ensures ∙ all_passed laid (done c.before.before d t laid)

pub overflow_mul-used : goal.overflow_mul-used
overflow_mul-used c = omega (arith, room c.before)

pub overflow_add-used : goal.overflow_add-used
overflow_add-used c = omega (arith, room c.before)

pub overflow_mul-used-2 : goal.overflow_mul-used-2
overflow_mul-used-2 c = omega (arith, room c.before)

pub overflow_sub-ws : goal.overflow_sub-ws
overflow_sub-ws c = omega (arith, room c.before)

pub zeros-requires : goal.zeros-requires
zeros-requires c = omega (arith, room c.before)
