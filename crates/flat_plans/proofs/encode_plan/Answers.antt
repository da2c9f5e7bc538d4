-- The lines below i are written; the count comes last.
use borrow.Author.Rules.{rules}
use native.Mathlib.Omega.{arith}
use native.Mathlib.Nat.{min-eq_left}
use Prim.Native.Nat.{ℕ, ◌<◌, ◌+◌, ◌*◌}
use mathlib.Core.Path.{◌≡◌, ap, sym, ◌∙◌}
use mathlib.Core.List.{List}
use lib.ListN.{length, get_or, set}
use lib.Seq.{sets}
use Rattle.query.specs.Lines.{node_limit}
use Rattle.plan.specs.declared.Slot.{Slot}
use Rattle.flat.specs.Flat.{slot_of, slot_entries, plan_slots, entry_limit}
use Rattle.flat.proofs.Blocks.{begun_none, begun_more, begun_all}
use Rattle.flat_plans.proofs.FlatPlans.{slot_size, plan_ops, count_slots, slot_at, nil}
use Rattle.flat_plans.proofs.encode_plan.Lts as lts
use Rattle.flat_plans.proofs.encode_plan.Reads as reads
use Rattle.flat_plans.proofs.encode_plan.Tie as tie
use Rattle.flat_plans.proofs.encode_plan.Goals as goal

abbrev After-min-count : Type 0
After-min-count = lts.After-min tie.the-claims reads.Pre reads.Post goal.the-invariant-loop-i goal.the-decreases-loop-i

abbrev Start : Type 0
Start = lts.Start tie.the-claims reads.Pre reads.Post goal.the-invariant-loop-i goal.the-decreases-loop-i

full : (c : Start) → length c.args.plan.ops ≡ node_limit
full c = plan_ops c.args.plan _ c.well_formed.0

-- the count is that of the nodes
counted : (c : After-min-count) → c.min-count.result ≡ length (plan_slots c.args.plan)
counted c = c.min-count.ensures ∙ sym (count_slots c.args.plan (full c.before.before))

pub loop-i-init : goal.loop-i-init
loop-i-init c = (search rules, begun_none slot_of slot_entries slot_size (plan_slots c.args.plan) c.args.out.now (omega arith))

pub loop-i-preserved : goal.loop-i-preserved
loop-i-preserved c =
    let n = counted c.before.before.before.before.before.before.before.before in
    let h : c.loop-i.i < c.args.plan.count = omega arith in
    let k : c.loop-i.i < length (plan_slots c.args.plan) = omega arith in (
      omega arith,
      c.put_slot.ensures
          ∙ ap (λ (x : Slot). sets c.loop-i.out (1 + slot_entries * c.loop-i.i) (slot_of x)) (sym (slot_at c.args.plan c.loop-i.i h))
          ∙ ap (λ (o : List ℕ). sets o (1 + slot_entries * c.loop-i.i) (slot_of (get_or (plan_slots c.args.plan) c.loop-i.i nil))) c.loop-i.invariant.1
          ∙ begun_more slot_of slot_entries slot_size (plan_slots c.args.plan) c.args.out.now (get_or c.args.out.now 0 0) c.loop-i.i nil k (omega arith),
    )

pub returns : goal.returns
returns c =
    let n = counted c.before.before.before in
    let e : c.entry.result ≡ length (plan_slots c.args.plan) = c.entry.ensures ∙ min-eq_left {n = c.min-count.result} {m = entry_limit} (omega arith) ∙ n in
    ap (λ v. set c.loop-i.out 0 v) e ∙ ap (λ (o : List ℕ). set o 0 (length (plan_slots c.args.plan))) c.loop-i.invariant.1
    ∙ begun_all slot_of slot_entries slot_size (plan_slots c.args.plan) c.args.out.now (get_or c.args.out.now 0 0) c.loop-i.i (length (plan_slots c.args.plan)) (omega arith)
