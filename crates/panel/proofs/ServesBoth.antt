-- "any rearranged sheet of at most 32 nodes must serve both": whatever the query, if it has no more nodes than the panel takes, it gets the same reply at
-- both: the check's number and place, the plan, the very sheet of each step, of a kind 7 if there is room for its node. And what a list of steps leaves of it,
-- each made at the desk or at the panel, has no more nodes either, if there was room for its kinds 7. What such lists mean to visitors is `rewrites_invisible`,
-- whose steps have a limit each.
use mathlib.Core.Path.{◌≡◌}
use mathlib.Core.List.{List, map}
use mathlib.Core.Logic.{◌↔◌}
use Prim.Native.Nat.{ℕ, ◌+◌, ◌≤◌}
use native.Mathlib.Omega.{arith}
use lib.ListN.{length}
use Rattle.laws.proofs.EachMember.{Each, each_map}
use Rattle.relation.specs.Rows.{columns}
use Rattle.database.specs.Refusals.{accepted}
use Rattle.query.specs.declared.Node.{Node}
use Rattle.query.specs.declared.Query.{Query}
use Rattle.query.specs.Lines.{node_limit}
use Rattle.text.specs.Texts.{read_nodes}
use Rattle.text.proofs.TextRoundTrip.{text_round_trip}
use Rattle.rewrite.specs.Rewrite.{Step, held}
use Rattle.rewrite.proofs.NodeLimits.{added_by, held_count, made_under, held_anywhere}
use Rattle.machine.specs.Limits.{panel_limits}
use Rattle.engine.proofs.Serves.{Serves, held_serves}

pub record ServesBoth (q : Query) : Type 0 where
  pub few : q.count ≤ panel_limits.nodes
  pub serves : Serves columns node_limit panel_limits.nodes q

pub serves_both : (q : Query) (steps : List Step) → q.count + added_by steps ≤ panel_limits.nodes → ServesBoth (held columns q steps)
serves_both q steps h = record {
  few = omega (arith, held_count columns q steps);
  serves = held_serves columns node_limit panel_limits.nodes q steps (omega arith) h;
}

-- and whoever makes the steps, the desk, the panel or both by turns, they leave the very sheet that the desk's steps do
pub made_anywhere : (q : Query) (steps : List Step) → q.count + added_by steps ≤ panel_limits.nodes → Each (λ (s : Step). panel_limits.nodes ≤ s.limit) steps
    → held columns q steps ≡ held columns q (map (made_under node_limit) steps)
made_anywhere q steps h places = held_anywhere columns node_limit q steps (omega arith) (each_map steps (λ s g. omega arith) places)

-- a text is read at the panel exactly if the desk reads the same lines of it, and they are no more than the panel takes
pub reads_both : (text : List ℕ) (ns : List Node) → (read_nodes columns panel_limits.nodes text ≡ accepted ns)
    ↔ ((read_nodes columns node_limit text ≡ accepted ns) × (length ns ≤ panel_limits.nodes))
reads_both text ns =
    let panel = text_round_trip columns panel_limits.nodes text ns in
    let desk = text_round_trip columns node_limit text ns in (
      (λ e. let (same, low, few, range, good) = panel.0 e in (desk.1 (same, low, omega arith, range, good), few)),
      (λ (e, few). let (same, low, _, range, good) = desk.0 e in panel.1 (same, low, few, range, good)),
    )
