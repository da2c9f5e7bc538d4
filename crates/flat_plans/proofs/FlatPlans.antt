-- The lines of a plan as blocks of entries.
use mathlib.Core.Path.{◌≡◌, refl, ap, ◌∙◌}
use mathlib.Core.List.{List, []}
use Prim.Native.Nat.{ℕ, min, ◌-◌, ◌<◌}
use lib.ListN.{length, get_or, replicate, length-take}
use lib.Seq.{get_or-take, take-append_seam}
use mir.Val.{Val}
use denote.Laws.{Is}
use denote.Struct.Declared.{row}
use Rattle.relation.specs.Rows.{columns}
use Rattle.query.specs.Lines.{node_limit}
use Rattle.plan.specs.declared.Op.TheVariants.{Table}
use Rattle.plan.specs.declared.Slot.{Slot}
use Rattle.plan.specs.declared.Plan.{Plan}
use Rattle.plan.specs.Plan.{plan_value, blank}
use Rattle.plan.specs.contracts.Plan.{the_type}
use Rattle.flat.specs.Flat.{slot_of, slot_entries, plan_slots}
use Rattle.flat.proofs.Blocks.{begun}

pub slot_size : (s : Slot) → length (slot_of s) ≡ slot_entries
slot_size s = refl

-- there is room for as many lines as a plan may have
pub plan_ops : (p : Plan) (vs : List Val) → Is (row the_type) p vs → length p.ops ≡ node_limit
plan_ops p vs h = h.1.1.1.0.1.0.1

-- what the logic reads past the end
abbrev pub nil : Slot
nil = record { op = Table 0 0; left = record { has = [] }; right = record { has = [] } }

module _ (p : Plan) where
  pub count_slots : length p.ops ≡ node_limit → length (plan_slots p) ≡ min p.count node_limit
  count_slots e = length-take p.count p.ops ∙ ap (min p.count) e

  pub slot_at : (i : ℕ) → i < p.count → get_or (plan_slots p) i nil ≡ get_or p.ops i nil
  slot_at i h = get_or-take p.count p.ops i nil h

  -- the first i lines are written
  abbrev pub begun_slots : List ℕ → ℕ → List ℕ
  begun_slots s i = begun slot_of slot_entries slot_size (plan_slots p) s (get_or s 0 0) i

-- the lines of a plan that is compiled
pub compiled_slots : (slots : List Slot) → plan_slots (plan_value columns node_limit slots) ≡ slots
compiled_slots slots = take-append_seam slots (replicate (node_limit - length slots) (blank columns))
