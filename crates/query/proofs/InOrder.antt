-- The paper's order of faults.
use mathlib.Core.Path.{◌≡◌}
use mathlib.Core.List.{List}
use mathlib.Core.Logic.{◌⊎◌}
use Prim.Native.Nat.{ℕ, ◌≤◌, ◌<◌}
use Rattle.laws.proofs.EachMember.{Each}
use Rattle.laws.proofs.EmptyLists.{Ordered}
use Rattle.database.specs.declared.Refusal.{Refusal}
use Rattle.database.specs.Refusals.{number, place_of}

abbrev pub LowerNode : Refusal → Refusal → Type 0
LowerNode r s = place_of r < place_of s

-- "lowest node first, then lowest number"
abbrev pub Before : Refusal → Refusal → Type 0
Before r s = LowerNode r s ⊎ ((place_of r ≡ place_of s) × (number r < number s))

-- a fault at one of the nodes past low and up to high, of a number from first to last
abbrev pub Within : ℕ → ℕ → ℕ → ℕ → Refusal → Type 0
Within first last low high r = (low < place_of r) × (place_of r ≤ high) × (first ≤ number r) × (number r ≤ last)

-- faults of which each stands in the relation R to all that follow it
pub record InOrder (R : Refusal → Refusal → Type 0) (first last low high : ℕ) (l : List Refusal) : Type 0 where
  pub within : Each (Within first last low high) l
  pub ordered : Ordered R l
