-- Document 02's "Two editors on two branches": "For two steps of kinds 1 to 6, both given the same book, at two different nodes of which neither lies under
-- the other, … either is accepted after the other exactly if it was before, with the same refusal otherwise, and … both orders end in the same sheet."
-- The query is any value, checked or not, and the book any; the nodes are any numbers. The steps may be made at two places, if both take the sheet or neither does.
-- A kind 0 is refused with 12, as every kind that no rule has.
use mathlib.Core.List.{List}
use Prim.Native.Nat.{ℕ, ◌≤◌}
use Rattle.database.specs.declared.Database.{Database}
use Rattle.query.specs.declared.Query.{Query}
use Rattle.rewrite.specs.Rewrite.{Step}
use Rattle.branches.specs.Branches.{Apart, Given, Commute}
use Rattle.branches.proofs.GivenSteps.{given_commute}

pub steps_commute : (w limit : ℕ) (d : Database) (store : List ℕ) (q : Query) (s s' : Step) → Given limit d store q s → Given limit d store q s'
    → s.kind ≤ 6 → s'.kind ≤ 6 → Apart q s.node s'.node → Commute w q s s'
steps_commute w limit d store q s s' g g' h h' x = given_commute w limit d store q s s' h h' g g' x
