-- What a rule of kinds 7 to 11 replies to a term, and why: 12 exactly where its kind does not match, then 2 where it adds a node and there is no room, 22
-- where the named side lacks a column of the filter; else what the rule writes.
use mathlib.Core.Path.{◌≡◌, refl, ap, sym, ◌∙◌}
use mathlib.Core.Bool.{Bool, true, false, not, ◌||◌}
use Rattle.std.specs.Prelude.{Option, Some, None}
use mathlib.Core.Logic.{◌↔◌}
use Prim.Native.Nat.{ℕ}
use borrow.Author.Tests.{eqb-true}
use Rattle.laws.proofs.Tests.{asked, unasked}
use Rattle.algebra.specs.Term.{Term}
use Rattle.algebra.specs.Columns.{Cols, Schema}
use Rattle.algebra.specs.Past.{Past, find_past, adds_node, side_has, SideHas, moved}
use Rattle.algebra.proofs.PastRules.{past_adds, side_iff}
use Rattle.database.specs.declared.Refusal.TheVariants.{NodeCount, NoMatch, SideLacks}
use Rattle.database.specs.Refusals.{Reply, refused, accepted, require, or_refuse, ◌>>=◌}
use Rattle.rewrite.specs.Rewrite.{past_rule}
use Rattle.rewrite.proofs.RuleExact.{failed}

-- there is room for the node that a rule adds, if it adds one; Room: a node more stays within the limit
abbrev pub HasRoom : Type 0 → Past → Type 0
HasRoom Room m = adds_node m ≡ true → Room

pub data PastReply (Room : Type 0) (G : Schema) (C : Cols) (k : ℕ) (a : Term) : Reply Term → Type 0 where
  no_past : find_past k a ≡ None → PastReply Room G C k a (refused NoMatch)
  full : (m : Past) → find_past k a ≡ Some m → ¬ HasRoom Room m → PastReply Room G C k a (refused (NodeCount 0))
  lacking : (m : Past) → find_past k a ≡ Some m → HasRoom Room m → ¬ SideHas G C m → PastReply Room G C k a (refused SideLacks)
  past_allowed : (m : Past) → find_past k a ≡ Some m → HasRoom Room m → SideHas G C m → PastReply Room G C k a (accepted (moved m))

-- the tests after the match, one after the other
tests : (r s : Bool) (b : Term) → Reply Term
tests r s b = do
  _ ← require r (NodeCount 0)
  _ ← require s SideLacks
  accepted b

module _ (room : Bool) (Room : Type 0) (fits : (room ≡ true) ↔ Room) (G : Schema) (C : Cols) (k : ℕ) (a : Term) where
  room_iff : (m : Past) → (not (adds_node m) || room ≡ true) ↔ HasRoom Room m
  room_iff m = ((λ e i. fits.0 (asked (adds_node m) room e i)), λ h. unasked (adds_node m) room (λ i. fits.1 (h i)))

  tested : (m : Past) → find_past k a ≡ Some m → (r s : Bool) → (r ≡ true) ↔ HasRoom Room m → (s ≡ true) ↔ SideHas G C m → PastReply Room G C k a (tests r s (moved m))
  unfolding tests
  tested m found false s f g = full m found (failed f refl)
  tested m found true false f g = lacking m found (f.0 refl) (failed g refl)
  tested m found true true f g = past_allowed m found (f.0 refl) (g.0 refl)

  pub past_exact : PastReply Room G C k a (past_rule room G C k a)
  unfolding past_rule tests
  past_exact = by_match (find_past k a) refl
    where
      by_match : (o : Option Past) → find_past k a ≡ o
          → PastReply Room G C k a (or_refuse o NoMatch >>= (λ m. tests (not (adds_node m) || room) (side_has G C m) (moved m)))
      by_match None e = no_past e
      by_match (Some m) e = tested m e (not (adds_node m) || room) (side_has G C m) (room_iff m) (side_iff G C m)

  -- where all conditions hold the rule is accepted
  pub past_accepted : (m : Past) → find_past k a ≡ Some m → HasRoom Room m → SideHas G C m → past_rule room G C k a ≡ accepted (moved m)
  unfolding past_rule
  past_accepted m found h i = rw (found, (room_iff m).1 h, (side_iff G C m).1 i)

-- whether there is room matters to kind 7 alone
pub past_room : (r r' : Bool) (G : Schema) (C : Cols) (k : ℕ) → (k ≡ 7 → r ≡ r') → (a : Term) → past_rule r G C k a ≡ past_rule r' G C k a
unfolding past_rule tests
past_room r r' G C k same a = by_match (find_past k a) refl
  where
    by_test : (adds : Bool) → (adds ≡ true → r ≡ r') → not adds || r ≡ not adds || r'
    by_test true h = h refl
    by_test false h = refl

    by_match : (o : Option Past) → find_past k a ≡ o
        → or_refuse o NoMatch >>= (λ m. tests (not (adds_node m) || r) (side_has G C m) (moved m))
        ≡ or_refuse o NoMatch >>= (λ m. tests (not (adds_node m) || r') (side_has G C m) (moved m))
    by_match None e = refl
    by_match (Some m) e = ap (λ (x : Bool). tests x (side_has G C m) (moved m)) (by_test (adds_node m) (λ i. same (eqb-true k 7 (sym (past_adds k a e) ∙ i))))
