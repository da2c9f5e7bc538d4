-- What a rule replies to a term, and why: 12 exactly where its kind does not match, then 13, 14, 15 exactly where a column must be stable and
-- isn't, must be unused and isn't, or the other operand is open; else what the rule writes.
use mathlib.Core.Path.{◌≡◌, refl, sym, ◌∙◌, subst}
use mathlib.Core.Bool.{Bool, true, false}
use Rattle.std.specs.Prelude.{Option, Some, None}
use mathlib.Core.Logic.{◌↔◌}
use Prim.Native.Nat.{ℕ}
use Rattle.laws.proofs.Tests.{true_false}
use Rattle.algebra.specs.Term.{Term}
use Rattle.algebra.specs.Columns.{Cols, Schema}
use Rattle.algebra.specs.Rules.{Match, match, stable_enough, unused_enough, closed_enough, written}
use Rattle.algebra.specs.Conditions.{StableColumns, UnusedColumns, OperandClosed}
use Rattle.algebra.proofs.Narrow.{Below, Narrow}
use Rattle.algebra.proofs.Redex.{redex, matched}
use Rattle.algebra.proofs.Conditions.{stable_iff, unused_iff, closed_iff}
use Rattle.database.specs.declared.Refusal.TheVariants.{NoMatch, Unstable, Used, OpenOperand}
use Rattle.database.specs.Refusals.{Reply, refused, accepted, require, or_refuse, ◌>>=◌}
use Rattle.rewrite.specs.Rewrite.{rule}

pub data RuleReply (G : Schema) (C : Cols) (k : ℕ) (a : Term) : Reply Term → Type 0 where
  no_match : match k a ≡ None → RuleReply G C k a (refused NoMatch)
  unstable : (m : Match) → match k a ≡ Some m → ¬ StableColumns G C m → RuleReply G C k a (refused Unstable)
  in_use : (m : Match) → match k a ≡ Some m → StableColumns G C m → ¬ UnusedColumns G C m → RuleReply G C k a (refused Used)
  open_operand : (m : Match) → match k a ≡ Some m → StableColumns G C m → UnusedColumns G C m → ¬ OperandClosed m
      → RuleReply G C k a (refused OpenOperand)
  allowed : (m : Match) → match k a ≡ Some m → StableColumns G C m → UnusedColumns G C m → OperandClosed m
      → RuleReply G C k a (accepted (written m))

-- a test that failed: its condition does not hold
pub failed : {b : Bool} {P : Type 0} → (b ≡ true) ↔ P → b ≡ false → ¬ P
failed f e p = true_false (sym (f.1 p) ∙ e)

-- the tests after the match, one after the other
unfoldable pub tests : (s u c : Bool) (b : Term) → Reply Term
tests s u c b = do
  _ ← require s Unstable
  _ ← require u Used
  _ ← require c OpenOperand
  accepted b

module _ (G : Schema) (C : Cols) (k : ℕ) (a : Term) where
  tested : (m : Match) → match k a ≡ Some m → (s u c : Bool)
      → (s ≡ true) ↔ StableColumns G C m → (u ≡ true) ↔ UnusedColumns G C m → (c ≡ true) ↔ OperandClosed m → RuleReply G C k a (tests s u c (written m))
  unfolding tests
  tested m found false u c f g h = unstable m found (failed f refl)
  tested m found true false c f g h = in_use m found (f.0 refl) (failed g refl)
  tested m found true true false f g h = open_operand m found (f.0 refl) (g.0 refl) (failed h refl)
  tested m found true true true f g h = allowed m found (f.0 refl) (g.0 refl) (h.0 refl)

  pub rule_exact : Below G.width C → Narrow G a → RuleReply G C k a (rule G C k a)
  unfolding rule tests
  rule_exact below n = by_match (match k a) refl
    where
      by_match : (o : Option Match) → match k a ≡ o
          → RuleReply G C k a (or_refuse o NoMatch >>= (λ m. tests (stable_enough G C m) (unused_enough G C m) (closed_enough m) (written m)))
      by_match None e = no_match e
      by_match (Some m) e =
          let r : Narrow G (redex m) = subst (Narrow G) (matched k a e) n in
          tested m e (stable_enough G C m) (unused_enough G C m) (closed_enough m) (stable_iff G C below m r) (unused_iff G C below m r) (closed_iff m)

  -- where all conditions hold the rule is accepted
  pub rule_allowed : Below G.width C → Narrow G a → (m : Match) → match k a ≡ Some m
      → StableColumns G C m → UnusedColumns G C m → OperandClosed m → rule G C k a ≡ accepted (written m)
  unfolding rule
  rule_allowed below n m found h i j =
      let r : Narrow G (redex m) = subst (Narrow G) (matched k a found) n in
      rw (found, (stable_iff G C below m r).1 h, (unused_iff G C below m r).1 i, (closed_iff m).1 j)
