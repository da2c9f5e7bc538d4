-- U5 takes no step away: each one that document 01's stability accepted is accepted still, with the same sheet.
use mathlib.Core.Path.{◌≡◌, refl, sym, ◌∙◌, subst}
use mathlib.Core.Bool.{Bool, true, false}
use Rattle.std.specs.Prelude.{Option, Some, None}
use mathlib.Core.List.{List}
use Prim.Native.Nat.{ℕ, ◌≤◌, ◌<◌}
use native.Mathlib.Omega.{arith}
use native.Mathlib.Decide.{dec_le}
use borrow.Author.Tests.{le-leb, ne_eqb}
use Rattle.algebra.specs.declared.Pairing.{Pairing}
use Rattle.algebra.specs.declared.Pairing.TheVariants.{Union, Join, Except}
use Rattle.algebra.specs.Term.{Term, table, var, fact, pair, filter, copy, drop, last, fix, mu}
use Rattle.algebra.specs.Columns.{Cols, no_cols, Schema}
use Rattle.algebra.specs.WellFormed.{Closed}
use Rattle.algebra.specs.Rules.{Match, pair_match, match, stable_enough, unused_enough, closed_enough, written}
use Rattle.algebra.proofs.Redex.{redex, matched}
use Rattle.algebra.proofs.UndroppedEnough.{undropped_enough, undropped_enough_lem}
use Rattle.database.specs.declared.Database.{Database}
use Rattle.database.specs.declared.Refusal.TheVariants.{NoMatch, Unstable, Used, OpenOperand}
use Rattle.database.specs.Stored.{schema}
use Rattle.database.specs.Refusals.{Reply, accepted, require, or_refuse, ◌>>=◌}
use Rattle.database.proofs.Replies.{accepted_refused, accepted_then}
use Rattle.query.specs.declared.Query.{Query}
use Rattle.query.specs.Lines.{lines}
use Rattle.query.specs.Check.{check_over}
use Rattle.rewrite.specs.Rewrite.{around, rule, ended_at, replaced, with_nodes, rewrite}
use Rattle.rewrite.proofs.NodeParts.{part_closed}
use Rattle.rewrite.proofs.RuleExact.{tests}

-- a test of 13
abbrev Stability : Type 0
Stability = Schema → Cols → Match → Bool

-- the rule and the step with the test s in its place
abbrev pub rule_by : Stability → Schema → Cols → ℕ → Term → Reply Term
rule_by s G C k t = do
  m ← or_refuse (match k t) NoMatch
  _ ← require (s G C m) Unstable
  _ ← require (unused_enough G C m) Used
  _ ← require (closed_enough m) OpenOperand
  accepted (written m)

abbrev pub rewrite_by : Stability → ℕ → ℕ → Query → Database → List ℕ → ℕ → ℕ → Reply Query
rewrite_by s w limit q d store k n = do
  t ← check_over w limit q d store
  a ← or_refuse (ended_at (lines t) n) NoMatch
  b ← rule_by s (schema w d) (around (schema w d) no_cols t n) k a
  accepted (with_nodes q (replaced (lines t) n a b))

-- with the test by origins they are the rule and the step of kinds 1 to 6
pub by_origins : (w limit : ℕ) (q : Query) (d : Database) (store : List ℕ) (k n : ℕ) → k ≤ 6
    → rewrite w limit q d store k n ≡ rewrite_by stable_enough w limit q d store k n
unfolding rewrite rule
by_origins w limit q d store k n h = rw (le-leb k 6 h)

-- no other kind matches
pair_unmatched : (k : ℕ) → 6 < k → (o : Pairing) (a b : Term) → pair_match k o a b ≡ None
unfolding pair_match
pair_unmatched k h Union a b = refl
pair_unmatched k h Join a b = rw (ne_eqb k 2 (λ e. omega arith), ne_eqb k 3 (λ e. omega arith), ne_eqb k 6 (λ e. omega arith))
pair_unmatched k h Except a b = rw (ne_eqb k 4 (λ e. omega arith))

unmatched : (k : ℕ) → 6 < k → (a : Term) → match k a ≡ None
unfolding match
unmatched k h (table t) = refl
unmatched k h (var v) = refl
unmatched k h (fact c x) = refl
unmatched k h (pair o a b) = pair_unmatched k h o a b
unmatched k h (filter f a) = rw (ne_eqb k 1 (λ e. omega arith))
unmatched k h (copy c d a) = refl
unmatched k h (drop c a) = rw (ne_eqb k 5 (λ e. omega arith))
unmatched k h (last c a) = refl
unmatched k h (fix v a b) = refl
unmatched k h (mu v a) = refl

-- so a rule that writes has a kind from 1 to 6
rule_kind : (s : Stability) (G : Schema) (C : Cols) (k : ℕ) (a : Term) {p : Term} → rule_by s G C k a ≡ accepted p → k ≤ 6
rule_kind s G C k a e = elim (dec_le k 6) [
  | yes h ↦ h
  | no h ↦ accepted_refused (sym (rw (unmatched k (omega arith) a) at e))
]

-- where the tests after the match pass with s they pass with whatever holds where s and c do
tests_grow : (s s' u c : Bool) (b : Term) {p : Term} → (s ≡ true → c ≡ true → s' ≡ true) → tests s u c b ≡ accepted p → tests s' u c b ≡ accepted p
unfolding tests
tests_grow true s' true true b f e = rw (f refl refl) e
tests_grow true s' true false b f e = accepted_refused (sym e)
tests_grow true s' false c b f e = accepted_refused (sym e)
tests_grow false s' u c b f e = accepted_refused (sym e)

module _ (G : Schema) (C : Cols) (k : ℕ) (a : Term) where
  -- at a node whose match, if its other operand is closed, is closed
  rule_grows : {p : Term} → ((m : Match) → match k a ≡ Some m → closed_enough m ≡ true → Closed G (redex m))
      → rule_by undropped_enough G C k a ≡ accepted p → rule_by stable_enough G C k a ≡ accepted p
  unfolding tests
  rule_grows {p} h = by_match (match k a) refl
    where
      by_match : (o : Option Match) → match k a ≡ o
          → or_refuse o NoMatch >>= (λ m. tests (undropped_enough G C m) (unused_enough G C m) (closed_enough m) (written m)) ≡ accepted p
          → or_refuse o NoMatch >>= (λ m. tests (stable_enough G C m) (unused_enough G C m) (closed_enough m) (written m)) ≡ accepted p
      by_match None e i = accepted_refused (sym i)
      by_match (Some m) e i =
          tests_grow (undropped_enough G C m) (stable_enough G C m) (unused_enough G C m) (closed_enough m) (written m)
          (λ s c. undropped_enough_lem G C m (h m e c) s) i

pub stable_grows : (w limit : ℕ) (q : Query) (d : Database) (store : List ℕ) (k n : ℕ) (p : Query)
    → rewrite_by undropped_enough w limit q d store k n ≡ accepted p → rewrite w limit q d store k n ≡ accepted p
stable_grows w limit q d store k n p e =
    let (t, over, e₁) = accepted_then (check_over w limit q d store) _ e in
    let (a, ends, e₂) = accepted_then (or_refuse (ended_at (lines t) n) NoMatch) _ e₁ in
    let (b, ruled, e₃) = accepted_then (rule_by undropped_enough (schema w d) (around (schema w d) no_cols t n) k a) _ e₂ in
    by_origins w limit q d store k n (rule_kind undropped_enough (schema w d) (around (schema w d) no_cols t n) k a ruled)
    ∙ rw (
      over,
      ends,
      rule_grows (schema w d) (around (schema w d) no_cols t n) k a (λ m found c. subst (Closed (schema w d)) (matched k a found)
          (part_closed w limit q d store t over n a (ended (ended_at (lines t) n) ends) k m found c)) ruled,
    ) e₃
  where
    ended : {a : Term} (o : Option Term) → or_refuse o NoMatch ≡ accepted a → o ≡ Some a
    ended None i = accepted_refused (sym i)
    ended (Some b) i = cc
