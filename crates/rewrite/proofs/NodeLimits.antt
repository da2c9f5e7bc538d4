-- Steps under several node limits: on a query within two limits a step replies the same under either, but for a kind 7 that has room under one alone; and
-- since only kind 7 adds a node, a list leaves the same query whichever of the limits its steps are made with, if there is room for its kinds 7.
use mathlib.Core.Path.{◌≡◌, refl, ap, sym, ◌∙◌}
use mathlib.Core.Bool.{Bool}
use mathlib.Core.List.{List, [], ◌∷◌, map}
use Rattle.std.specs.Prelude.{Option, Some, None}
use Prim.Native.Nat.{ℕ, ◌+◌, ◌≤◌, ◌<◌}
use native.Mathlib.Omega.{arith}
use lib.Dec.{leb, ltb}
use borrow.Author.Tests.{lt-ltb, eq-eqb}
use Rattle.laws.specs.Lists.{when◌then◌else◌}
use Rattle.laws.proofs.EachMember.{Each, each_map}
use Rattle.algebra.specs.Term.{Term}
use Rattle.algebra.specs.Columns.{Cols, no_cols, size}
use Rattle.database.specs.declared.Database.{Database}
use Rattle.database.specs.declared.Refusal.TheVariants.{NoMatch}
use Rattle.database.specs.Stored.{schema}
use Rattle.database.specs.Refusals.{Reply, refused, accepted, or_refuse, ◌>>=◌}
use Rattle.query.specs.declared.Query.{Query}
use Rattle.query.specs.Lines.{lines}
use Rattle.query.specs.Check.{check_over}
use Rattle.query.proofs.CheckedTerms.{term_few}
use Rattle.query.proofs.CheckedOver.{check_over_iff}
use Rattle.query.proofs.NodeLimits.{both_within, check_over_agree}
use Rattle.rewrite.specs.Rewrite.{around, rule, rule_of, ended_at, replaced, with_nodes, rewrite, handed_back, Step, replied, held}
use Rattle.rewrite.proofs.PastExact.{past_room}
use Rattle.rewrite.proofs.RewriteExact.{accepted_iff}
use Rattle.rewrite.proofs.AfterStep.{added}
use Rattle.rewrite.proofs.Held.{checked_first, node_count_lem}

-- the limits agree on the query, also where it is within neither, and on the room that kind 7 asks for
module _ (q : Query) (limit limit' : ℕ) (e : leb q.count limit ≡ leb q.count limit') (w : ℕ) (d : Database) (store : List ℕ) (k n : ℕ)
    (room : k ≡ 7 → (t : Term) → check_over w limit q d store ≡ accepted t → ltb (size t) limit ≡ ltb (size t) limit') where
  same_rule : (r r' : Bool) → (k ≡ 7 → r ≡ r') → (C : Cols) (a : Term) → rule_of r (schema w d) C k a ≡ rule_of r' (schema w d) C k a
  same_rule r r' h C a = ap (λ (x : Reply Term). when leb k 6 then rule (schema w d) C k a else x) (past_room r r' (schema w d) C k h a)

  abbrev C : Term → Cols
  C t = around (schema w d) no_cols t n

  -- what the step under the limit l comes to at the term a of the node
  abbrev wrote : ℕ → Term → Term → Reply Query
  wrote l t a = rule_of (ltb (size t) l) (schema w d) (C t) k a >>= λ b. accepted (with_nodes q (replaced (lines t) n a b))

  pub rewrite_agree : rewrite w limit q d store k n ≡ rewrite w limit' q d store k n
  unfolding rewrite
  rewrite_agree = rw (← check_over_agree q limit limit' e w d store) (by_check (check_over w limit q d store) refl)
    where
      by_node : (t : Term) → (k ≡ 7 → ltb (size t) limit ≡ ltb (size t) limit') → (o : Option Term) → or_refuse o NoMatch >>= wrote limit t ≡ or_refuse o NoMatch >>= wrote limit' t
      by_node t h None = refl
      by_node t h (Some a) =
          ap (λ (r : Reply Term). r >>= λ b. accepted (with_nodes q (replaced (lines t) n a b))) (same_rule (ltb (size t) limit) (ltb (size t) limit') h (C t) a)

      by_check : (c : Reply Term) → check_over w limit q d store ≡ c
          → c >>= (λ t. or_refuse (ended_at (lines t) n) NoMatch >>= wrote limit t) ≡ c >>= (λ t. or_refuse (ended_at (lines t) n) NoMatch >>= wrote limit' t)
      by_check (refused _) i = refl
      by_check (accepted t) i = by_node t (λ h. room h t i) (ended_at (lines t) n)

pub rewrite_limits : (q : Query) (limit limit' : ℕ) → q.count ≤ limit → q.count ≤ limit'
    → (w : ℕ) (d : Database) (store : List ℕ) (k n : ℕ)
    → (k ≡ 7 → (t : Term) → check_over w limit q d store ≡ accepted t → (size t < limit) × (size t < limit'))
    → rewrite w limit q d store k n ≡ rewrite w limit' q d store k n
rewrite_limits q limit limit' h h' w d store k n room =
    rewrite_agree q limit limit' (both_within q.count limit limit' h h') w d store k n
    (λ i t over. let (r, r') = room i t over in lt-ltb (size t) limit r ∙ sym (lt-ltb (size t) limit' r'))

-- what a step leaves has at most the node more that kind 7 adds
pub step_count : (w limit : ℕ) (q : Query) (d : Database) (store : List ℕ) (k n : ℕ) (r : Reply Query) → rewrite w limit q d store k n ≡ r
    → (handed_back q r).count ≤ q.count + added k
step_count w limit q d store k n (refused _) e = omega arith
step_count w limit q d store k n (accepted p) e =
    let (t, over) = checked_first w limit q d store k n p e in
    omega (
      arith,
      node_count_lem w limit q d store t over k n p ((accepted_iff w limit q d store t over k n p).0 e),
      term_few ((check_over_iff w limit q d store t).0 over).1,
    )

-- how many nodes a list may add
abbrev pub added_by : List Step → ℕ
added_by [] = 0
added_by (s ∷ steps) = added s.kind + added_by steps

-- and the query that it leaves has at most these more
pub held_count : (w : ℕ) (q : Query) (steps : List Step) → (held w q steps).count ≤ q.count + added_by steps
unfolding held
held_count w q [] = omega arith
held_count w q (s ∷ steps) = omega (arith, step_count w s.limit q s.database s.store s.kind s.node (replied w q s) refl, held_count w (handed_back q (replied w q s)) steps)

-- a step as it is made under another limit
abbrev pub made_under : ℕ → Step → Step
made_under limit s = record { limit = limit; database = s.database; store = s.store; kind = s.kind; node = s.node }

pub held_anywhere : (w limit : ℕ) (q : Query) (steps : List Step) → q.count + added_by steps ≤ limit → Each (λ (s : Step). q.count + added_by steps ≤ s.limit) steps
    → held w q steps ≡ held w q (map (made_under limit) steps)
unfolding held
held_anywhere w limit q [] h few = refl
held_anywhere w limit q (s ∷ steps) h (few, more) =
    let one : s.kind ≡ 7 → added s.kind ≡ 1 = λ i. rw (eq-eqb s.kind 7 i) in
    let same = rewrite_limits q s.limit limit (omega arith) (omega arith) w s.database s.store s.kind s.node
    (λ i t over.
    let a = one i in
    let f = term_few ((check_over_iff w s.limit q s.database s.store t).0 over).1 in
    (omega arith, omega arith)) in
    let n = step_count w s.limit q s.database s.store s.kind s.node (replied w q s) refl in
    held_anywhere w limit (handed_back q (replied w q s)) steps (omega arith) (each_map steps (λ x g. omega arith) more)
    ∙ ap (λ (r : Reply Query). held w (handed_back q r) (map (made_under limit) steps)) same
