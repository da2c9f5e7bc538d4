-- On a checked query what kinds 1 to 6 reply by the indices is what document 01's rules reply.
use mathlib.Core.Path.{◌≡◌, refl, ap, ap₂, sym, ◌∙◌, subst}
use mathlib.Core.Bool.{Bool, true, false}
use Rattle.std.specs.Prelude.{Option, Some, None}
use mathlib.Core.List.{List, []}
use Prim.Native.Nat.{ℕ, ◌+◌, ◌-◌, ◌≤◌, ◌<◌}
use native.Mathlib.Omega.{arith}
use native.Mathlib.Decide.{dec_lt}
use lib.ListN.{length, get_or-eq_default}
use Rattle.laws.proofs.Tests.{true_false}
use Rattle.algebra.specs.Term.{Term, table, var, fact, pair, filter, copy, drop, last as latest, fix, mu}
use Rattle.algebra.specs.Columns.{Cols, no_cols, Schema, size}
use Rattle.algebra.specs.Rules.{Match, match, stable_enough, unused_enough, closed_enough, written}
use Rattle.algebra.proofs.Redex.{redex, matched}
use Rattle.relation.specs.Rows.{columns}
use Rattle.database.specs.declared.Database.{Database}
use Rattle.database.specs.declared.Refusal.TheVariants.{NoMatch, Unstable, Used, OpenOperand}
use Rattle.database.specs.Stored.{schema}
use Rattle.database.specs.Refusals.{Reply, accepted, require, or_refuse, ◌>>=◌}
use Rattle.query.specs.declared.Node.TheVariants.{Table}
use Rattle.query.specs.declared.Query.{Query}
use Rattle.query.specs.declared.Facts.{Facts}
use Rattle.query.specs.Lines.{node_limit, nodes, lines}
use Rattle.query.specs.Facts.{visits, facts_of}
use Rattle.query.specs.Check.{check_over}
use Rattle.query.specs.Shape.{root, has_step}
use Rattle.query.proofs.CheckReply.{Checked}
use Rattle.query.proofs.CheckedOver.{check_over_iff}
use Rattle.query.proofs.CheckedTerms.{own_checked}
use Rattle.query.proofs.Starts.{size_pos}
use Rattle.rewrite.specs.Places.{line_at, start_at, last}
use Rattle.rewrite.specs.Rewrite.{rule, replaced, with_nodes}
use Rattle.matching.specs.declared.Found.{Found}
use Rattle.matching.specs.Found.{found_at, Placed, stable_at, unused_at, written_at, reply_to}
use Rattle.matching.proofs.Standing.{Here}
use Rattle.matching.proofs.AtNode.{node_at_lem, replaced_by}
use Rattle.matching.proofs.Loops.{low, here_told, step_start}
use Rattle.matching.proofs.Matched.{found_of, found, found_at_lem}
use Rattle.matching.proofs.Asked.{stable_is, unused_is, closed_is}
use Rattle.matching.proofs.RuleWritten.{written_is}

-- the tests behind the match
abbrev answered : {A : Type 0} → Bool → Bool → Bool → A → Reply A
answered s u c a = do
  _ ← require s Unstable
  _ ← require u Used
  _ ← require c OpenOperand
  accepted a

answers_same : {A B : Type 0} (s u c : Bool) (a : A) (b : B) (f : A → Query) (g : B → Query) → (c ≡ true → f a ≡ g b)
    → answered s u c a >>= (λ x. accepted (f x)) ≡ answered s u c b >>= (λ x. accepted (g x))
answers_same false u c a b f g h = refl
answers_same true false c a b f g h = refl
answers_same true true false a b f g h = refl
answers_same true true true a b f g h = ap accepted (h refl)

module _ (d : Database) (limit : ℕ) (q : Query) (t : Term) (checked : Checked limit q (schema columns d) t) (counted : length (nodes q) ≡ q.count) (fits : q.count ≤ node_limit) where
  abbrev G : Schema
  G = schema columns d

  abbrev facts : Facts
  facts = facts_of G (visits G no_cols [] 0 t)

  -- of a fix, its step starts behind its seed
  fix_seeded : {C : Cols} {s : ℕ} (a : Term) → Here d q t checked.written C s a → has_step (root a) ≡ true → start_at facts (last s a) < start_at facts (last s a - 1)
  fix_seeded (table x) h e = true_false (sym e)
  fix_seeded (var x) h e = true_false (sym e)
  fix_seeded (fact c x) h e = true_false (sym e)
  fix_seeded (pair o a b) h e = true_false (sym e)
  fix_seeded (filter f a) h e = true_false (sym e)
  fix_seeded (copy c x a) h e = true_false (sym e)
  fix_seeded (drop c a) h e = true_false (sym e)
  fix_seeded (latest c a) h e = true_false (sym e)
  fix_seeded (fix v a b) h e =
      let s = (here_told d limit q t checked counted fits h).start in
      let m = step_start d limit q t checked counted fits (record { var = v; seed = a; step = b }) h in
      let p = size_pos a in
      omega arith
  fix_seeded (mu v a) h e = true_false (sym e)

  pub placed : Placed q facts
  placed = record { fits = fits; low = low d limit q t checked counted fits; seeded = seeded }
    where
      seeded : (y : ℕ) → has_step (line_at q y) ≡ true → start_at facts y < start_at facts (y - 1)
      seeded y e = elim (dec_lt y q.count) [
        | yes h ↦
            let r = node_at_lem d q t checked.written counted (y + 1) (omega arith) (omega arith) in
            let m = r.ends in
            let p = size_pos r.term in
            let i : last r.start r.term ≡ y = omega arith in
            subst (λ (j : ℕ). start_at facts j < start_at facts (j - 1)) i
            (fix_seeded r.term r.here (ap has_step (sym (here_told d limit q t checked counted fits r.here).line) ∙ ap (λ (j : ℕ). has_step (line_at q j)) i ∙ e))
        | no h ↦ true_false (sym (sym (ap has_step (get_or-eq_default (nodes q) (Table 0) (omega arith))) ∙ e))
      ]

  module _ (k n : ℕ) where
    matched_reply : {C : Cols} {s : ℕ} (a : Term) → Here d q t checked.written C s a → s + size a ≡ n → (o : Option Match) → match k a ≡ o
        → (or_refuse o NoMatch >>= (λ m. answered (stable_enough G C m) (unused_enough G C m) (closed_enough m) (written m))) >>= (λ b. accepted (replaced_by q n a b))
        ≡ reply_to q facts (last s a) (found s o)
    matched_reply a h e None f = refl
    matched_reply {C} {s} a h e (Some m) f =
        let r : Here d q t checked.written C s (redex m) = subst (Here d q t checked.written C s) (matched k a f) h in
        let m' : Found = found_of s m in
        let p : Found → Query = written_at q facts (last s a) in
        answers_same (stable_enough G C m) (unused_enough G C m) (closed_enough m) (written m) m' (replaced_by q n a) p
        (λ c. ap (λ (i : ℕ). with_nodes q (replaced (nodes q) i a (written m))) (sym e) ∙ written_is d limit q t checked counted fits a k m h f c)
        ∙ ap₂ (λ (x y : Bool). answered x y (closed_enough m) m' >>= λ z. accepted (p z)) (sym (stable_is d limit q t checked counted fits m r)) (sym (unused_is d limit q t checked counted fits m r))
        ∙ ap (λ (x : Bool). answered (stable_at q facts m') (unused_at q facts m') x m' >>= λ z. accepted (p z)) (sym (closed_is d limit q t checked counted fits m r))

    -- what the rule replies for the term of a node is what is replied by the index
    pub node_reply_lem : {C : Cols} {s : ℕ} (a : Term) → Here d q t checked.written C s a → s + size a ≡ n
        → rule G C k a >>= (λ b. accepted (replaced_by q n a b)) ≡ reply_to q facts (n - 1) (found_at q facts k (n - 1))
    unfolding rule
    node_reply_lem {C} {s} a h e =
        let i : last s a ≡ n - 1 = ap (λ (j : ℕ). j - 1) e in
        matched_reply a h e (match k a) refl ∙ ap (reply_to q facts (last s a)) (sym (found_at_lem d limit q t checked counted fits k a h))
        ∙ ap (λ (j : ℕ). reply_to q facts j (found_at q facts k j)) i

-- of the facts of a query that is checked over a database and needs no splitting
pub checked_placed : (limit : ℕ) (q : Query) (d : Database) (store : List ℕ) (t : Term) → check_over columns limit q d store ≡ accepted t → nodes q ≡ lines t
    → length (nodes q) ≡ q.count → q.count ≤ node_limit
    → Placed q (facts_of (schema columns d) (visits (schema columns d) no_cols [] 0 t))
checked_placed limit q d store t e own counted fits = placed d limit q t (own_checked own ((check_over_iff columns limit q d store t).0 e).1) counted fits
