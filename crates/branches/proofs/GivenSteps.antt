-- The proof of `steps_commute`: steps made with limits that agree on the sheet are steps made with one, before and after each other; a sheet that is not checked is
-- handed back by all.
use mathlib.Core.Path.{◌≡◌, refl, ap, sym, ◌∙◌}
use mathlib.Core.List.{List}
use Prim.Native.Nat.{ℕ, ◌≤◌}
use native.Mathlib.Omega.{arith}
use native.Mathlib.Decide.{dec_le}
use lib.Dec.{leb}
use borrow.Author.Tests.{lt-leb}
use Rattle.algebra.specs.Term.{Term}
use Rattle.database.specs.declared.Database.{Database}
use Rattle.database.specs.declared.Refusal.{Refusal}
use Rattle.database.specs.Refusals.{Reply, refused, accepted, verdict}
use Rattle.query.specs.declared.Query.{Query}
use Rattle.query.specs.Check.{check_over}
use Rattle.query.proofs.NodeLimits.{both_within, accepted_within}
use Rattle.rewrite.specs.Rewrite.{rewrite, handed_back, Step, replied}
use Rattle.rewrite.proofs.AfterStep.{none_added}
use Rattle.rewrite.proofs.Held.{checked_first}
use Rattle.rewrite.proofs.NodeLimits.{rewrite_agree, step_count}
use Rattle.branches.specs.Branches.{Apart, stepped, Given, Commute}
use Rattle.branches.proofs.BranchSteps.{step_at, checked_commute}

module _ (w limit : ℕ) (q : Query) (d : Database) (store : List ℕ) where
  -- a sheet that is not checked is handed back by every step, with the same refusal
  unchecked : (r : Refusal) → check_over w limit q d store ≡ refused r → (k n : ℕ) → rewrite w limit q d store k n ≡ refused r
  unfolding rewrite
  unchecked r e k n = rw e

  pub unchecked_stays : (r : Refusal) → check_over w limit q d store ≡ refused r → (k n : ℕ) → stepped w q (step_at limit d store k n) ≡ q
  unchecked_stays r e k n = ap (handed_back q) (unchecked r e k n)

  unchecked_commute : (r : Refusal) → check_over w limit q d store ≡ refused r → (k n k' n' : ℕ) → Commute w q (step_at limit d store k n) (step_at limit d store k' n')
  unchecked_commute r e k n k' n' =
      let l = unchecked_stays r e k n in
      let l' = unchecked_stays r e k' n' in
      record {
        first_after_lem = ap (λ (p : Query). verdict (rewrite w limit p d store k n)) l';
        second_after_lem = ap (λ (p : Query). verdict (rewrite w limit p d store k' n')) l;
        same_sheet = ap (λ (p : Query). stepped w p (step_at limit d store k' n')) l ∙ l' ∙ sym l ∙ ap (λ (p : Query). stepped w p (step_at limit d store k n)) (sym l');
      }

  -- two steps with one limit
  commute_at : (k n k' n' : ℕ) → k ≤ 6 → k' ≤ 6 → Apart q n n' → Commute w q (step_at limit d store k n) (step_at limit d store k' n')
  commute_at k n k' n' low low' x = by_check (check_over w limit q d store) refl
    where
      by_check : (c : Reply Term) → check_over w limit q d store ≡ c → Commute w q (step_at limit d store k n) (step_at limit d store k' n')
      by_check (refused r) e = unchecked_commute r e k n k' n'
      by_check (accepted t) e = checked_commute w limit d store q t e k n k' n' low low' x

-- limits with which a sheet is taken alike
agree : (n limit limit' : ℕ) → (n ≤ limit → n ≤ limit') → (n ≤ limit' → n ≤ limit) → leb n limit ≡ leb n limit'
agree n limit limit' f g = elim (dec_le n limit) [
  | yes h ↦ both_within n limit limit' h (f h)
  | no h ↦ lt-leb n limit (omega arith) ∙ sym (lt-leb n limit' (elim (dec_le n limit') [ yes i ↦ absurd (h (g i)) | no i ↦ omega arith ]))
]

module _ (w limit : ℕ) (d : Database) (store : List ℕ) where
  -- a step of kinds 1 to 6 is one with this limit and this book
  as_given : (q : Query) (s : Step) → s.kind ≤ 6 → Given limit d store q s → replied w q s ≡ rewrite w limit q d store s.kind s.node
  as_given q s low g =
      ap (λ (b : Database). rewrite w s.limit q b s.store s.kind s.node) g.same_database
      ∙ ap (λ (l : List ℕ). rewrite w s.limit q d l s.kind s.node) g.same_store
      ∙ rewrite_agree q s.limit limit (agree q.count s.limit limit g.taken.0 g.taken.1) w d store s.kind s.node (λ e. absurd (omega arith))

  -- and is after another: an accepted one was given a sheet that is taken, and leaves no more nodes
  pub given_after : (q : Query) (x s : Step) → x.kind ≤ 6 → Given limit d store q x → Given limit d store q s → Given limit d store (stepped w q x) s
  given_after q x s low g h = by_reply (replied w q x) refl
    where
      by_reply : (r : Reply Query) → replied w q x ≡ r → Given limit d store (handed_back q r) s
      by_reply (refused _) e = h
      by_reply (accepted p) e =
          let (t, over) = checked_first w x.limit q x.database x.store x.kind x.node p e in
          let here : q.count ≤ limit = g.taken.0 (accepted_within w x.limit q x.database x.store t over) in
          let there : q.count ≤ s.limit = h.taken.1 here in
          let none = none_added x.kind low in
          let fewer = step_count w x.limit q x.database x.store x.kind x.node (accepted p) e in
          record { same_database = h.same_database; same_store = h.same_store; taken = ((λ _. omega arith), (λ _. omega arith)) }

  module _ (q : Query) (s s' : Step) (low : s.kind ≤ 6) (low' : s'.kind ≤ 6) (g : Given limit d store q s) (g' : Given limit d store q s') where
    -- the second after the first
    then : replied w (stepped w q s) s' ≡ rewrite w limit (stepped w q (step_at limit d store s.kind s.node)) d store s'.kind s'.node
    then =
        as_given (stepped w q s) s' low' (given_after q s s' low g g')
        ∙ ap (λ (r : Reply Query). rewrite w limit (handed_back q r) d store s'.kind s'.node) (as_given q s low g)

    then_sheet : stepped w (stepped w q s) s'
        ≡ stepped w (stepped w q (step_at limit d store s.kind s.node)) (step_at limit d store s'.kind s'.node)
    then_sheet = ap (λ (r : Reply Query). handed_back (stepped w q s) r) then
        ∙ ap (λ (r : Reply Query). handed_back (handed_back q r) (rewrite w limit (stepped w q (step_at limit d store s.kind s.node)) d store s'.kind s'.node)) (as_given q s low g)

  pub given_commute : (q : Query) (s s' : Step) → s.kind ≤ 6 → s'.kind ≤ 6 → Given limit d store q s → Given limit d store q s' → Apart q s.node s'.node → Commute w q s s'
  given_commute q s s' low low' g g' x =
      let c = commute_at w limit q d store s.kind s.node s'.kind s'.node low low' x in
      record {
        first_after_lem = ap verdict (then q s' s low' low g' g) ∙ c.first_after_lem ∙ ap verdict (sym (as_given q s low g));
        second_after_lem = ap verdict (then q s s' low low' g g') ∙ c.second_after_lem ∙ ap verdict (sym (as_given q s' low' g'));
        same_sheet = then_sheet q s s' low low' g g' ∙ c.same_sheet ∙ sym (then_sheet q s' s low' low g' g);
      }
