-- On a checked query the step of kinds 7 to 11 by the indices is document 02's.
use mathlib.Core.Path.{◌≡◌, refl, ap, ap₂, sym, ◌∙◌, subst}
use mathlib.Core.Bool.{Bool, true, false, not, ◌||◌}
use Rattle.std.specs.Prelude.{Option, Some, None}
use mathlib.Core.List.{[]}
use Prim.Native.Nat.{ℕ, ◌+◌, ◌-◌, ◌≤◌}
use native.Mathlib.Omega.{arith}
use lib.Dec.{ltb}
use lib.ListN.{length}
use Rattle.laws.specs.Lists.{every}
use Rattle.algebra.specs.declared.Pairing.TheVariants.{Join}
use Rattle.algebra.specs.declared.Condition.{Condition}
use Rattle.algebra.specs.Term.{Term, pair, filter}
use Rattle.algebra.specs.Columns.{Cols, no_cols, Schema, cols, named, size}
use Rattle.algebra.specs.Past.{Past, past_union, past_left, past_right, past_except, past_filter, find_past, adds_node, side_has, moved}
use Rattle.algebra.proofs.PastRules.{past_node, past_found}
use Rattle.relation.specs.Rows.{columns}
use Rattle.database.specs.declared.Database.{Database}
use Rattle.database.specs.declared.Refusal.TheVariants.{NodeCount, NoMatch, SideLacks}
use Rattle.database.specs.Stored.{schema}
use Rattle.database.specs.Refusals.{Reply, accepted, require, or_refuse, ◌>>=◌}
use Rattle.query.specs.declared.Query.{Query}
use Rattle.query.specs.declared.Facts.{Facts}
use Rattle.query.specs.Lines.{node_limit, nodes}
use Rattle.query.specs.Facts.{visits, facts_of}
use Rattle.query.proofs.CheckReply.{Checked}
use Rattle.query.proofs.Starts.{size_pos}
use Rattle.rewrite.specs.Places.{last}
use Rattle.rewrite.specs.Rewrite.{past_rule, replaced, with_nodes}
use Rattle.matching.specs.Found.{cols_at}
use Rattle.matching.proofs.Standing.{Here, pair_left, pair_right, filter_down}
use Rattle.matching.proofs.AtNode.{as_counted, replaced_by}
use Rattle.matching.proofs.Loops.{here_formed, here_cols}
use Rattle.matching.proofs.Asked.{every_same, filter_formed}
use Rattle.passing.specs.declared.Passed.{Passed}
use Rattle.passing.specs.Passing.{left_end, right_end, room_at, side_at, pass_written, pass_reply_to, pass_reply}
use Rattle.passing.proofs.PassFound.{passed_of, passed, passed_at_lem}
use Rattle.passing.proofs.PassWritten.{right_start_is, pass_written_is}

-- the tests behind the match; r, s: 2 and 22 are met
abbrev answered : {A : Type 0} → Bool → Bool → A → Reply A
answered r s a = do
  _ ← require r (NodeCount 0)
  _ ← require s SideLacks
  accepted a

answers_same : {A B : Type 0} (r s : Bool) (a : A) (b : B) (f : A → Query) (g : B → Query) → f a ≡ g b
    → answered r s a >>= (λ x. accepted (f x)) ≡ answered r s b >>= (λ x. accepted (g x))
answers_same false s a b f g h = refl
answers_same true false a b f g h = refl
answers_same true true a b f g h = ap accepted h

module _ (d : Database) (limit : ℕ) (q : Query) (t : Term) (checked : Checked limit q (schema columns d) t) (counted : length (nodes q) ≡ q.count) (fits : q.count ≤ node_limit) where
  abbrev G : Schema
  G = schema columns d

  abbrev facts : Facts
  facts = facts_of G (visits G no_cols [] 0 t)

  abbrev At : Cols → ℕ → Term → Type 0
  At C n a = Here d q t checked.written C n a

  room_is : (m : Past) → not (adds_node m) || ltb (size t) limit ≡ room_at limit q (passed_of m)
  unfolding adds_node
  room_is (past_union f a b) = ap (λ (n : ℕ). ltb n limit) (as_counted d q t checked.written counted)
  room_is (past_left f a b) = refl
  room_is (past_right f a b) = refl
  room_is (past_except f a b) = refl
  room_is (past_filter f g a) = refl

  -- the columns of a side x of which the check tells at index j
  side_held : {C : Cols} {s n : ℕ} (f : Condition) (a x : Term) (j : ℕ) → At C s (filter f a) → At C n x → j ≡ last n x
      → every (cols G C x) (named f) ≡ every (cols_at q facts j) (named f)
  side_held {C} f a x j h r e =
      every_same (cols G C x) (cols_at q facts j) columns (named f) (filter_formed f a (here_formed d limit q t checked counted fits h))
      (λ c k. sym (here_cols d limit q t checked counted fits r c k) ∙ ap (λ (i : ℕ). cols_at q facts i c) (sym e))

  side_is : {C : Cols} {s : ℕ} (m : Past) → At C s (past_node m) → side_has G C m ≡ side_at q facts (last s (past_node m)) (passed_of m)
  unfolding side_has size
  side_is (past_union f a b) h = refl
  side_is {s = s} (past_left f a b) h =
      let x = filter_down d q t checked.written h in
      side_held f (pair Join a b) a (left_end facts (last s (filter f (pair Join a b)))) h (pair_left d q t checked.written x)
      (ap (λ (j : ℕ). j - 1) (right_start_is d limit q t checked counted fits f Join a b h))
  side_is {s = s} (past_right f a b) h =
      let x = filter_down d q t checked.written h in
      let pos = size_pos b in
      side_held f (pair Join a b) b (right_end (last s (filter f (pair Join a b)))) h (pair_right d q t checked.written x) (omega arith)
  side_is (past_except f a b) h = refl
  side_is (past_filter f g a) h = refl

  module _ (k n : ℕ) where
    past_reply : {C : Cols} {s : ℕ} (a : Term) → At C s a → s + size a ≡ n → (o : Option Past) → find_past k a ≡ o
        → (or_refuse o NoMatch >>= (λ m. answered (not (adds_node m) || ltb (size t) limit) (side_has G C m) (moved m))) >>= (λ b. accepted (replaced_by q n a b))
        ≡ pass_reply_to limit q facts (last s a) (passed o)
    past_reply a h e None f = refl
    past_reply {C} {s} a h e (Some m) f =
        let i = past_found k a f in
        let p : Passed → Query = pass_written q facts (last s a) in
        let side : side_has G C m ≡ side_at q facts (last s a) (passed_of m) =
        side_is m (subst (At C s) i h) ∙ ap (λ (b : Term). side_at q facts (last s b) (passed_of m)) (sym i) in
        ap₂ (λ (x y : Bool). answered x y (moved m) >>= λ b. accepted (replaced_by q n a b)) (room_is m) side
        ∙ answers_same (room_at limit q (passed_of m)) (side_at q facts (last s a) (passed_of m)) (moved m) (passed_of m) (replaced_by q n a) p
        (ap (λ (j : ℕ). with_nodes q (replaced (nodes q) j a (moved m))) (sym e) ∙ pass_written_is d limit q t checked counted fits a k m h f)

    -- what the rule replies for the term of a node is what is replied by the index
    pub pass_exact : {C : Cols} {s : ℕ} (a : Term) → At C s a → s + size a ≡ n
        → past_rule (ltb (size t) limit) G C k a >>= (λ b. accepted (replaced_by q n a b)) ≡ pass_reply limit q facts k (n - 1)
    unfolding past_rule
    pass_exact {C} {s} a h e =
        let i : last s a ≡ n - 1 = ap (λ (j : ℕ). j - 1) e in
        past_reply a h e (find_past k a) refl ∙ ap (pass_reply_to limit q facts (last s a)) (sym (passed_at_lem d limit q t checked counted fits k a h))
        ∙ ap (λ (j : ℕ). pass_reply limit q facts k j) i
