-- What a kind from 7 to 11 writes by the indices is what its rule writes.
use mathlib.Core.Path.{◌≡◌, refl, ap, sym, ◌∙◌, subst}
use Rattle.std.specs.Prelude.{Some}
use mathlib.Core.List.{List, [], ◌∷◌, ◌++◌, append_assoc}
use Prim.Native.Nat.{ℕ, ◌+◌, ◌-◌, ◌≤◌}
use native.Mathlib.Omega.{arith}
use lib.ListN.{length, length-append}
use Rattle.algebra.specs.declared.Pairing.{Pairing}
use Rattle.algebra.specs.declared.Pairing.TheVariants.{Union, Join, Except}
use Rattle.algebra.specs.declared.Condition.{Condition}
use Rattle.algebra.specs.Term.{Term, pair, filter}
use Rattle.algebra.specs.Columns.{Cols, no_cols, Schema, size}
use Rattle.algebra.specs.Past.{Past, past_union, past_left, past_right, past_except, past_filter, find_past, moved}
use Rattle.algebra.proofs.PastRules.{past_node, past_found}
use Rattle.relation.specs.Rows.{columns}
use Rattle.database.specs.declared.Database.{Database}
use Rattle.database.specs.Stored.{schema}
use Rattle.query.specs.declared.Node.{Node}
use Rattle.query.specs.declared.Node.TheVariants.{Pair, Filter}
use Rattle.query.specs.declared.Query.{Query}
use Rattle.query.specs.declared.Facts.{Facts}
use Rattle.query.specs.Lines.{node_limit, nodes, lines}
use Rattle.query.specs.Facts.{visits, facts_of}
use Rattle.query.proofs.CheckReply.{Checked}
use Rattle.query.proofs.Reading.{flat, size_lines}
use Rattle.query.proofs.SplitSheet.{lines_back, with_again}
use Rattle.query.proofs.Starts.{size_pos}
use Rattle.rewrite.specs.Places.{start_at, last}
use Rattle.rewrite.specs.Rewrite.{with_nodes, replaced}
use Rattle.rewrite.specs.Patterns.{past_before, past_after}
use Rattle.rewrite.proofs.RuleLines.{past_lines}
use Rattle.matching.proofs.Standing.{Here, pair_right, filter_down, under, after, here_place, here_lines, here_replaced}
use Rattle.matching.proofs.Loops.{here_told}
use Rattle.matching.proofs.RuleWritten.{front}
use Rattle.matching.proofs.Sheets.{moved_is, inserted_is}
use Rattle.passing.specs.Passing.{right_end, right_start, left_at, lowered_at, both_at, pass_written}
use Rattle.passing.proofs.PassFound.{passed_of}

-- a line and the one before it, at index i
lowered_is : (q : Query) → length (nodes q) ≡ q.count → (p r : List Node) (x y : Node) (i : ℕ) → nodes q ≡ p ++ (x ∷ (y ∷ r)) → length p + 1 ≡ i
    → with_nodes q (p ++ (y ∷ (x ∷ r))) ≡ lowered_at q i
lowered_is q counted p r x y i s e = moved_is q counted p (x ∷ []) (y ∷ []) r s (i - 1) i (i + 1) (omega arith) (omega arith) refl

module _ (d : Database) (limit : ℕ) (q : Query) (t : Term) (checked : Checked limit q (schema columns d) t) (counted : length (nodes q) ≡ q.count) (fits : q.count ≤ node_limit) where
  abbrev G : Schema
  G = schema columns d

  abbrev facts : Facts
  facts = facts_of G (visits G no_cols [] 0 t)

  abbrev At : Cols → ℕ → Term → Type 0
  At C n a = Here d q t checked.written C n a

  -- of a filter over a pair, the right side starts behind the left one
  pub right_start_is : {C : Cols} {s : ℕ} (c : Condition) (o : Pairing) (a b : Term) → At C s (filter c (pair o a b))
      → right_start facts (last s (filter c (pair o a b))) ≡ s + size a
  unfolding size
  right_start_is {s = s} c o a b h =
      let pos = size_pos b in
      let j : right_end (last s (filter c (pair o a b))) ≡ last (s + size a) b = omega arith in
      ap (start_at facts) j ∙ (here_told d limit q t checked counted fits (pair_right d q t checked.written (filter_down d q t checked.written h))).start

  -- a filter over a pair; f: the lines before the node's own, r: those behind
  module _ {C : Cols} {s : ℕ} (c : Condition) (o : Pairing) (a b : Term) (h : At C s (filter c (pair o a b))) (f r : List Node) (e : length f ≡ s)
      (g : nodes q ≡ f ++ ((lines a ++ (lines b ++ (Pair o ∷ (Filter c ∷ [])))) ++ r)) where
    abbrev i : ℕ
    i = last s (filter c (pair o a b))

    to_left : with_nodes q (f ++ ((lines a ++ (Filter c ∷ (lines b ++ (Pair o ∷ [])))) ++ r)) ≡ left_at q facts i
    unfolding size
    to_left =
        let p = f ++ lines a in
        let x = lines b ++ (Pair o ∷ []) in
        let old : nodes q ≡ p ++ (x ++ ((Filter c ∷ []) ++ r)) = g ∙ simp append_assoc in
        let new : f ++ ((lines a ++ (Filter c ∷ (lines b ++ (Pair o ∷ [])))) ++ r) ≡ p ++ ((Filter c ∷ []) ++ (x ++ r)) = simp append_assoc in
        let n = size_lines b in
        let m = length-append (lines b) (Pair o ∷ []) in
        let z = right_start_is c o a b h in
        ap (with_nodes q) new ∙ moved_is q counted p x (Filter c ∷ []) r old (right_start facts i) i (i + 1) (front f s a e ∙ sym z) (omega arith) refl

    to_right : with_nodes q (f ++ ((lines a ++ (lines b ++ (Filter c ∷ (Pair o ∷ [])))) ++ r)) ≡ lowered_at q i
    unfolding size
    to_right =
        let p = (f ++ lines a) ++ lines b in
        let old : nodes q ≡ p ++ (Pair o ∷ (Filter c ∷ r)) = g ∙ simp append_assoc in
        let new : f ++ ((lines a ++ (lines b ++ (Filter c ∷ (Pair o ∷ [])))) ++ r) ≡ p ++ (Filter c ∷ (Pair o ∷ r)) = simp append_assoc in
        let n = front (f ++ lines a) (s + size a) b (front f s a e) in
        ap (with_nodes q) new ∙ lowered_is q counted p r (Pair o) (Filter c) i old (omega arith)

    -- the lines with the second filter, and then the first exchanged with the pair
    to_both : with_nodes q (f ++ ((lines a ++ (Filter c ∷ (lines b ++ (Filter c ∷ (Pair o ∷ []))))) ++ r)) ≡ both_at q facts i c
    unfolding size
    to_both =
        let p = f ++ lines a in
        let x = lines b ++ (Pair o ∷ (Filter c ∷ r)) in
        let old : nodes q ≡ p ++ x = g ∙ simp append_assoc in
        let grown : List Node = p ++ (Filter c ∷ x) in
        let w = p ++ (Filter c ∷ lines b) in
        let split : grown ≡ w ++ (Pair o ∷ (Filter c ∷ r)) = simp append_assoc in
        let new : f ++ ((lines a ++ (Filter c ∷ (lines b ++ (Filter c ∷ (Pair o ∷ []))))) ++ r) ≡ w ++ (Filter c ∷ (Pair o ∷ r)) = simp append_assoc in
        let n = front f s a e in
        let m = length-append p (Filter c ∷ lines b) in
        let u = size_lines b in
        let more : length grown ≤ length (w ++ (Filter c ∷ (Pair o ∷ r))) =
        omega (arith, ap length split, length-append w (Pair o ∷ (Filter c ∷ r)), length-append w (Filter c ∷ (Pair o ∷ r))) in
        let inserted = inserted_is q counted p x (Filter c) old (right_start facts i) (n ∙ sym (right_start_is c o a b h)) in
        ap (with_nodes q) new ∙ sym (with_again q grown (w ++ (Filter c ∷ (Pair o ∷ r))) more)
        ∙ lowered_is (with_nodes q grown) (ap length (lines_back q grown)) w r (Pair o) (Filter c) (i + 1) (lines_back q grown ∙ split) (omega arith)
        ∙ ap (λ (z : Query). lowered_at z (i + 1)) inserted

  pattern : {C : Cols} {s : ℕ} (m : Past) → At C s (past_node m) → (f r : List Node) → length f ≡ s → nodes q ≡ f ++ (past_before m ++ r)
      → with_nodes q (f ++ (past_after m ++ r)) ≡ pass_written q facts (last s (past_node m)) (passed_of m)
  unfolding size
  pattern (past_union c a b) h f r e g = to_both c Union a b h f r e g
  pattern (past_left c a b) h f r e g = to_left c Join a b h f r e g
  pattern (past_right c a b) h f r e g = to_right c Join a b h f r e g
  pattern (past_except c a b) h f r e g = to_left c Except a b h f r e g
  pattern {s = s} (past_filter c c' a) h f r e g =
      let p = f ++ lines a in
      let new : f ++ ((lines a ++ (Filter c ∷ (Filter c' ∷ []))) ++ r) ≡ p ++ (Filter c ∷ (Filter c' ∷ r)) = simp append_assoc in
      let n = front f s a e in
      ap (with_nodes q) new ∙ lowered_is q counted p r (Filter c') (Filter c) (last s (filter c (filter c' a))) (g ∙ simp append_assoc) (omega arith)

  pub pass_written_is : {C : Cols} {s : ℕ} (a : Term) (k : ℕ) (m : Past) → At C s a → find_past k a ≡ Some m
      → with_nodes q (replaced (nodes q) (s + size a) a (moved m)) ≡ pass_written q facts (last s a) (passed_of m)
  pass_written_is {C} {s} a k m h found =
      let e = past_found k a found in
      let n : ℕ = s + size a in
      let (i, j) = past_lines k a m found in
      let f = flat (under d q t checked.written h n refl) in
      let r = after d q t checked.written h n refl in
      ap (with_nodes q) (here_replaced d q t checked.written h n refl (moved m) ∙ ap (λ (l : List Node). f ++ (l ++ r)) j)
      ∙ pattern m (subst (At C s) e h) f r (here_place d q t checked.written h n refl)
      (here_lines d q t checked.written h n refl ∙ ap (λ (l : List Node). f ++ (l ++ r)) i)
      ∙ ap (λ (b : Term). pass_written q facts (last s b) (passed_of m)) (sym e)
