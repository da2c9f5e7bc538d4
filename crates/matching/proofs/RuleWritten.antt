-- What a kind writes by the indices is what its rule writes.
use mathlib.Core.Path.{◌≡◌, refl, ap, ap₂, sym, ◌∙◌, subst}
use mathlib.Core.Bool.{true}
use Rattle.std.specs.Prelude.{Some}
use mathlib.Core.Logic.{inl, inr}
use mathlib.Core.List.{List, [], ◌∷◌, ◌++◌, append_assoc}
use Prim.Native.Nat.{ℕ, ◌+◌, ◌-◌, ◌≤◌}
use native.Mathlib.Omega.{arith}
use lib.ListN.{length, length-append}
use Rattle.algebra.specs.declared.Pairing.TheVariants.{Union, Join, Except}
use Rattle.algebra.specs.Term.{Term}
use Rattle.algebra.specs.Columns.{Cols, no_cols, Schema, size, fix_numbers}
use Rattle.algebra.specs.WellFormed.{Closed, Path, WellFormed}
use Rattle.algebra.specs.Rules.{Loop, Match, filter_fix, fix_join, join_fix, fix_except, drop_fix, fix_fix, match, closed_enough, written}
use Rattle.algebra.proofs.Distinct.{count_distinct}
use Rattle.algebra.proofs.Redex.{fix_of, redex, matched}
use Rattle.algebra.proofs.Written.{open_fails}
use Rattle.relation.specs.Rows.{columns}
use Rattle.database.specs.declared.Database.{Database}
use Rattle.database.specs.Stored.{schema}
use Rattle.query.specs.declared.Node.{Node}
use Rattle.query.specs.declared.Node.TheVariants.{Pair, Filter, Drop, Fix}
use Rattle.query.specs.declared.Query.{Query}
use Rattle.query.specs.declared.Facts.{Facts}
use Rattle.query.specs.Lines.{node_limit, nodes, lines}
use Rattle.query.specs.Facts.{visits, facts_of}
use Rattle.query.proofs.CheckReply.{Checked}
use Rattle.query.proofs.Reading.{flat, size_lines}
use Rattle.rewrite.specs.Places.{line_at, start_at, last, fix_number}
use Rattle.rewrite.specs.Rewrite.{with_nodes, replaced}
use Rattle.rewrite.specs.Patterns.{lines_before, lines_after, rename_lines}
use Rattle.rewrite.specs.Splices.{with_lines, merged}
use Rattle.rewrite.proofs.RuleLines.{rule_lines}
use Rattle.matching.specs.Found.{moved_at, written_at}
use Rattle.matching.proofs.Standing.{Here, pair_left, pair_right, filter_down, drop_down, under, after, here_place, here_lines, here_replaced}
use Rattle.matching.proofs.Loops.{here_told, here_fine, here_numbers, step_start}
use Rattle.matching.proofs.Matched.{found_of}
use Rattle.matching.proofs.Sheets.{moved_is, merged_is}

-- lines with a term's behind them
pub front : (f : List Node) (s : ℕ) (a : Term) → length f ≡ s → length (f ++ lines a) ≡ s + size a
front f s a e = length-append f (lines a) ∙ ap₂ ◌+◌ e (size_lines a)

module _ (d : Database) (limit : ℕ) (q : Query) (t : Term) (checked : Checked limit q (schema columns d) t) (counted : length (nodes q) ≡ q.count) (fits : q.count ≤ node_limit) where
  abbrev G : Schema
  G = schema columns d

  abbrev facts : Facts
  facts = facts_of G (visits G no_cols [] 0 t)

  abbrev At : Cols → ℕ → Term → Type 0
  At C n a = Here d q t checked.written C n a

  -- step and fix move behind the lines y
  module _ {C : Cols} {n : ℕ} (x : Loop) (h : At C n (fix_of x)) (p y r : List Node) (i : ℕ) where
    abbrev moves : List Node
    moves = lines x.step ++ (Fix x.var ∷ [])

    fix_moved : length p ≡ n + size x.seed → n + size (fix_of x) + length y ≡ i + 1 → nodes q ≡ p ++ (moves ++ (y ++ r))
        → (new : List Node) → new ≡ p ++ (y ++ (moves ++ r)) → with_nodes q new ≡ moved_at q facts i (last n (fix_of x))
    unfolding size
    fix_moved e g s new w =
        let at = step_start d limit q t checked counted fits x h in
        let long = length-append (lines x.step) (Fix x.var ∷ []) in
        let m = size_lines x.step in
        ap (with_nodes q) w ∙ moved_is q counted p moves y r s _ _ (i + 1) (e ∙ sym at) (omega arith) (omega arith)

  fix_number_lem : {C : Cols} {n : ℕ} (x : Loop) → At C n (fix_of x) → x.var ≡ fix_number (line_at q (last n (fix_of x)))
  fix_number_lem x h = ap fix_number (sym (here_told d limit q t checked counted fits h).line)

  -- document 01's patterns; f: the lines before the node's own, r: those behind
  pattern : {C : Cols} {s : ℕ} (m : Match) → At C s (redex m) → (f r : List Node) → length f ≡ s → nodes q ≡ f ++ (lines_before m ++ r)
      → with_nodes q (f ++ (lines_after m ++ r)) ≡ written_at q facts (last s (redex m)) (found_of s m)
  unfolding size
  pattern {s = s} (filter_fix c x) h f r e g =
      fix_moved x (filter_down d q t checked.written h) (f ++ lines x.seed) (Filter c ∷ []) r (last s (redex (filter_fix c x)))
      (front f s x.seed e) (omega arith) (g ∙ simp append_assoc) (f ++ (lines_after (filter_fix c x) ++ r)) (simp append_assoc)
  pattern {s = s} (fix_join x o) h f r e g =
      let m = length-append (lines o) (Pair Join ∷ []) in
      let k = size_lines o in
      fix_moved x (pair_left d q t checked.written h) (f ++ lines x.seed) (lines o ++ (Pair Join ∷ [])) r (last s (redex (fix_join x o)))
      (front f s x.seed e) (omega arith) (g ∙ simp append_assoc) (f ++ (lines_after (fix_join x o) ++ r)) (simp append_assoc)
  pattern {s = s} (join_fix o x) h f r e g =
      fix_moved x (pair_right d q t checked.written h) ((f ++ lines o) ++ lines x.seed) (Pair Join ∷ []) r (last s (redex (join_fix o x)))
      (front (f ++ lines o) (s + size o) x.seed (front f s o e)) (omega arith) (g ∙ simp append_assoc) (f ++ (lines_after (join_fix o x) ++ r)) (simp append_assoc)
  pattern {s = s} (fix_except x o) h f r e g =
      let m = length-append (lines o) (Pair Except ∷ []) in
      let k = size_lines o in
      fix_moved x (pair_left d q t checked.written h) (f ++ lines x.seed) (lines o ++ (Pair Except ∷ [])) r (last s (redex (fix_except x o)))
      (front f s x.seed e) (omega arith) (g ∙ simp append_assoc) (f ++ (lines_after (fix_except x o) ++ r)) (simp append_assoc)
  pattern {s = s} (drop_fix c x) h f r e g =
      fix_moved x (drop_down d q t checked.written h) (f ++ lines x.seed) (Drop c ∷ []) r (last s (redex (drop_fix c x)))
      (front f s x.seed e) (omega arith) (g ∙ simp append_assoc) (f ++ (lines_after (drop_fix c x) ++ r)) (simp append_assoc)
  pattern {s = s} (fix_fix x y) h f r e g =
      let l = pair_left d q t checked.written h in
      let w = pair_right d q t checked.written h in
      let a = step_start d limit q t checked counted fits x l in
      let b = step_start d limit q t checked counted fits y w in
      let fx : ℕ = last s (fix_of x) in
      let sx : ℕ = start_at facts (fx - 1) in
      let sy : ℕ = start_at facts (last (s + size (fix_of x)) (fix_of y) - 1) in
      let u = size_lines x.step in
      let v = size_lines y.seed in
      let z = size_lines y.step in
      let old : List Node = f ++ (lines_after (fix_fix x y) ++ r) in
      let new : List Node =
      (f ++ lines x.seed) ++ (lines y.seed ++ (Pair Join ∷ (lines x.step ++ (rename_lines y.var x.var (lines y.step) ++ (Pair Union ∷ (Fix x.var ∷ r)))))) in
      let same : old ≡ new = simp append_assoc in
      ap (with_nodes q) same
      ∙ merged_is q counted (f ++ lines x.seed) (lines x.step) (lines y.seed) (lines y.step) r (Fix x.var) (Fix y.var) (Pair Join)
      (g ∙ simp append_assoc) y.var x.var sx fx sy (last s (redex (fix_fix x y)))
      (front f s x.seed e ∙ sym a) (omega arith) (omega arith) (omega arith)
      ∙ ap₂ (λ (i j : ℕ). with_lines q (merged sx fx sy (last s (redex (fix_fix x y))) i j q.lines)) (fix_number_lem y w) (fix_number_lem x l)

  -- an accepted rule's node is closed
  node_closed : {C : Cols} {s : ℕ} {a : Term} (m : Match) → At C s a → a ≡ redex m → closed_enough m ≡ true → Closed G a
  node_closed m h e c = elim (here_fine d limit q t checked counted fits h) [ inl p ↦ p | inr (v, D, p) ↦ absurd (open_fails m (subst (Path G v D) e p) c) ]

  pub written_is : {C : Cols} {s : ℕ} (a : Term) (k : ℕ) (m : Match) → At C s a → match k a ≡ Some m → closed_enough m ≡ true
      → with_nodes q (replaced (nodes q) (s + size a) a (written m)) ≡ written_at q facts (last s a) (found_of s m)
  written_is {C} {s} a k m h found c =
      let e = matched k a found in
      let n : ℕ = s + size a in
      let formed : WellFormed G a =
      record { closed = node_closed m h e c; distinct = count_distinct (fix_numbers a) (here_numbers d limit q t checked counted fits h) } in
      let (i, j) = rule_lines formed k m found in
      let f = flat (under d q t checked.written h n refl) in
      let r = after d q t checked.written h n refl in
      ap (with_nodes q) (here_replaced d q t checked.written h n refl (written m) ∙ ap (λ (l : List Node). f ++ (l ++ r)) j)
      ∙ pattern m (subst (At C s) e h) f r (here_place d q t checked.written h n refl)
      (here_lines d q t checked.written h n refl ∙ ap (λ (l : List Node). f ++ (l ++ r)) i)
      ∙ ap (λ (b : Term). written_at q facts (last s b) (found_of s m)) (sym e)
