-- What a kind finds at a node by its line is what its rule matches in the node's term.
use mathlib.Core.Path.{◌≡◌, refl, ap, ap₂, sym, ◌∙◌}
use Rattle.std.specs.Prelude.{Option, Some, None, option_and_then}
use mathlib.Core.List.{[]}
use Prim.Native.Nat.{ℕ, ◌+◌, ◌-◌, ◌≤◌}
use native.Mathlib.Omega.{arith}
use lib.Dec.{eqb}
use lib.ListN.{length}
use Rattle.laws.specs.Lists.{when◌then◌else◌}
use Rattle.laws.proofs.Options.{if_map}
use Rattle.algebra.specs.declared.Pairing.{Pairing}
use Rattle.algebra.specs.declared.Pairing.TheVariants.{Union, Join, Except}
use Rattle.algebra.specs.Term.{Term, table, var, fact, pair, filter, copy, drop, last as latest, fix, mu}
use Rattle.algebra.specs.Columns.{Cols, no_cols, Schema, size}
use Rattle.algebra.specs.Rules.{Loop, loop_of, Match, filter_fix, fix_join, join_fix, fix_except, drop_fix, fix_fix, over, over_both, pair_match, match}
use Rattle.algebra.proofs.Redex.{fix_of}
use Rattle.relation.specs.Rows.{columns}
use Rattle.database.specs.declared.Database.{Database}
use Rattle.database.specs.Stored.{schema}
use Rattle.query.specs.declared.Node.{Node}
use Rattle.query.specs.declared.Query.{Query}
use Rattle.query.specs.declared.Facts.{Facts}
use Rattle.query.specs.Lines.{node_limit, nodes}
use Rattle.query.specs.Facts.{visits, facts_of}
use Rattle.query.specs.Shape.{root, has_step}
use Rattle.query.proofs.CheckReply.{Checked}
use Rattle.query.proofs.Starts.{size_pos}
use Rattle.rewrite.specs.Places.{line_at, start_at, last}
use Rattle.matching.specs.declared.Found.{Found}
use Rattle.matching.specs.declared.Found.TheVariants.{FilterFix, FixJoin, JoinFix, FixExcept, DropFix, FixFix}
use Rattle.matching.specs.Found.{right_of, left_of, over_fix, line_found, found_at}
use Rattle.matching.proofs.Standing.{Here, pair_left, pair_right, filter_down, drop_down}
use Rattle.matching.proofs.Loops.{here_told}

-- a match by the indices of its operands; s: the lines before the node's own
abbrev pub found_of : ℕ → Match → Found
found_of s (filter_fix f x) = FilterFix f (last s (fix_of x))
found_of s (fix_join x o) = FixJoin (last s (fix_of x)) (last (s + size (fix_of x)) o)
found_of s (join_fix o x) = JoinFix (last s o) (last (s + size o) (fix_of x))
found_of s (fix_except x o) = FixExcept (last s (fix_of x)) (last (s + size (fix_of x)) o)
found_of s (drop_fix c x) = DropFix c (last s (fix_of x))
found_of s (fix_fix x y) = FixFix (last s (fix_of x)) (last (s + size (fix_of x)) (fix_of y))

abbrev pub found : ℕ → Option Match → Option Found
found s None = None
found s (Some m) = Some (found_of s m)

-- an operand is a fix by its line or by its term
over_found : (q : Query) (s n : ℕ) (b : Term) → line_at q (last n b) ≡ root b → (m : Found) (mk : Loop → Match) → ((x : Loop) → fix_of x ≡ b → m ≡ found_of s (mk x))
    → over_fix q (last n b) m ≡ found s (over mk (loop_of b))
unfolding over loop_of
over_found q s n (table x) e m mk ok = rw e
over_found q s n (var x) e m mk ok = rw e
over_found q s n (fact c x) e m mk ok = rw e
over_found q s n (pair o a b) e m mk ok = rw e
over_found q s n (filter f a) e m mk ok = rw e
over_found q s n (copy c x a) e m mk ok = rw e
over_found q s n (drop c a) e m mk ok = rw e
over_found q s n (latest c a) e m mk ok = rw e
over_found q s n (fix v a b) e m mk ok = rw e (ap Some (ok (record { var = v; seed = a; step = b }) refl))
over_found q s n (mu v a) e m mk ok = rw e

both_found : (q : Query) (s : ℕ) (a b : Term) → line_at q (last s a) ≡ root a → line_at q (last (s + size a) b) ≡ root b
    → option_and_then (over_fix q (last (s + size a) b)) (over_fix q (last s a) (FixFix (last s a) (last (s + size a) b))) ≡ found s (over_both (loop_of a) (loop_of b))
unfolding over_both loop_of
both_found q s (table x) b e f = rw e
both_found q s (var x) b e f = rw e
both_found q s (fact c x) b e f = rw e
both_found q s (pair o x y) b e f = rw e
both_found q s (filter f' x) b e f = rw e
both_found q s (copy c x y) b e f = rw e
both_found q s (drop c x) b e f = rw e
both_found q s (latest c x) b e f = rw e
both_found q s (fix v x y) b e f =
    ap (λ (z : Node). option_and_then (over_fix q (last (s + size (fix v x y)) b)) (when has_step z then Some (FixFix (last s (fix v x y)) (last (s + size (fix v x y)) b)) else None)) e
    ∙ over_found q s (s + size (fix v x y)) b f _ (fix_fix (record { var = v; seed = x; step = y })) (λ z i. ap (λ (w : Term). FixFix (last s (fix v x y)) (last (s + size (fix v x y)) w)) (sym i))
both_found q s (mu v x) b e f = rw e

module _ (d : Database) (limit : ℕ) (q : Query) (t : Term) (checked : Checked limit q (schema columns d) t) (counted : length (nodes q) ≡ q.count) (fits : q.count ≤ node_limit) (k : ℕ) where
  abbrev G : Schema
  G = schema columns d

  abbrev facts : Facts
  facts = facts_of G (visits G no_cols [] 0 t)

  abbrev At : Cols → ℕ → Term → Type 0
  At C n a = Here d q t checked.written C n a

  line : {C : Cols} {n : ℕ} {a : Term} → At C n a → line_at q (last n a) ≡ root a
  line h = (here_told d limit q t checked counted fits h).line

  abbrev join : ℕ → ℕ → Option Found
  join x y =
      when eqb k 2 then over_fix q x (FixJoin x y)
      else
      when eqb k 3 then over_fix q y (JoinFix x y)
      else
      when eqb k 6 then option_and_then (over_fix q y) (over_fix q x (FixFix x y))
      else None

  abbrev except : ℕ → ℕ → Option Found
  except x y = when eqb k 4 then over_fix q x (FixExcept x y) else None

  -- the operands of a pair by their places
  module _ {C : Cols} {s : ℕ} {o : Pairing} {a b : Term} (h : At C s (pair o a b)) where
    abbrev i : ℕ
    i = last s (pair o a b)

    right_is : right_of i ≡ last (s + size a) b
    unfolding size
    right_is = let p = size_pos b in omega arith

    left_is : left_of facts i ≡ last s a
    left_is =
        ap (λ (j : ℕ). start_at facts j - 1) right_is ∙ ap (λ (j : ℕ). j - 1) (here_told d limit q t checked counted fits (pair_right d q t checked.written h)).start

    left_line : line_at q (last s a) ≡ root a
    left_line = line (pair_left d q t checked.written h)

    right_line : line_at q (last (s + size a) b) ≡ root b
    right_line = line (pair_right d q t checked.written h)

  pub found_at_lem : {C : Cols} {s : ℕ} (a : Term) → At C s a → found_at q facts k (last s a) ≡ found s (match k a)
  unfolding match pair_match size
  found_at_lem {s = s} (table x) h = ap (line_found q facts k (last s (table x))) (line h)
  found_at_lem {s = s} (var x) h = ap (line_found q facts k (last s (var x))) (line h)
  found_at_lem {s = s} (fact c x) h = ap (line_found q facts k (last s (fact c x))) (line h)
  found_at_lem {s = s} (pair Union a b) h = ap (line_found q facts k (last s (pair Union a b))) (line h)
  found_at_lem {s = s} (pair Join a b) h =
      ap (line_found q facts k (last s (pair Join a b))) (line h) ∙ ap₂ join (left_is h) (right_is h)
      ∙ if_map (found s) (eqb k 2) (over (λ x. fix_join x b) (loop_of a)) _
      (over_found q s s a (left_line h) _ (λ x. fix_join x b) (λ x e. ap (λ (y : Term). FixJoin (last s y) (last (s + size y) b)) (sym e)))
      (if_map (found s) (eqb k 3) (over (join_fix a) (loop_of b)) _
      (over_found q s (s + size a) b (right_line h) _ (join_fix a) (λ x e. ap (λ (y : Term). JoinFix (last s a) (last (s + size a) y)) (sym e)))
      (if_map (found s) (eqb k 6) (over_both (loop_of a) (loop_of b)) None (both_found q s a b (left_line h) (right_line h)) refl))
  found_at_lem {s = s} (pair Except a b) h =
      ap (line_found q facts k (last s (pair Except a b))) (line h) ∙ ap₂ except (left_is h) (right_is h)
      ∙ if_map (found s) (eqb k 4) (over (λ x. fix_except x b) (loop_of a)) None
      (over_found q s s a (left_line h) _ (λ x. fix_except x b) (λ x e. ap (λ (y : Term). FixExcept (last s y) (last (s + size y) b)) (sym e))) refl
  found_at_lem {s = s} (filter f a) h =
      let e : right_of (last s (filter f a)) ≡ last s a = omega arith in
      ap (line_found q facts k (last s (filter f a))) (line h)
      ∙ ap (λ (j : ℕ). when eqb k 1 then over_fix q j (FilterFix f j) else None) e
      ∙ if_map (found s) (eqb k 1) (over (filter_fix f) (loop_of a)) None
      (over_found q s s a (line (filter_down d q t checked.written h)) _ (filter_fix f) (λ x e. ap (λ (y : Term). FilterFix f (last s y)) (sym e))) refl
  found_at_lem {s = s} (copy c x a) h = ap (line_found q facts k (last s (copy c x a))) (line h)
  found_at_lem {s = s} (drop c a) h =
      let e : right_of (last s (drop c a)) ≡ last s a = omega arith in
      ap (line_found q facts k (last s (drop c a))) (line h)
      ∙ ap (λ (j : ℕ). when eqb k 5 then over_fix q j (DropFix c j) else None) e
      ∙ if_map (found s) (eqb k 5) (over (drop_fix c) (loop_of a)) None
      (over_found q s s a (line (drop_down d q t checked.written h)) _ (drop_fix c) (λ x e. ap (λ (y : Term). DropFix c (last s y)) (sym e))) refl
  found_at_lem {s = s} (latest c a) h = ap (line_found q facts k (last s (latest c a))) (line h)
  found_at_lem {s = s} (fix v a b) h = ap (line_found q facts k (last s (fix v a b))) (line h)
  found_at_lem {s = s} (mu v a) h = ap (line_found q facts k (last s (mu v a))) (line h)
