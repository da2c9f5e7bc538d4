-- Two nodes that have no line in common: a term of the same size and columns put in the place of one leaves the other where it is, with the same columns around.
use mathlib.Core.Path.{◌≡◌, refl, ap, sym, ◌∙◌}
use Rattle.std.specs.Prelude.{Option, Some, None}
use mathlib.Core.List.{List, [], ◌++◌, append_assoc}
use Prim.Native.Nat.{ℕ, ◌+◌, ◌-◌, ◌≤◌}
use native.Mathlib.Omega.{arith}
use native.Mathlib.Decide.{dec_le}
use lib.Dec.{leb}
use lib.ListN.{length, drop as dropFirst, length-append, length-drop}
use lib.Seq.{drop_at, take-append-le, drop-append-le}
use borrow.Author.Tests.{le-leb, lt-leb}
use Rattle.laws.specs.Lists.{when◌then◌else◌}
use Rattle.laws.proofs.Options.{none_some}
use Rattle.algebra.specs.Term.{Term}
use Rattle.algebra.specs.Columns.{Cols, Schema, with, without, pair_cols, cols, size}
use Rattle.algebra.proofs.Sizes.{size_positive}
use Rattle.database.proofs.Replies.{accepted_then}
use Rattle.query.specs.declared.Node.{Node}
use Rattle.query.specs.Lines.{lines, read}
use Rattle.query.proofs.Reading.{size_lines, read_append, flat, unread}
use Rattle.query.proofs.TermLines.{term_lines, term_read}
use Rattle.rewrite.specs.Rewrite.{around, ended_at}
use Rattle.rewrite.proofs.Around.{around_past}
use Rattle.rewrite.proofs.Inside.{Ended, ended_length, ended_found, found_ended, Inside, itself, in_left, in_right, in_filter, in_copy, in_drop, in_last, in_seed, in_step, in_mu, puts, place, puts_size, inside_found, node_inside}

-- the lines of two nodes, which end at n and m and are as many as i and j, have none in common
pub data Clear (n i m j : ℕ) : Type 0 where
  first : n + j ≤ m → Clear n i m j
  last : m + i ≤ n → Clear n i m j

-- the same without k lines before both
clear_less : {n i m j : ℕ} (k n' m' : ℕ) → k + n' ≡ n → k + m' ≡ m → Clear n i m j → Clear n' i m' j
clear_less k n' m' e f (first h) = first (omega arith)
clear_less k n' m' e f (last h) = last (omega arith)

-- what ends among the first lines does not depend on the others
ended_before : (p x y : List Node) (n : ℕ) → n ≤ length p → ended_at (p ++ x) n ≡ ended_at (p ++ y) n
unfolding ended_at
ended_before p x y n h =
    rw (
      le-leb n (length (p ++ x)) (omega (arith, length-append p x)),
      le-leb n (length (p ++ y)) (omega (arith, length-append p y)),
      take-append-le n p x h,
      take-append-le n p y h,
    )

-- the first lines of a term's are those of whole terms
front_flat : (t : Term) (p rest : List Node) → lines t ≡ p ++ rest → (stack : List Term) × (p ≡ flat stack)
unfolding flat
front_flat t p rest e =
    let (stack, h, _) = accepted_then (read 0 p []) (read (0 + length p) rest)
    (sym (read_append 0 p rest []) ∙ ap (λ (l : List Node). read 0 l []) (sym e) ∙ term_read (lines t) t ((term_lines (lines t) t).1 refl)) in
    (stack, unread 0 p [] h)

module _ {a : Term} {n : ℕ} {t : Term} (h : Inside a n t) (b : Term) (same : size b ≡ size a) where
  -- the other node is still there
  beside : {a' : Term} {n' : ℕ} → Ended (lines t) n' a' → Clear n (size a) n' (size a') → ended_at (lines (puts h b)) n' ≡ Some a'
  beside {a'} {n'} x (first c) =
      let p = (place h).at in
      let f = p.ends in
      let g = x.ends in
      let before : List Node = flat p.stack in
      let behind : List Node = lines a' ++ x.rest in
      let between : List Node = dropFirst n (flat x.stack) in
      let tail : p.rest ≡ between ++ behind =
      sym (drop_at (before ++ lines a) p.rest n (omega (arith, length-append before (lines a), size_lines a)))
      ∙ ap (dropFirst n) (append_assoc before (lines a) p.rest ∙ sym p.whole ∙ x.whole) ∙ drop-append-le n (flat x.stack) behind (omega arith) in
      let now : lines (puts h b) ≡ (before ++ (lines b ++ between)) ++ behind =
      (place h).changed b ∙ ap (λ (l : List Node). before ++ (lines b ++ l)) tail
      ∙ ap (λ (l : List Node). before ++ l) (sym (append_assoc (lines b) between behind)) ∙ sym (append_assoc before (lines b ++ between) behind) in
      let (stack, i) = front_flat (puts h b) (before ++ (lines b ++ between)) behind now in
      ended_found (record {
        stack = stack;
        rest = x.rest;
        whole = now ∙ ap (λ (l : List Node). l ++ behind) i;
        ends = omega (
          arith,
          ap length i,
          length-append before (lines b ++ between),
          length-append (lines b) between,
          size_lines b,
          length-drop n (flat x.stack),
        );
      })
  beside {a'} {n'} x (last c) =
      let p = (place h).at in
      let f = p.ends in
      ap (λ (l : List Node). ended_at l n') ((place h).changed b)
      ∙ ended_before (flat p.stack) (lines b ++ p.rest) (lines a ++ p.rest) n' (omega arith)
      ∙ ap (λ (l : List Node). ended_at l n') (sym p.whole) ∙ ended_found x

  -- and where there was none there is none
  pub same_ended : (n' : ℕ) → ((a' : Term) → ended_at (lines t) n' ≡ Some a' → Clear n (size a) n' (size a')) → ended_at (lines (puts h b)) n' ≡ ended_at (lines t) n'
  same_ended n' clear = by_node (ended_at (lines t) n') refl (ended_at (lines (puts h b)) n') refl
    where
      by_node : (o : Option Term) → ended_at (lines t) n' ≡ o → (o' : Option Term) → ended_at (lines (puts h b)) n' ≡ o' → o' ≡ o
      by_node (Some a') e o' e' = sym e' ∙ beside (found_ended e) (clear a' e)
      by_node None e None e' = refl
      by_node None e (Some c) e' =
          let x = found_ended e' in
          let f = x.ends in
          let y = node_inside t n' (omega (arith, size_positive c)) (omega (arith, ended_length x, size_lines (puts h b), puts_size h b same)) in
          none_some (sym e ∙ inside_found y.inside)

module _ (G : Schema) {a : Term} (b : Term) (same_cols_lem : (C : Cols) → cols G C b ≡ cols G C a) where
  -- a term of the same columns put in
  puts_cols : {n : ℕ} {t : Term} (h : Inside a n t) (C : Cols) → cols G C (puts h b) ≡ cols G C t
  unfolding cols
  puts_cols (itself e) C = same_cols_lem C
  puts_cols (in_left {o = o} {r = r} h) C = ap (λ (D : Cols). pair_cols o D (cols G C r)) (puts_cols h C)
  puts_cols (in_right {o = o} {l = l} e h) C = ap (pair_cols o (cols G C l)) (puts_cols h C)
  puts_cols (in_filter h) C = puts_cols h C
  puts_cols (in_copy {d = d} h) C = ap (λ (D : Cols). with D d) (puts_cols h C)
  puts_cols (in_drop {c = c} h) C = ap (λ (D : Cols). without D c) (puts_cols h C)
  puts_cols (in_last h) C = puts_cols h C
  puts_cols (in_seed h) C = puts_cols h C
  puts_cols (in_step e h) C = refl
  puts_cols (in_mu h) C = puts_cols h C

  -- the columns around what is not among the node's lines stay
  pub around_beside : (same : size b ≡ size a) {n : ℕ} {t : Term} (h : Inside a n t) (C : Cols) (m : ℕ) → 1 ≤ m → Clear n (size a) m 1
      → around G C (puts h b) m ≡ around G C t m
  unfolding around
  around_beside same (itself e) C m k (first c) = around_past G C b m (omega arith) ∙ sym (around_past G C a m (omega arith))
  around_beside same (itself e) C m k (last c) = absurd (omega arith)
  around_beside same (in_left {l = l} {r = r} h) C m k c =
      rw (puts_size h b same) (ap (λ (D : Cols). when leb m (size l) then D else around G C r (m - size l)) (around_beside same h C m k c))
  around_beside same (in_right {m = j} {l = l} e h) C m k c = elim (dec_le m (size l)) [
    | yes i ↦ rw (le-leb m (size l) i)
    | no i ↦
        rw (lt-leb m (size l) (omega arith))
        (around_beside same h C (m - size l) (omega arith) (clear_less (size l) j (m - size l) e (omega arith) c))
  ]
  around_beside same (in_filter h) C m k c = around_beside same h C m k c
  around_beside same (in_copy h) C m k c = around_beside same h C m k c
  around_beside same (in_drop h) C m k c = around_beside same h C m k c
  around_beside same (in_last h) C m k c = around_beside same h C m k c
  around_beside same (in_seed {s = s} {t = t} h) C m k c =
      rw (puts_size h b same, puts_cols h C)
      (ap (λ (D : Cols). when leb m (size s) then D else (when leb m (size s + size t) then around G (cols G C s) t (m - size s) else C)) (around_beside same h C m k c))
  around_beside same (in_step {m = j} {s = s} {t = t} e h) C m k c = elim (dec_le m (size s)) [
    | yes i ↦ rw (le-leb m (size s) i)
    | no i ↦
        rw (lt-leb m (size s) (omega arith), puts_size h b same)
        (ap (λ (D : Cols). when leb m (size s + size t) then D else C)
        (around_beside same h (cols G C s) (m - size s) (omega arith) (clear_less (size s) j (m - size s) e (omega arith) c)))
  ]
  around_beside same (in_mu h) C m k c = around_beside same h C m k c
