-- A term that may be put for a node, by the columns around it, may be put there in the whole term.
use mathlib.Core.Path.{◌≡◌, ap, subst}
use Prim.Native.Nat.{ℕ, ◌+◌, ◌-◌}
use native.Mathlib.Omega.{arith}
use borrow.Author.Tests.{le-leb, lt-leb}
use Rattle.algebra.specs.declared.Pairing.{Pairing}
use Rattle.algebra.specs.Term.{Term, pair, fix}
use Rattle.algebra.specs.Columns.{Cols, Schema, cols, size}
use Rattle.algebra.proofs.Sizes.{size_positive}
use Rattle.algebra.proofs.Swap.{Swap, swap_refl, swap_pair, swap_filter, swap_copy, swap_drop, swap_last, swap_fix, swap_mu}
use Rattle.rewrite.specs.Rewrite.{around}
use Rattle.rewrite.proofs.Around.{around_past}
use Rattle.rewrite.proofs.Inside.{Inside, itself, in_left, in_right, in_filter, in_copy, in_drop, in_last, in_seed, in_step, in_mu, puts, own_lines, within_lines}

module _ (G : Schema) {a : Term} where
  -- the columns around a node of an operand
  module _ (C : Cols) where
    around_left : (o : Pairing) {n : ℕ} {l : Term} (r : Term) → Inside a n l → around G C (pair o l r) n ≡ around G C l n
    unfolding around
    around_left o r h = rw (le-leb _ _ (within_lines h))

    around_right : (o : Pairing) {n m : ℕ} (l : Term) {r : Term} → size l + m ≡ n → Inside a m r → around G C (pair o l r) n ≡ around G C r m
    unfolding around
    around_right o {n} {m} l {r} e h =
        let i = own_lines h in
        let k : n - size l ≡ m = omega arith in
        rw (lt-leb n (size l) (omega (arith, size_positive a))) (ap (around G C r) k)

    around_seed : (v : ℕ) {n : ℕ} {s : Term} (t : Term) → Inside a n s → around G C (fix v s t) n ≡ around G C s n
    unfolding around
    around_seed v t h = rw (le-leb _ _ (within_lines h))

    around_step : (v : ℕ) {n m : ℕ} (s : Term) {t : Term} → size s + m ≡ n → Inside a m t → around G C (fix v s t) n ≡ around G (cols G C s) t m
    unfolding around
    around_step v {n} {m} s {t} e h =
        let i = own_lines h in
        let j = within_lines h in
        let k : n - size s ≡ m = omega arith in
        rw (lt-leb n (size s) (omega (arith, size_positive a)), le-leb n (size s + size t) (omega arith)) (ap (around G (cols G C s) t) k)

  pub swap_inside : {n : ℕ} {t : Term} (C : Cols) (h : Inside a n t) (b : Term) → Swap G (around G C t n) a b → Swap G C t (puts h b)
  unfolding around
  swap_inside {n} C (itself e) b s = subst (λ (D : Cols). Swap G D a b) (around_past G C a n (omega arith)) s
  swap_inside C (in_left {o = o} {r = r} h) b s =
      swap_pair o (swap_inside C h b (subst (λ (D : Cols). Swap G D a b) (around_left C o r h) s)) (swap_refl r)
  swap_inside C (in_right {o = o} {l = l} e h) b s =
      swap_pair o (swap_refl l) (swap_inside C h b (subst (λ (D : Cols). Swap G D a b) (around_right C o l e h) s))
  swap_inside C (in_filter {f = f} h) b s = swap_filter f (swap_inside C h b s)
  swap_inside C (in_copy {c = c} {d = d} h) b s = swap_copy c d (swap_inside C h b s)
  swap_inside C (in_drop {c = c} h) b s = swap_drop c (swap_inside C h b s)
  swap_inside C (in_last {c = c} h) b s = swap_last c (swap_inside C h b s)
  swap_inside C (in_seed {v = v} {t = y} h) b s =
      swap_fix v (swap_inside C h b (subst (λ (D : Cols). Swap G D a b) (around_seed C v y h) s)) (swap_refl y)
  swap_inside C (in_step {v = v} {s = x} e h) b s =
      swap_fix v (swap_refl x) (swap_inside (cols G C x) h b (subst (λ (D : Cols). Swap G D a b) (around_step C v x e h) s))
  swap_inside C (in_mu {v = v} h) b s = swap_mu v (swap_inside C h b s)
