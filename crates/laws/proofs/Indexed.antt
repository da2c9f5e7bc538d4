-- Loops over the numbers below n: a test of each, and a list written entry by entry.
use mathlib.Core.Path.{◌≡◌, refl, ap, sym, ◌∙◌}
use mathlib.Core.Bool.{Bool, true, false, ◌&&◌}
use mathlib.Core.Logic.{inl, inr}
use mathlib.Core.List.{List, [], ◌∷◌, ◌++◌}
use Prim.Native.Nat.{ℕ, zero, suc, ◌+◌, ◌≤◌, ◌<◌}
use native.Mathlib.Omega.{arith}
use native.Mathlib.Numerals.{add-one}
use native.Mathlib.Nat.{not-suc-le-zero, add-zero, add-suc}
use lib.ListN.{length, take, drop, get_or, set, length-set, length-drop}
use lib.Seq.{get_or-set_same, get_or-set_other, get_or-take, get_or-drop, length-take-le, ext_get_or}
use Rattle.laws.specs.Lists.{every, all, tabulate}
use Rattle.laws.proofs.Tests.{true_false, same?}
use Rattle.laws.proofs.Lists.{all_below}
use Rattle.laws.proofs.Tabulated.{length_tabulate, get_d_tabulate}

pub and_unit : (a : Bool) → a && true ≡ a
and_unit true = refl
and_unit false = refl

pub and_assoc : (a b c : Bool) → (a && b) && c ≡ a && (b && c)
and_assoc true b c = refl
and_assoc false b c = refl

-- a test that has passed below i, and passes at i or fails there
module _ (p : ℕ → Bool) where
  pub all_none : all p 0 ≡ true
  unfolding all
  all_none = refl

  pub all_more : (i : ℕ) → all p i ≡ true → p i ≡ true → all p (i + 1) ≡ true
  unfolding all
  all_more i h e = rw (add-one i, h, e)

  pub all_fails : (n i : ℕ) → i < n → p i ≡ false → all p n ≡ false
  all_fails n i h e = by_test (all p n) refl
    where
      by_test : (b : Bool) → all p n ≡ b → b ≡ false
      by_test true a = true_false (sym (all_below p n a i h) ∙ e)
      by_test false a = refl

-- two tests of each number are one
pub all_both : (p q : ℕ → Bool) (n : ℕ) → all (λ i. p i && q i) n ≡ all p n && all q n
unfolding all
all_both p q zero = refl
all_both p q (suc n) = ap (λ (b : Bool). b && (p n && q n)) (all_both p q n) ∙ and_swap (all p n) (all q n) (p n) (q n)
  where
    and_swap : (a b c d : Bool) → (a && b) && (c && d) ≡ (a && c) && (b && d)
    and_swap true true c d = refl
    and_swap true false true d = refl
    and_swap true false false d = refl
    and_swap false b c d = refl

-- a test of each member, the last one's after the others
pub every_snoc : {A : Type 0} (p : A → Bool) (l : List A) (a : A) → every p (l ++ (a ∷ [])) ≡ every p l && p a
unfolding every
every_snoc p [] a = and_unit (p a)
every_snoc p (b ∷ l) a = ap (λ (t : Bool). p b && t) (every_snoc p l a) ∙ sym (and_assoc (p b) (every p l) (p a))

-- a list whose entries are those of a table
pub is_tabulate : {A : Type 0} (d : A) (f : ℕ → A) (n : ℕ) (l : List A) → length l ≡ n → ((c : ℕ) → c < n → get_or l c d ≡ f c) → l ≡ tabulate f n
is_tabulate d f n l s e = ext_get_or d l (tabulate f n) (s ∙ sym (length_tabulate f n)) λ c h.
    let k : c < n = omega arith in
    e c k ∙ sym (get_d_tabulate f n c d k)

-- the entries from an index on
pub part_tabulate : {A : Type 0} (d : A) (n at : ℕ) (l : List A) → at + n ≤ length l → take n (drop at l) ≡ tabulate (λ c. get_or l (at + c) d) n
part_tabulate d n at l h = is_tabulate d _ n (take n (drop at l)) (length-take-le n (drop at l) (omega (arith, length-drop at l))) λ c k.
    get_or-take n (drop at l) c d k ∙ get_or-drop at l c d

-- a list of n entries, of which the first i are written as f says
pub record Written {A : Type 0} (d : A) (f : ℕ → A) (n : ℕ) (l : List A) (i : ℕ) : Type 0 where
  pub size : length l ≡ n
  pub done : (c : ℕ) → c < i → get_or l c d ≡ f c

module _ {A : Type 0} {d : A} {f : ℕ → A} {n : ℕ} {l : List A} where
  pub written_none : length l ≡ n → Written d f n l 0
  written_none s = record { size = s; done = λ c h. absurd (not-suc-le-zero h) }

  pub written_more : (i : ℕ) (v : A) → Written d f n l i → i < n → v ≡ f i → Written d f n (set l i v) (i + 1)
  written_more i v w h e = record {
    size = length-set l i v ∙ w.size;
    done = λ c k. elim (same? c i) [
      | inl s ↦ ap (λ (k : ℕ). get_or (set l i v) k d) s.0 ∙ get_or-set_same l i v d (let q = w.size in omega arith) ∙ e ∙ ap f (sym s.0)
      | inr s ↦ get_or-set_other l i c v d s.0 ∙ w.done c (let q = s.0 in omega arith)
    ];
  }

  pub written_all : Written d f n l n → l ≡ tabulate f n
  written_all w = is_tabulate d f n l w.size w.done

-- the numbers below a sum: those below the first, and the others
pub all_sum : (p : ℕ → Bool) (a b : ℕ) → all p (a + b) ≡ all p a && all (λ i. p (a + i)) b
unfolding all
all_sum p a zero = ap (all p) (add-zero a) ∙ sym (and_unit (all p a))
all_sum p a (suc b) =
    ap (all p) (add-suc a b) ∙ ap (λ (t : Bool). t && p (a + b)) (all_sum p a b) ∙ and_assoc (all p a) (all (λ i. p (a + i)) b) (p (a + b))
