-- Tables of numbers, tests of every number below n, and the lowest number that fails one.
use mathlib.Core.Path.{◌≡◌, refl, ap, sym, ◌∙◌, subst}
use mathlib.Core.Bool.{Bool, true, false}
use Rattle.std.specs.Prelude.{Option, Some, None}
use mathlib.Core.Logic.{inl, inr, ◌↔◌}
use mathlib.Core.List.{[], ◌∷◌}
use Prim.Native.Nat.{ℕ, zero, suc, ◌<◌}
use native.Mathlib.Omega.{arith}
use native.Mathlib.Nat.{not-suc-le-zero}
use native.Mathlib.Decide.{dec_lt}
use lib.ListN.{length, get_or, length-append, get_or-append}
use lib.Seq.{get_or_at}
use Rattle.laws.specs.Lists.{when◌then◌else◌, all, lowest, tabulate}
use Rattle.laws.proofs.Tests.{true_false, same?}

pub length_tabulate : {A : Type 0} (f : ℕ → A) (n : ℕ) → length (tabulate f n) ≡ n
unfolding tabulate
length_tabulate f zero = refl
length_tabulate f (suc n) = let h = length_tabulate f n in length-append (tabulate f n) (f n ∷ []) ∙ omega arith

pub get_d_tabulate : {A : Type 0} (f : ℕ → A) (n c : ℕ) (d : A) → c < n → get_or (tabulate f n) c d ≡ f c
unfolding tabulate
get_d_tabulate f zero c d h = absurd (not-suc-le-zero h)
get_d_tabulate f (suc n) c d h = elim (same? c n) [
  | inl p ↦ rw p.0 (get_or_at (tabulate f n) (f n) [] d n (length_tabulate f n))
  | inr p ↦ let u = p.0 in let k : c < n = omega arith in
      get_or-append (tabulate f n) (f n ∷ []) d c (rw (length_tabulate f n) k) ∙ get_d_tabulate f n c d k
]

-- o is the lowest number below n that fails, if there is one
abbrev Lowest : (ℕ → Bool) → ℕ → Option ℕ → Type 0
Lowest p n None = (c : ℕ) → c < n → p c ≡ true
Lowest p n (Some i) = (i < n) × (p i ≡ false) × ((c : ℕ) → c < i → p c ≡ true)

lowest_next : (p : ℕ → Bool) (n : ℕ) (o : Option ℕ) (b : Bool) → Lowest p n o → p n ≡ b
    → Lowest p (suc n) (elim o [ None ↦ when b then None else Some n | Some i ↦ Some i ])
lowest_next p n None true f e = λ c h. elim (same? c n) [ inl s ↦ ap p s.0 ∙ e | inr s ↦ f c (let u = s.0 in omega arith) ]
lowest_next p n None false f e = (omega arith, e, f)
lowest_next p n (Some i) b (h, e, f) _ = (omega arith, e, f)

lowest_is : (p : ℕ → Bool) (n : ℕ) → Lowest p n (lowest p n)
unfolding lowest
lowest_is p zero = λ c h. absurd (not-suc-le-zero h)
lowest_is p (suc n) = lowest_next p n (lowest p n) (p n) (lowest_is p n) refl

lowest_one : (p : ℕ → Bool) (n : ℕ) (o q : Option ℕ) → Lowest p n o → Lowest p n q → o ≡ q
lowest_one p n None None f g = refl
lowest_one p n None (Some j) f (h, e, _) = true_false (sym (f j h) ∙ e)
lowest_one p n (Some i) None (h, e, _) g = true_false (sym (g i h) ∙ e)
lowest_one p n (Some i) (Some j) (h, e, f) (k, d, g) = elim (dec_lt i j) [
  | yes l ↦ true_false (sym (g i l) ∙ e)
  | no l ↦ elim (dec_lt j i) [ yes m ↦ true_false (sym (f j m) ∙ d) | no m ↦ ap Some (omega arith) ]
]

lowest_iff : (p : ℕ → Bool) (n : ℕ) (o : Option ℕ) → (lowest p n ≡ o) ↔ Lowest p n o
lowest_iff p n o = (λ e. subst (Lowest p n) e (lowest_is p n), lowest_one p n (lowest p n) o (lowest_is p n))

-- no number fails exactly if all below n pass
pub lowest_none : (p : ℕ → Bool) (n : ℕ) → (lowest p n ≡ None) ↔ ((c : ℕ) → c < n → p c ≡ true)
lowest_none p n = lowest_iff p n None

pub lowest_some : (p : ℕ → Bool) (n i : ℕ) → (lowest p n ≡ Some i) ↔ ((i < n) × (p i ≡ false) × ((c : ℕ) → c < i → p c ≡ true))
lowest_some p n i = lowest_iff p n (Some i)
