-- Lists that must be empty, and members of joined and sifted lists: what the tests of a check ask.
use mathlib.Core.Path.{◌≡◌, refl, sym}
use mathlib.Core.Bool.{Bool, true, false, ◌||◌}
use mathlib.Core.Logic.{◌⊎◌, inl, inr, ◌↔◌}
use mathlib.Core.List.{List, [], ◌∷◌, ◌++◌}
use Prim.Native.Nat.{ℕ, zero, suc, ◌<◌}
use native.Mathlib.Omega.{arith}
use lib.Dec.{eqb}
use lib.ListN.{length, get_or}
use Rattle.laws.specs.Lists.{when◌then◌else◌, ◌iff◌, null, any, member, sift}
use Rattle.laws.proofs.Tests.{true_false, same?}
use Rattle.laws.proofs.EachMember.{Each, each_map, each_append}

pub true_or_false : (b : Bool) → (b ≡ true) ⊎ (b ≡ false)
true_or_false true = inl refl
true_or_false false = inr refl

pub agree_iff : (a b : Bool) → (a iff b ≡ true) ↔ (a ≡ b)
agree_iff true b = (sym, sym)
agree_iff false true = ((λ e. e), λ e. e)
agree_iff false false = ((λ _. refl), λ _. refl)

pub cons_none {ℓ} : {A : Type 0} {B : Type ℓ} {a : A} {l : List A} → a ∷ l ≡ [] → B
cons_none e = let z : true ≡ false = cc in true_false z

pub append_none : {A : Type 0} (l m : List A) → (l ++ m ≡ []) ↔ ((l ≡ []) × (m ≡ []))
append_none [] m = ((λ e. (refl, e)), λ h. h.1)
append_none (a ∷ l) m = ((λ e. (cc, cc)), λ h. cc)

pub null_none : {A : Type 0} (l : List A) → null l ≡ true → l ≡ []
null_none [] e = refl
null_none (a ∷ l) e = true_false (sym e)

pub null_split : {A : Type 0} (l m : List A) → null (l ++ m) ≡ true → (null l ≡ true) × (null m ≡ true)
null_split [] m e = (refl, e)
null_split (a ∷ l) m e = true_false (sym e)

pub null_both : {A : Type 0} (l m : List A) → null l ≡ true → null m ≡ true → null (l ++ m) ≡ true
null_both [] m e f = f
null_both (a ∷ l) m e f = e

pub member_open : (v : ℕ) (l : List ℕ) → member v l ≡ true → null l ≡ false
unfolding any
member_open v [] e = sym e
member_open v (u ∷ l) e = refl

pub member_append : (n : ℕ) (l m : List ℕ) → member n (l ++ m) ≡ member n l || member n m
unfolding any
member_append n [] m = refl
member_append n (a ∷ l) m = by_test (eqb n a) (member_append n l m)
  where
    by_test : (b : Bool) → member n (l ++ m) ≡ member n l || member n m → b || member n (l ++ m) ≡ (b || member n l) || member n m
    by_test true e = refl
    by_test false e = e

-- a member of the sifted list is a member that passes
pub member_sift : (n : ℕ) (p : ℕ → Bool) (l : List ℕ) → member n (sift p l) ≡ true → (member n l ≡ true) × (p n ≡ true)
unfolding any sift
member_sift n p [] e = true_false (sym e)
member_sift n p (a ∷ l) e = by_tests_lem (p a) refl e (member_sift n p l)
  where
    found : (b : Bool) → member n l ≡ true → b || member n l ≡ true
    found true e = refl
    found false e = e

    by_tests_lem : (b : Bool) → p a ≡ b → member n (when b then a ∷ sift p l else sift p l) ≡ true
        → (member n (sift p l) ≡ true → (member n l ≡ true) × (p n ≡ true)) → (member n (a ∷ l) ≡ true) × (p n ≡ true)
    by_tests_lem false i e rest = let (h, k) = rest e in (found (eqb n a) h, k)
    by_tests_lem true i e rest = elim (same? n a) [
      | inl s ↦ rw (s.1, s.0) (refl, i)
      | inr s ↦ let (h, k) = rest (rw s.1 at e) in (found (eqb n a) h, k)
    ]

pub each_split : {A : Type 0} (P : A → Type 0) (l m : List A) → Each P (l ++ m) → Each P l × Each P m
each_split P [] m h = (tt, h)
each_split P (a ∷ l) m (h, k) = let (i, j) = each_split P l m k in ((h, i), j)

pub each_index : {A : Type 0} (P : A → Type 0) (d : A) (l : List A) → ((i : ℕ) → i < length l → P (get_or l i d)) → Each P l
each_index P d [] f = tt
each_index P d (a ∷ l) f = (f zero (omega arith), each_index P d l (λ i h. f (suc i) (omega arith)))

-- each member stands in the relation to all that follow it
abbrev pub Ordered : {A : Type 0} → (A → A → Type 0) → List A → Type 0
Ordered R [] = Unit {0}
Ordered R (a ∷ l) = Each (R a) l × Ordered R l

pub ordered_map : {A : Type 0} {R S : A → A → Type 0} (l : List A) → ((a b : A) → R a b → S a b) → Ordered R l → Ordered S l
ordered_map [] f h = tt
ordered_map (a ∷ l) f (h, k) = (each_map l (f a) h, ordered_map l f k)

pub ordered_append : {A : Type 0} {P Q : A → Type 0} (R : A → A → Type 0) (l m : List A) → ((a b : A) → P a → Q b → R a b)
    → Each P l → Each Q m → Ordered R l → Ordered R m → Ordered R (l ++ m)
ordered_append R [] m f p q h k = k
ordered_append R (a ∷ l) m f (i, p) q (h, h') k =
    (each_append (R a) l m h (each_map m (λ b j. f a b i j) q), ordered_append R l m f p q h' k)
