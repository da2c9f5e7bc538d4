-- Lists of any element: a fact of each member, and tests over all members.
use mathlib.Core.Path.{◌≡◌, refl, ap, sym, ◌∙◌}
use mathlib.Core.Bool.{Bool, true, false, ◌&&◌}
use Rattle.std.specs.Prelude.{Some, None}
use mathlib.Core.Logic.{inl, inr}
use mathlib.Core.List.{List, [], ◌∷◌, ◌++◌, map, flat_map, append_assoc}
use Prim.Native.Nat.{ℕ, zero, suc, ◌<◌}
use native.Mathlib.Omega.{arith}
use native.Mathlib.Nat.{le_of_suc-le-suc, not-suc-le-zero}
use lib.ListN.{length, get_or}
use Rattle.laws.specs.Lists.{when◌then◌else◌, every, any, member, tabulate}
use Rattle.laws.proofs.Tests.{true_false, same?, and_true_left, and_true_right, and_true}
use Rattle.laws.proofs.Options.{some_inj, none_some}

-- a fact of each member
abbrev pub Each : {A : Type 0} → (A → Type 0) → List A → Type 0
Each P [] = Unit {0}
Each P (a ∷ l) = P a × Each P l

pub each_map : {A : Type 0} {P Q : A → Type 0} (l : List A) → ((a : A) → P a → Q a) → Each P l → Each Q l
each_map [] f h = tt
each_map (a ∷ l) f (h, k) = (f a h, each_map l f k)

-- a test that every member passes, and what it says of each
pub every_each : {A : Type 0} (p : A → Bool) (l : List A) → every p l ≡ true → Each (λ a. p a ≡ true) l
unfolding every
every_each p [] e = tt
every_each p (a ∷ l) e = (and_true_left (p a) (every p l) e, every_each p l (and_true_right (p a) (every p l) e))

pub each_every : {A : Type 0} (p : A → Bool) (l : List A) → Each (λ a. p a ≡ true) l → every p l ≡ true
unfolding every
each_every p [] h = refl
each_every p (a ∷ l) (h, k) = and_true _ _ h (each_every p l k)

pub each_append : {A : Type 0} (P : A → Type 0) (l m : List A) → Each P l → Each P m → Each P (l ++ m)
each_append P [] m h k = k
each_append P (a ∷ l) m (h, i) k = (h, each_append P l m i k)

pub each_both : {A : Type 0} {P Q R : A → Type 0} (l : List A) → ((a : A) → P a → Q a → R a) → Each P l → Each Q l → Each R l
each_both [] f h k = tt
each_both (a ∷ l) f (h, hs) (k, ks) = (f a h k, each_both l f hs ks)

pub each_tabulate : {A : Type 0} (P : A → Type 0) (f : ℕ → A) (n : ℕ) → ((t : ℕ) → t < n → P (f t)) → Each P (tabulate f n)
unfolding tabulate
each_tabulate P f zero h = tt
each_tabulate P f (suc n) h = each_append P (tabulate f n) (f n ∷ []) (each_tabulate P f n (λ t k. h t (omega arith))) (h n (omega arith), tt)

pub each_of_member : (P : ℕ → Type 0) (l : List ℕ) → Each P l → (n : ℕ) → member n l ≡ true → P n
unfolding any
each_of_member P [] h n e = true_false (sym e)
each_of_member P (a ∷ l) (h, hs) n e = elim (same? n a) [
  | inl (s, _) ↦ rw s h
  | inr (_, s) ↦ each_of_member P l hs n (rw s at e)
]

-- a value that is kept where a test passes
pub kept : {A : Type 0} {a b : A} (t : Bool) → (when t then Some a else None) ≡ Some b → (t ≡ true) × (a ≡ b)
kept true e = (refl, some_inj e)
kept false e = none_some e

pub both_true : (a b : Bool) → a && b ≡ true → (a ≡ true) × (b ≡ true)
both_true a b e = (and_true_left a b e, and_true_right a b e)

-- a fact of some member
pub data SomeMember {A : Type 0} (P : A → Type 0) : List A → Type 0 where
  first : {a : A} {l : List A} → P a → SomeMember P (a ∷ l)
  later : {a : A} {l : List A} → SomeMember P l → SomeMember P (a ∷ l)

pub some_at : {A : Type 0} (P : A → Type 0) (d : A) (l : List A) (i : ℕ) → i < length l → P (get_or l i d) → SomeMember P l
some_at P d [] i h p = absurd (not-suc-le-zero h)
some_at P d (a ∷ l) zero h p = first p
some_at P d (a ∷ l) (suc i) h p = later (some_at P d l i (le_of_suc-le-suc h) p)

-- a fact of each member beside a fact of some
pub some_map : {A : Type 0} {P Q R : A → Type 0} (l : List A) → ((a : A) → Q a → P a → R a) → Each Q l → SomeMember P l → SomeMember R l
some_map {A = A} {P = P} {Q = Q} {R = R} [] f _ x = elim x [ ]
some_map (a ∷ l) f (q, qs) (first p) = first (f a q p)
some_map (a ∷ l) f (q, qs) (later p) = later (some_map l f qs p)

-- what follows from some member follows
pub some_out : {A C : Type 0} (l : List A) → SomeMember (λ _. C) l → C
some_out {A = A} {C = C} [] x = elim x [ ]
some_out (a ∷ l) (first c) = c
some_out (a ∷ l) (later s) = some_out l s

pub each_at : {A : Type 0} (P : A → Type 0) (d : A) (l : List A) → Each P l → (i : ℕ) → i < length l → P (get_or l i d)
each_at P d [] h i k = absurd (not-suc-le-zero k)
each_at P d (a ∷ l) (h, hs) zero k = h
each_at P d (a ∷ l) (h, hs) (suc i) k = each_at P d l hs i (le_of_suc-le-suc k)

pub get_d_map : {A B : Type 0} (f : A → B) (d : A) (e : B) (l : List A) (i : ℕ) → i < length l → get_or (map f l) i e ≡ f (get_or l i d)
get_d_map f d e [] i k = absurd (not-suc-le-zero k)
get_d_map f d e (a ∷ l) zero k = refl
get_d_map f d e (a ∷ l) (suc i) k = get_d_map f d e l i (le_of_suc-le-suc k)

pub flat_map_append : {A B : Type 0} (f : A → List B) (l m : List A) → flat_map f (l ++ m) ≡ flat_map f l ++ flat_map f m
unfolding flat_map
flat_map_append f [] m = refl
flat_map_append f (a ∷ l) m = ap (λ r. f a ++ r) (flat_map_append f l m) ∙ sym (append_assoc (f a) (flat_map f l) (flat_map f m))
