-- Loops over a list: an array filled from its start, faults gathered from its start, and a search to its end.
use mathlib.Core.Path.{◌≡◌, refl, ap, ap₂, sym, ◌∙◌}
use mathlib.Core.Bool.{Bool, true, false, ◌||◌, ◌&&◌}
use mathlib.Core.List.{List, [], ◌∷◌, ◌++◌, map, append_assoc, append-nil, map-append}
use Prim.Native.Nat.{ℕ, zero, suc, ◌+◌, ◌-◌, ◌≤◌, ◌<◌}
use native.Mathlib.Omega.{arith}
use native.Mathlib.Numerals.{add-one}
use native.Mathlib.Nat.{not-suc-le-zero}
use native.Mathlib.Decide.{dec_lt}
use lib.ListN.{length, get_or, set, take, drop, replicate, length-append, length-map, length-replicate, get_or-replicate, get_or-append, get_or-map, get_or-eq_default}
use lib.Seq.{set_at, get_or-append-add, take-suc, drop-cons, length-take-le, get_or-take}
use Rattle.laws.specs.Lists.{when◌then◌else◌, every, any, sift, all}
use Rattle.laws.proofs.Tests.{and_true, and_true_left, and_true_right, or_true_left, or_true_right}

-- an array of n entries that has been filled from its start: the rest holds d
abbrev pub filled : {A : Type 0} → ℕ → A → List A → List A
filled n d l = l ++ replicate (n - length l) d

module _ {A : Type 0} (n : ℕ) (d : A) where
  pub filled_length : (l : List A) → length l ≤ n → length (filled n d l) ≡ n
  filled_length l h = length-append l _ ∙ (let e = length-replicate (n - length l) d in omega arith)

  -- what is read from it
  pub filled_at : (l : List A) (i : ℕ) → get_or (filled n d l) i d ≡ get_or l i d
  filled_at l i = elim (dec_lt i (length l)) [
    | yes h ↦ get_or-append l (replicate (n - length l) d) d i h
    | no h ↦
        ap (λ (k : ℕ). get_or (filled n d l) k d) (omega arith) ∙ get_or-append-add l (replicate (n - length l) d) (i - length l) d ∙ past (n - length l) (i - length l)
        ∙ sym (get_or-eq_default l d (omega arith))
  ]
    where
      past : (m k : ℕ) → get_or (replicate m d) k d ≡ d
      past m k = elim (dec_lt k m) [
        | yes h ↦ get_or-replicate m k d d h
        | no h ↦ get_or-eq_default (replicate m d) d (let e = length-replicate m d in omega arith)
      ]

  -- the next entry is stored
  pub filled_more : (l : List A) (v : A) (i : ℕ) → length l ≡ i → i < n → set (filled n d l) i v ≡ filled n d (l ++ (v ∷ []))
  filled_more l v i e h =
      let left : n - length l - 1 ≡ n - length (l ++ (v ∷ [])) = let s = length-append l (v ∷ []) in omega arith in
      ap (λ (r : List A). set (l ++ r) i v) (room (n - length l) (omega arith)) ∙ set_at l d (replicate (n - length l - 1) d) v i e
      ∙ sym (append_assoc l (v ∷ []) (replicate (n - length l - 1) d))
      ∙ ap (λ (k : ℕ). (l ++ (v ∷ [])) ++ replicate k d) left
    where
      room : (m : ℕ) → 0 < m → replicate m d ≡ d ∷ replicate (m - 1) d
      room zero k = absurd (not-suc-le-zero k)
      room (suc m) k = let e : m ≡ suc m - 1 = omega arith in ap (λ (j : ℕ). d ∷ replicate j d) e

-- what each element of a list gives, seen with the elements before it
unfoldable pub walk : {A B : Type 0} → (List A → A → List B) → List A → List A → List B
walk f before [] = []
walk f before (x ∷ l) = f before x ++ walk f (before ++ (x ∷ [])) l

pub walk_append : {A B : Type 0} (f : List A → A → List B) (before l m : List A)
    → walk f before (l ++ m) ≡ walk f before l ++ walk f (before ++ l) m
unfolding walk
walk_append f before [] m = ap (λ (p : List _). walk f p m) (sym (append-nil before))
walk_append f before (x ∷ l) m =
    ap (λ (r : List _). f before x ++ r)
    (walk_append f (before ++ (x ∷ [])) l m ∙ ap (λ (p : List _). walk f (before ++ (x ∷ [])) l ++ walk f p m) (append_assoc before (x ∷ []) l))
    ∙ sym (append_assoc (f before x) (walk f (before ++ (x ∷ [])) l) (walk f (before ++ (x ∷ l)) m))

pub walk_one : {A B : Type 0} (f : List A → A → List B) (before : List A) (x : A) → walk f before (x ∷ []) ≡ f before x
unfolding walk
walk_one f before x = append-nil (f before x)

module _ {A B : Type 0} (f : List A → A → List B) (l : List A) (i : ℕ) (d : A) (h : i < length l) where
  -- one element more
  pub walk_more : walk f [] (take (i + 1) l) ≡ walk f [] (take i l) ++ f (take i l) (get_or l i d)
  walk_more =
      ap (λ (k : ℕ). walk f [] (take k l)) (add-one i) ∙ ap (walk f []) (take-suc l i d h) ∙ walk_append f [] (take i l) (get_or l i d ∷ [])
      ∙ ap (λ (r : List B). walk f [] (take i l) ++ r) (walk_one f (take i l) (get_or l i d))

-- a search among the first elements
module _ {A : Type 0} (p : A → Bool) where
  pub any_append : (l m : List A) → any p (l ++ m) ≡ any p l || any p m
  unfolding any
  any_append [] m = refl
  any_append (a ∷ l) m = by_test (p a) (any_append l m)
    where
      by_test : (b : Bool) → any p (l ++ m) ≡ any p l || any p m → b || any p (l ++ m) ≡ (b || any p l) || any p m
      by_test true e = refl
      by_test false e = e

  pub every_append : (l m : List A) → every p (l ++ m) ≡ every p l && every p m
  unfolding every
  every_append [] m = refl
  every_append (a ∷ l) m = by_test (p a) (every_append l m)
    where
      by_test : (b : Bool) → every p (l ++ m) ≡ every p l && every p m → b && every p (l ++ m) ≡ (b && every p l) && every p m
      by_test true e = e
      by_test false e = refl

  -- every element of both parts passes
  pub every_split : (l m : List A) → every p (l ++ m) ≡ true → (every p l ≡ true) × (every p m ≡ true)
  every_split l m e =
      let f = sym (every_append l m) ∙ e in (and_true_left (every p l) (every p m) f, and_true_right (every p l) (every p m) f)

  pub every_sift : (q : A → Bool) (l : List A) → every p l ≡ true → every p (sift q l) ≡ true
  unfolding every sift
  every_sift q [] e = refl
  every_sift q (a ∷ l) e = by_test (q a) (every_sift q l (and_true_right (p a) (every p l) e))
    where
      by_test : (b : Bool) → every p (sift q l) ≡ true → every p (when b then a ∷ sift q l else sift q l) ≡ true
      by_test true f = rw (and_true_left (p a) (every p l) e) f
      by_test false f = f

  -- tests that agree where a third passes
  pub every_same : (q r : A → Bool) (l : List A) → every r l ≡ true → ((a : A) → r a ≡ true → p a ≡ q a) → every p l ≡ every q l
  unfolding every
  every_same q r [] e f = refl
  every_same q r (a ∷ l) e f =
      ap₂ (λ (s t : Bool). s && t) (f a (and_true_left (r a) (every r l) e)) (every_same q r l (and_true_right (r a) (every r l) e) f)

  module _ (d : A) where
    pub every_at : (l : List A) → ((i : ℕ) → i < length l → p (get_or l i d) ≡ true) → every p l ≡ true
    unfolding every
    every_at [] h = refl
    every_at (a ∷ l) h = and_true (p a) (every p l) (h 0 (omega arith)) (every_at l (λ i k. h (suc i) (omega arith)))

    -- one element more of a search from the start
    pub any_more : (l : List A) (i : ℕ) → i < length l → any p (take (i + 1) l) ≡ any p (take i l) || p (get_or l i d)
    unfolding any
    any_more l i h =
        ap (λ (k : ℕ). any p (take k l)) (add-one i) ∙ ap (any p) (take-suc l i d h) ∙ any_append (take i l) (get_or l i d ∷ [])
        ∙ ap (λ (b : Bool). any p (take i l) || b) (last (p (get_or l i d)))
      where
        last : (b : Bool) → b || false ≡ b
        last true = refl
        last false = refl

    pub any_found : (l : List A) (i : ℕ) → i < length l → p (get_or l i d) ≡ true → any p l ≡ true
    unfolding any
    any_found [] i h e = absurd (not-suc-le-zero h)
    any_found (a ∷ l) zero h e = or_true_left (p a) (any p l) e
    any_found (a ∷ l) (suc i) h e = or_true_right (p a) (any p l) (any_found l i (omega arith) e)

    pub any_none : (l : List A) → ((i : ℕ) → i < length l → p (get_or l i d) ≡ false) → any p l ≡ false
    unfolding any
    any_none [] h = refl
    any_none (a ∷ l) h = rw (h 0 (omega arith)) (any_none l (λ i k. h (suc i) (omega arith)))

    -- of a search to the end
    pub any_rest : (l : List A) (i : ℕ) → i < length l → any p (drop i l) ≡ p (get_or l i d) || any p (drop (i + 1) l)
    unfolding any
    any_rest l i h = ap (any p) (drop-cons l i d h) ∙ ap (λ (k : ℕ). p (get_or l i d) || any p (drop k l)) (sym (add-one i))

pub take_map : {A B : Type 0} (f : A → B) (i : ℕ) (l : List A) → take i (map f l) ≡ map f (take i l)
take_map f zero l = refl
take_map f (suc i) [] = refl
take_map f (suc i) (a ∷ l) = ap (λ (r : List _). f a ∷ r) (take_map f i l)

-- within the list the default is not read
pub get_d_any : {A : Type 0} (l : List A) (j : ℕ) (d e : A) → j < length l → get_or l j d ≡ get_or l j e
get_d_any [] j d e h = absurd (not-suc-le-zero h)
get_d_any (a ∷ l) zero d e h = refl
get_d_any (a ∷ l) (suc j) d e h = get_d_any l j d e (omega arith)

-- an array that has been filled with what the first i elements of a list give
module _ {A B : Type 0} (n : ℕ) (d : B) (f : A → B) (l : List A) (i : ℕ) where
  abbrev pub filled_to : List B
  filled_to = filled n d (map f (take i l))

  pub filled_to_length : i ≤ length l → length (map f (take i l)) ≡ i
  filled_to_length h = length-map (take i l) f ∙ length-take-le i l h

  -- what is read below i, whatever the default
  pub filled_to_at : (x : A) (e : B) (j : ℕ) → j < i → i ≤ length l → get_or filled_to j e ≡ f (get_or l j x)
  filled_to_at x e j h k =
      let s = filled_to_length k in
      get_or-append (map f (take i l)) (replicate (n - length (map f (take i l))) d) e j (omega arith)
      ∙ get_d_any (map f (take i l)) j e (f x) (omega arith) ∙ get_or-map f (take i l) j x ∙ ap f (get_or-take i l j x h)

  -- the next entry is stored
  pub filled_to_more : (x : A) (v : B) → i < length l → i < n → v ≡ f (get_or l i x) → set filled_to i v ≡ filled n d (map f (take (i + 1) l))
  filled_to_more x v h k e =
      filled_more n d (map f (take i l)) v i (filled_to_length (omega arith)) k
      ∙ ap (filled n d)
      (ap (λ (w : B). map f (take i l) ++ (w ∷ [])) e ∙ sym (map-append f (take i l) (get_or l i x ∷ [])) ∙ ap (map f) (sym (take-suc l i x h) ∙ ap (λ (k : ℕ). take k l) (sym (add-one i))))

-- tests that agree below n
pub all_same : (p q : ℕ → Bool) (n : ℕ) → ((c : ℕ) → c < n → p c ≡ q c) → all p n ≡ all q n
unfolding all
all_same p q zero f = refl
all_same p q (suc n) f = ap₂ (λ (s t : Bool). s && t) (all_same p q n (λ c h. f c (omega arith))) (f n (omega arith))
