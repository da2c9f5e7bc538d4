-- Blocks of entries written one behind the other into a lent slice, behind one entry of their count. Over any element and any block size.
use mathlib.Core.Path.{◌≡◌, ap, sym, ◌∙◌}
use mathlib.Core.List.{List, [], ◌∷◌, ◌++◌, flat_map, append_assoc}
use Prim.Native.Nat.{ℕ, zero, suc, ◌+◌, ◌*◌, ◌≤◌, ◌<◌}
use native.Mathlib.Omega.{arith}
use native.Mathlib.Nat.{mul-suc, mul-zero, mul-le-mul_left}
use lib.ListN.{length, take, drop, get_or, set, length-append, length-drop, get_or-append}
use lib.Seq.{sets, sets-eq, take-append_seam, drop-append-add, get_or-append-add, drop-drop, drop-cons, take_all, length-take-le}
use Rattle.laws.proofs.FlatMaps.{flat_map_none, flat_map_more}
use Rattle.flat.specs.Flat.{over}

module _ (xs s : List ℕ) where
  over_length : length xs ≤ length s → length (over xs s) ≡ length s
  over_length h = length-append xs (drop (length xs) s) ∙ ap (λ n. length xs + n) (length-drop (length xs) s) ∙ omega arith

  -- what is written next
  pub over_more : (vs : List ℕ) → length xs + length vs ≤ length s → sets (over xs s) (length xs) vs ≡ over (xs ++ vs) s
  over_more vs h =
      sets-eq vs (over xs s) (length xs) (let e = over_length (omega arith) in omega arith)
      ∙ ap (λ (p : List ℕ). p ++ vs ++ drop (length xs + length vs) (over xs s)) (take-append_seam xs (drop (length xs) s))
      ∙ ap (λ (r : List ℕ). xs ++ vs ++ r)
      (drop-append-add xs (drop (length xs) s) (length vs) ∙ drop-drop (length vs) (length xs) s ∙ ap (λ n. drop n s) (sym (length-append xs vs)))

module _ {A : Type 0} (f : A → List ℕ) (k : ℕ) (size : (a : A) → length (f a) ≡ k) where
  pub blocks_length : (l : List A) → length (flat_map f l) ≡ k * length l
  unfolding flat_map
  blocks_length [] = sym (mul-zero k)
  blocks_length (a ∷ l) =
      length-append (f a) (flat_map f l)
      ∙ (let e = size a in let g = blocks_length l in let m = mul-suc k (length l) in omega arith)

  -- entry j of block i
  pub blocks_at : (l : List A) (r : List ℕ) (i j : ℕ) (d : A) → i < length l → j < k → get_or (flat_map f l ++ r) (k * i + j) 0 ≡ get_or (f (get_or l i d)) j 0
  unfolding flat_map
  blocks_at [] r i j d h g = let z : ◌≡◌ {A = ℕ} 0 1 = omega arith in (cc)
  blocks_at (a ∷ l) r zero j d h g =
      ap (λ n. get_or ((f a ++ flat_map f l) ++ r) n 0) {x = k * 0 + j} {y = j} (let m = mul-zero k in omega arith)
      ∙ ap (λ (x : List ℕ). get_or x j 0) (append_assoc (f a) (flat_map f l) r) ∙ get_or-append (f a) (flat_map f l ++ r) 0 j (let z = size a in omega arith)
  blocks_at (a ∷ l) r (suc i) j d h g =
      ap (λ n. get_or ((f a ++ flat_map f l) ++ r) n 0) {x = k * suc i + j} {y = length (f a) + (k * i + j)}
      (let m = mul-suc k i in let z = size a in omega arith)
      ∙ ap (λ (x : List ℕ). get_or x (length (f a) + (k * i + j)) 0) (append_assoc (f a) (flat_map f l) r)
      ∙ get_or-append-add (f a) (flat_map f l ++ r) (k * i + j) 0 ∙ blocks_at l r i j d (omega arith) g

  module _ (l : List A) (s : List ℕ) where
    -- the blocks of the first i members are written
    abbrev pub begun : ℕ → ℕ → List ℕ
    begun x i = over (x ∷ flat_map f (take i l)) s

    begun_head : (x i : ℕ) → i ≤ length l → length (x ∷ flat_map f (take i l)) ≡ 1 + k * i
    begun_head x i h = ap suc (blocks_length (take i l) ∙ ap (λ n. k * n) (length-take-le i l h)) ∙ omega arith

    pub begun_none : 0 < length s → s ≡ begun (get_or s 0 0) 0
    begun_none h = drop-cons s 0 0 h ∙ ap (λ (b : List ℕ). get_or s 0 0 ∷ (b ++ drop (suc (length b)) s)) (sym (flat_map_none f))

    pub begun_more : (x i : ℕ) (d : A) → i < length l → 1 + k * length l ≤ length s → sets (begun x i) (1 + k * i) (f (get_or l i d)) ≡ begun x (i + 1)
    begun_more x i d h r =
        let e = begun_head x i (omega arith) in
        let m = mul-le-mul_left k h in
        let g = mul-suc k i in
        let z = size (get_or l i d) in
        ap (λ n. sets (begun x i) n (f (get_or l i d))) (sym e)
        ∙ over_more (x ∷ flat_map f (take i l)) s (f (get_or l i d)) (omega arith)
        ∙ ap (λ (b : List ℕ). over (x ∷ b) s) (flat_map_more f l i d h)

    pub begun_all : (x i n : ℕ) → i ≡ length l → set (begun x i) 0 n ≡ over (n ∷ flat_map f l) s
    begun_all x i n e = ap (λ (b : List A). over (n ∷ flat_map f b) s) (take_all i l (omega arith))
