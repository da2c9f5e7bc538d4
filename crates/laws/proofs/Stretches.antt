-- Lists made of blocks of one length, one behind the other: reading a block and writing one. Lists filled up with one element to a length.
use mathlib.Core.Path.{◌≡◌, refl, ap, ap₂, sym, ◌∙◌}
use mathlib.Core.List.{List, [], ◌∷◌, ◌++◌, flatten, append_assoc, append-nil}
use Prim.Native.Nat.{ℕ, zero, suc, ◌+◌, ◌-◌, ◌*◌, ◌≤◌, ◌<◌}
use native.Mathlib.Omega.{arith}
use native.Mathlib.Numerals.{add-one}
use native.Mathlib.Nat.{not-suc-le-zero, le_of_suc-le-suc, mul-zero, mul-suc}
use lib.ListN.{length, take, drop, get_or, set, replicate, length-append, length-set, length-drop, length-replicate, replicate-append-replicate, take-append-drop, drop_of_length-le, get_or-append}
use lib.Seq.{paste, take_all, take_at, drop_at, take-suc, take-append-add, drop-append-add, drop-drop, drop-cons, drop-length, length-take-le, get_or-take, set_split, set_at, set-append_left}
use borrow.Rule.Slice.PartMut.{mid_of, put_mid}
use Rattle.laws.proofs.EachMember.{Each}

pub flatten_append : {A : Type 0} (a b : List (List A)) → flatten (a ++ b) ≡ flatten a ++ flatten b
unfolding flatten
flatten_append [] b = refl
flatten_append (x ∷ a) b = ap (λ l. x ++ l) (flatten_append a b) ∙ sym (append_assoc x (flatten a) (flatten b))

-- blocks of k elements each
abbrev pub Blocks : {A : Type 0} → ℕ → List (List A) → Type 0
Blocks k bs = Each (λ b. length b ≡ k) bs

module _ {A : Type 0} (k : ℕ) where
  -- one block more
  one_more : (b : List A) (i : ℕ) → length b ≡ k → k * suc i ≡ length b + k * i
  one_more b i h = mul-suc k i ∙ omega arith

  pub length_blocks : (bs : List (List A)) → Blocks k bs → length (flatten bs) ≡ k * length bs
  unfolding flatten
  length_blocks [] h = sym (mul-zero k)
  length_blocks (b ∷ bs) (h, hs) = length-append b (flatten bs) ∙ ap (λ n. length b + n) (length_blocks bs hs) ∙ sym (one_more b (length bs) h)

  -- what stands before block i, and what from it on
  take_blocks : (bs : List (List A)) (t : List A) (i : ℕ) → Blocks k bs → i ≤ length bs → take (k * i) (flatten bs ++ t) ≡ flatten (take i bs)
  unfolding flatten
  take_blocks bs t zero h l = rw (mul-zero k)
  take_blocks [] t (suc i) h l = absurd (not-suc-le-zero l)
  take_blocks (b ∷ bs) t (suc i) (h, hs) l =
      ap₂ take (one_more b i h) (append_assoc b (flatten bs) t) ∙ take-append-add b (flatten bs ++ t) (k * i)
      ∙ ap (λ l. b ++ l) (take_blocks bs t i hs (le_of_suc-le-suc l))

  drop_blocks : (bs : List (List A)) (t : List A) (i : ℕ) → Blocks k bs → i ≤ length bs → drop (k * i) (flatten bs ++ t) ≡ flatten (drop i bs) ++ t
  unfolding flatten
  drop_blocks bs t zero h l = rw (mul-zero k)
  drop_blocks [] t (suc i) h l = absurd (not-suc-le-zero l)
  drop_blocks (b ∷ bs) t (suc i) (h, hs) l =
      ap₂ drop (one_more b i h) (append_assoc b (flatten bs) t) ∙ drop-append-add b (flatten bs ++ t) (k * i)
      ∙ drop_blocks bs t i hs (le_of_suc-le-suc l)

  block_length : (bs : List (List A)) (i : ℕ) → Blocks k bs → i < length bs → length (get_or bs i []) ≡ k
  block_length [] i h l = absurd (not-suc-le-zero l)
  block_length (b ∷ bs) zero (h, hs) l = h
  block_length (b ∷ bs) (suc i) (h, hs) l = block_length bs i hs (le_of_suc-le-suc l)

  module _ (bs : List (List A)) (t : List A) (i : ℕ) (size : Blocks k bs) (there : i < length bs) where
    from_block : drop (k * i) (flatten bs ++ t) ≡ get_or bs i [] ++ (flatten (drop (suc i) bs) ++ t)
    unfolding flatten
    from_block =
        drop_blocks bs t i size (omega arith) ∙ ap (λ l. flatten l ++ t) (drop-cons bs i [] there)
        ∙ append_assoc (get_or bs i []) (flatten (drop (suc i) bs)) t

    -- block i
    pub block_at : mid_of (k * i) k (flatten bs ++ t) ≡ get_or bs i []
    block_at = ap (take k) from_block ∙ take_at (get_or bs i []) (flatten (drop (suc i) bs) ++ t) k (block_length bs i size there)

    -- another block in its place
    pub block_put : (b : List A) → put_mid (k * i) k (flatten bs ++ t) b ≡ flatten (set bs i b) ++ t
    unfolding flatten
    block_put b =
        ap₂ (λ u v. u ++ (b ++ v)) (take_blocks bs t i size (omega arith))
        (ap (drop k) from_block ∙ drop_at (get_or bs i []) (flatten (drop (suc i) bs) ++ t) k (block_length bs i size there))
        ∙ ap (λ l. flatten (take i bs) ++ l) (sym (append_assoc b (flatten (drop (suc i) bs)) t))
        ∙ sym (append_assoc (flatten (take i bs)) (flatten (b ∷ drop (suc i) bs)) t)
        ∙ ap (λ l. l ++ t) (sym (flatten_append (take i bs) (b ∷ drop (suc i) bs)) ∙ ap flatten (sym (set_split bs i b there)))

-- a part behind a front
module _ {A : Type 0} (p xs : List A) (a k : ℕ) where
  pub mid_behind : mid_of (length p + a) k (p ++ xs) ≡ mid_of a k xs
  mid_behind = ap (take k) (drop-append-add p xs a)

  pub put_behind : (ys : List A) → put_mid (length p + a) k (p ++ xs) ys ≡ p ++ put_mid a k xs ys
  put_behind ys =
      ap₂ (λ u v. u ++ (ys ++ v)) (take-append-add p xs a) (ap (drop k) (drop-append-add p xs a))
      ∙ append_assoc p (take a xs) (ys ++ drop k (drop a xs))

-- a copied part
pub paste_put : {A : Type 0} (d : List A) (a : ℕ) (s : List A) (n : ℕ) → length s ≡ n → paste d a s n ≡ put_mid a n d s
paste_put d a s n e =
    ap₂ (λ u v. take a d ++ u ++ v) (take_all n s (omega arith)) (sym (drop-drop n a d)) ∙ append_assoc (take a d) s (drop n (drop a d))

-- a list filled up with z to L elements
abbrev pub padded : {A : Type 0} → A → ℕ → List A → List A
padded z L xs = xs ++ replicate (L - length xs) z

module _ {A : Type 0} (z : A) (L : ℕ) (xs : List A) where
  pub length_padded : length xs ≤ L → length (padded z L xs) ≡ L
  length_padded h = length-append xs (replicate (L - length xs) z) ∙ omega (arith, length-replicate (L - length xs) z)

  pub padded_at : (i : ℕ) (d : A) → i < length xs → get_or (padded z L xs) i d ≡ get_or xs i d
  padded_at i d h = get_or-append xs (replicate (L - length xs) z) d i h

  pub padded_set : (i : ℕ) (x : A) → i < length xs → set (padded z L xs) i x ≡ padded z L (set xs i x)
  padded_set i x h = set-append_left xs (replicate (L - length xs) z) i x h ∙ ap (λ n. set xs i x ++ replicate (L - n) z) (sym (length-set xs i x))

  -- the first place that is free
  pub padded_more : (x : A) → length xs < L → set (padded z L xs) (length xs) x ≡ padded z L (xs ++ (x ∷ []))
  padded_more x h =
      let e : L - length xs ≡ suc (L - suc (length xs)) = omega arith in
      let n : suc (length xs) ≡ length (xs ++ (x ∷ [])) = omega (arith, length-append xs (x ∷ [])) in
      ap (λ n. set (xs ++ replicate n z) (length xs) x) e ∙ set_at xs z (replicate (L - suc (length xs)) z) x (length xs) refl
      ∙ sym (append_assoc xs (x ∷ []) (replicate (L - suc (length xs)) z)) ∙ ap (λ n. (xs ++ (x ∷ [])) ++ replicate (L - n) z) n

  -- more of what it is filled up with
  pub padded_blanks : (j : ℕ) → length xs + j ≤ L → padded z L (xs ++ replicate j z) ≡ padded z L xs
  padded_blanks j h =
      let n : length (xs ++ replicate j z) ≡ length xs + j = length-append xs (replicate j z) ∙ ap (λ n. length xs + n) (length-replicate j z) in
      let e : j + (L - length (xs ++ replicate j z)) ≡ L - length xs = omega arith in
      append_assoc xs (replicate j z) (replicate (L - length (xs ++ replicate j z)) z)
      ∙ ap (λ l. xs ++ l) (replicate-append-replicate j (L - length (xs ++ replicate j z)) z ∙ ap (λ n. replicate n z) e)

-- element k in place of the one behind it, downwards from the last: what stands from k on has moved up
module _ {A : Type 0} (xs : List A) (d : A) where
  abbrev pub moved : ℕ → ℕ → List A
  moved last k = take (k + 1) xs ++ drop k (take last xs)

  pub length_moved : (last k : ℕ) → k ≤ last → last < length xs → length (moved last k) ≡ last + 1
  length_moved last k h l =
      length-append (take (k + 1) xs) (drop k (take last xs))
      ∙ omega (arith, length-take-le (k + 1) xs (omega arith), length-drop k (take last xs), length-take-le last xs (omega arith))

  pub moved_none : (last : ℕ) → last < length xs → moved last last ≡ take (last + 1) xs
  moved_none last h =
      ap (λ l. take (last + 1) xs ++ l) (drop_of_length-le (take last xs) {i = last} (omega (arith, length-take-le last xs (omega arith))))
      ∙ append-nil (take (last + 1) xs)

  -- the first elements up to k, and the one at k
  moved_at_lem : (last k : ℕ) → k < length xs → moved last k ≡ take k xs ++ (get_or xs k d ∷ drop k (take last xs))
  moved_at_lem last k h =
      ap (λ n. take n xs ++ drop k (take last xs)) (add-one k) ∙ ap (λ l. l ++ drop k (take last xs)) (take-suc xs k d h)
      ∙ append_assoc (take k xs) (get_or xs k d ∷ []) (drop k (take last xs))

  pub moved_set : (last k : ℕ) (x : A) → k < length xs → set (moved last k) k x ≡ take k xs ++ (x ∷ drop k (take last xs))
  moved_set last k x h =
      ap (λ l. set l k x) (moved_at_lem last k h) ∙ set_at (take k xs) (get_or xs k d) (drop k (take last xs)) x k (length-take-le k xs (omega arith))

  pub moved_turn : (last k : ℕ) → 0 < k → k ≤ last → last < length xs → set (moved last k) k (get_or (moved last k) (k - 1) d) ≡ moved last (k - 1)
  moved_turn last k p h l =
      let e : k - 1 + 1 ≡ k = omega arith in
      let i : k - 1 < length (take (k + 1) xs) = omega (arith, length-take-le (k + 1) xs (omega arith)) in
      let v : get_or (moved last k) (k - 1) d ≡ get_or (take last xs) (k - 1) d =
      get_or-append (take (k + 1) xs) (drop k (take last xs)) d (k - 1) i ∙ get_or-take (k + 1) xs (k - 1) d (omega arith)
      ∙ sym (get_or-take last xs (k - 1) d (omega arith)) in
      moved_set last k _ (omega arith) ∙ ap (λ v. take k xs ++ (v ∷ drop k (take last xs))) v
      ∙ ap (λ n. take n xs ++ (get_or (take last xs) (k - 1) d ∷ drop n (take last xs))) (sym e)
      ∙ ap (λ n. take (k - 1 + 1) xs ++ (get_or (take last xs) (k - 1) d ∷ drop n (take last xs))) (add-one (k - 1))
      ∙ ap (λ l. take (k - 1 + 1) xs ++ l) (sym (drop-cons (take last xs) (k - 1) d (omega (arith, length-take-le last xs (omega arith)))))

-- the elements from n up to i wiped with z
module _ {A : Type 0} (z : A) (xs : List A) (n : ℕ) where
  abbrev pub wiped : ℕ → List A
  wiped i = take n xs ++ (replicate (i - n) z ++ drop i xs)

  pub length_wiped : (i : ℕ) → n ≤ i → i ≤ length xs → length (wiped i) ≡ length xs
  length_wiped i h l =
      length-append (take n xs) (replicate (i - n) z ++ drop i xs) ∙ ap (λ k. length (take n xs) + k) (length-append (replicate (i - n) z) (drop i xs))
      ∙ omega (arith, length-take-le n xs (omega arith), length-replicate (i - n) z, length-drop i xs)

  pub wiped_none : wiped n ≡ xs
  wiped_none = let e : n - n ≡ 0 = omega arith in ap (λ k. take n xs ++ (replicate k z ++ drop n xs)) e ∙ take-append-drop n xs

  pub wiped_turn : (i : ℕ) → n ≤ i → i < length xs → set (wiped i) i z ≡ wiped (i + 1)
  wiped_turn i h l =
      let front : List A = take n xs ++ replicate (i - n) z in
      let size : length front ≡ i = length-append (take n xs) (replicate (i - n) z) ∙ omega (arith, length-take-le n xs (omega arith), length-replicate (i - n) z) in
      let e : i - n + 1 ≡ i + 1 - n = omega arith in
      ap (λ l. set l i z) (sym (append_assoc (take n xs) (replicate (i - n) z) (drop i xs)) ∙ ap (λ l. front ++ l) (drop-cons xs i z l))
      ∙ set_at front (get_or xs i z) (drop (suc i) xs) z i size
      ∙ append_assoc (take n xs) (replicate (i - n) z) (z ∷ drop (suc i) xs)
      ∙ ap (λ l. take n xs ++ l) (sym (append_assoc (replicate (i - n) z) (z ∷ []) (drop (suc i) xs)))
      ∙ ap₂ (λ l k. take n xs ++ (l ++ drop k xs)) (replicate-append-replicate (i - n) 1 z ∙ ap (λ k. replicate k z) e) (sym (add-one i))

  pub wiped_all : wiped (length xs) ≡ take n xs ++ replicate (length xs - n) z
  wiped_all = ap (λ l. take n xs ++ (replicate (length xs - n) z ++ l)) (drop-length xs) ∙ ap (λ l. take n xs ++ l) (append-nil (replicate (length xs - n) z))
