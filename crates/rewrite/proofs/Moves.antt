-- The moves of lines, write by write.
use mathlib.Core.Path.{◌≡◌, ap, ap₂, sym, ◌∙◌}
use mathlib.Core.List.{List, [], ◌∷◌, ◌++◌, map, append_assoc}
use Prim.Native.Nat.{ℕ, ◌+◌, ◌-◌, ◌≤◌, ◌<◌}
use native.Mathlib.Omega.{arith}
use lib.ListN.{length, take, drop, set, length-append, length-drop, length-map, take-append-drop}
use lib.Seq.{paste, drop_at, length-take-le}
use Rattle.laws.proofs.Passes.{take_map}
use Rattle.rewrite.proofs.Splices.{write_some, write_one}
use Rattle.rewrite.specs.Splices.{exchanged, inserted}

-- nothing is written at first
nothing : {A : Type 0} (at : ℕ) (l : List A) → l ≡ take at l ++ drop at l
nothing at l = sym (take-append-drop at l)

part_length : {A : Type 0} (k n : ℕ) (l : List A) → n + k ≤ length l → length (take k (drop n l)) ≡ k
part_length k n l h = length-take-le k (drop n l) (omega (arith, length-drop n l))

pub exchange_writes : {A : Type 0} (a b c : ℕ) (l : List A) → a ≤ b → b ≤ c → c ≤ length l
    → paste (paste l a (drop b l) (c - b)) (a + (c - b)) (drop a l) (b - a) ≡ exchanged a b c l
exchange_writes {A} a b c l h i j =
    let p = take a l in
    let x = take (c - b) (drop b l) in
    let y = take (b - a) (drop a l) in
    let first : paste l a (drop b l) (c - b) ≡ (p ++ x) ++ drop (a + (c - b)) l =
    ap (λ (m : List A). paste m a (drop b l) (c - b)) (nothing a l) ∙ write_some p l (drop b l) a (c - b) (length-take-le a l (omega arith)) in
    let long : length (p ++ x) ≡ a + (c - b) =
    length-append p x ∙ ap₂ ◌+◌ (length-take-le a l (omega arith)) (part_length (c - b) b l (omega arith)) in
    let end : a + (c - b) + (b - a) ≡ c = omega arith in
    ap (λ (m : List A). paste m (a + (c - b)) (drop a l) (b - a)) first ∙ write_some (p ++ x) l (drop a l) (a + (c - b)) (b - a) long
    ∙ ap (λ (n : ℕ). ((p ++ x) ++ y) ++ drop n l) end ∙ append_assoc (p ++ x) y (drop c l) ∙ append_assoc p x (y ++ drop c l)

-- the line first, then those from its place on
pub insert_writes : {A : Type 0} (a n : ℕ) (x : A) (l : List A) → a ≤ n → n < length l → paste (set l a x) (a + 1) (drop a l) (n - a) ≡ inserted a n x l
insert_writes {A} a n x l h i =
    let p = take a l in
    let q = p ++ (x ∷ []) in
    let y = take (n - a) (drop a l) in
    let np : length p ≡ a = length-take-le a l (omega arith) in
    let first : set l a x ≡ q ++ drop (a + 1) l = ap (λ (m : List A). set m a x) (nothing a l) ∙ write_one p l x a np (omega arith) in
    let long : length q ≡ a + 1 = length-append p _ ∙ ap (λ (k : ℕ). k + 1) np in
    let end : a + 1 + (n - a) ≡ n + 1 = omega arith in
    ap (λ (m : List A). paste m (a + 1) (drop a l) (n - a)) first ∙ write_some q l (drop a l) (a + 1) (n - a) long
    ∙ ap (λ (k : ℕ). (q ++ y) ++ drop k l) end ∙ append_assoc q y (drop (n + 1) l) ∙ append_assoc p (x ∷ []) (y ++ drop (n + 1) l)

-- rule 6, from the left step's first line on; f renames a line
module _ {A : Type 0} (f : A → A) (join union fix : A) (s i m j : ℕ) (l : List A) (h₁ : s ≤ i) (h₂ : i < m) (h₃ : m < j) (h₄ : j < length l) where
  abbrev n : ℕ
  n = m - (i + 1)

  abbrev seeded : List A
  seeded = paste l s (drop (i + 1) l) n

  abbrev joined : List A
  joined = set seeded (s + n) join

  abbrev stepped : List A
  stepped = paste joined (s + n + 1) (drop s l) (i - s)

  abbrev renamed : List A
  renamed = paste stepped m (map f (drop m stepped)) (j - 1 - m)

  -- what has been written before each of them
  abbrev p₁ : List A
  p₁ = take s l ++ take n (drop (i + 1) l)

  abbrev p₂ : List A
  p₂ = p₁ ++ (join ∷ [])

  abbrev p₃ : List A
  p₃ = p₂ ++ take (i - s) (drop s l)

  abbrev p₄ : List A
  p₄ = p₃ ++ map f (take (j - 1 - m) (drop m l))

  abbrev p₅ : List A
  p₅ = p₄ ++ (union ∷ [])

  long₁ : length p₁ ≡ s + n
  long₁ = length-append (take s l) _ ∙ ap₂ ◌+◌ (length-take-le s l (omega arith)) (part_length n (i + 1) l (omega arith))

  long₂ : length p₂ ≡ s + n + 1
  long₂ = length-append p₁ _ ∙ ap (λ (k : ℕ). k + 1) long₁

  long₃ : length p₃ ≡ m
  long₃ = length-append p₂ _ ∙ ap₂ ◌+◌ long₂ (part_length (i - s) s l (omega arith)) ∙ omega arith

  long₄ : length p₄ ≡ j - 1
  long₄ =
      length-append p₃ _ ∙ ap₂ ◌+◌ long₃ (length-map (take (j - 1 - m) (drop m l)) f ∙ part_length (j - 1 - m) m l (omega arith)) ∙ omega arith

  long₅ : length p₅ ≡ j
  long₅ = length-append p₄ _ ∙ ap (λ (k : ℕ). k + 1) long₄ ∙ omega arith

  seeded_is : seeded ≡ p₁ ++ drop (s + n) l
  seeded_is = ap (λ (r : List A). paste r s (drop (i + 1) l) n) (nothing s l) ∙ write_some (take s l) l (drop (i + 1) l) s n (length-take-le s l (omega arith))

  joined_is : joined ≡ p₂ ++ drop (s + n + 1) l
  joined_is = ap (λ (r : List A). set r (s + n) join) seeded_is ∙ write_one p₁ l join (s + n) long₁ (omega arith)

  stepped_is : stepped ≡ p₃ ++ drop m l
  stepped_is =
      let e : s + n + 1 + (i - s) ≡ m = omega arith in
      ap (λ (r : List A). paste r (s + n + 1) (drop s l) (i - s)) joined_is ∙ write_some p₂ l (drop s l) (s + n + 1) (i - s) long₂
      ∙ ap (λ (k : ℕ). p₃ ++ drop k l) e

  renamed_is : renamed ≡ p₄ ++ drop (j - 1) l
  renamed_is =
      let e : m + (j - 1 - m) ≡ j - 1 = omega arith in
      ap (λ (r : List A). paste r m (map f (drop m r)) (j - 1 - m)) stepped_is
      ∙ ap (λ (r : List A). paste (p₃ ++ drop m l) m (map f r) (j - 1 - m)) (drop_at p₃ (drop m l) m long₃)
      ∙ write_some p₃ l (map f (drop m l)) m (j - 1 - m) long₃
      ∙ ap₂ (λ (r : List A) (k : ℕ). (p₃ ++ r) ++ drop k l) (take_map f (j - 1 - m) (drop m l)) e

  pub merge_writes : set (set renamed (j - 1) union) j fix
      ≡ take s l
      ++ (take n (drop (i + 1) l)
      ++ (join ∷ (take (i - s) (drop s l) ++ (map f (take (j - 1 - m) (drop m l)) ++ (union ∷ (fix ∷ drop (j + 1) l))))))
  merge_writes =
      let e : j - 1 + 1 ≡ j = omega arith in
      ap (λ (r : List A). set (set r (j - 1) union) j fix) renamed_is
      ∙ ap (λ (r : List A). set r j fix) (write_one p₄ l union (j - 1) long₄ (omega arith) ∙ ap (λ (k : ℕ). p₅ ++ drop k l) e)
      ∙ write_one p₅ l fix j long₅ h₄
      ∙ simp append_assoc
