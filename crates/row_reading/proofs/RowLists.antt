-- Columns and rows read from arrays of numbers.
use mathlib.Core.Path.{◌≡◌, refl, ap, sym, ◌∙◌}
use mathlib.Core.Bool.{Bool, true, false, ◌&&◌, ◌||◌, and-false}
use Rattle.std.specs.Prelude.{Option, Some, None}
use mathlib.Core.List.{List, [], ◌∷◌}
use Prim.Native.Nat.{ℕ, ◌+◌, ◌≤◌, ◌<◌}
use native.Mathlib.Omega.{arith}
use lib.Dec.{leb, ltb}
use lib.ListN.{length, drop, get_or, set, length-take, drop_of_length-le}
use lib.Seq.{get_or-take}
use borrow.Author.Tests.{le-leb, lt-leb, leb-true, leb-false, lt-ltb, le-ltb, ltb-true, ltb-false, eq-eqb, ne_eqb}
use Rattle.laws.specs.Lists.{when◌then◌else◌, every, any, member}
use Rattle.laws.proofs.Tests.{and_true_left, and_true_right}
use Rattle.laws.proofs.Fronts.{drop_next}
use Rattle.row_reading.specs.declared.list_reader.Numbers.{Numbers}
use Rattle.text.specs.Lines.{ascending, in_range, filled}
use Rattle.row_reading.specs.NumberArrays.{listed, few}

-- the numbers of an array from an index on
module _ (ns : Numbers) (k : ℕ) where
  pub listed_next : ns.count ≤ length ns.values → k < ns.count → (n : ℕ) → n ≡ get_or ns.values k 0 → n ∷ drop (k + 1) (listed ns) ≡ drop k (listed ns)
  listed_next h i n e =
      sym
      (drop_next (listed ns) k 0 (omega (arith, length-take ns.count ns.values))
      ∙ ap (λ n. n ∷ drop (k + 1) (listed ns)) (get_or-take ns.count ns.values k 0 i ∙ sym e))

  pub listed_end : ns.count ≤ k → drop k (listed ns) ≡ []
  listed_end h = drop_of_length-le (listed ns) {i = k} (omega (arith, length-take ns.count ns.values))

-- numbers from low on that strictly ascend below w
unfoldable pub within : ℕ → ℕ → List ℕ → Bool
within w low [] = true
within w low (c ∷ l) = leb low c && (ltb c w && within w (c + 1) l)

module _ (w low c : ℕ) (l : List ℕ) where
  pub within_more : low ≤ c → c < w → within w low (c ∷ l) ≡ within w (c + 1) l
  unfolding within
  within_more h k = rw (le-leb low c h, lt-ltb c w k)

  pub within_low : c < low → within w low (c ∷ l) ≡ false
  unfolding within
  within_low h = rw (lt-leb low c h)

  pub within_high : w ≤ c → within w low (c ∷ l) ≡ false
  unfolding within
  within_high h = rw (le-ltb c w h) (and-false (leb low c))

pub within_none : (w low : ℕ) → within w low [] ≡ true
unfolding within
within_none w low = refl

-- such numbers, from 0 on, are strictly ascending columns
next_leb : (c d : ℕ) → leb (c + 1) d ≡ ltb c d
next_leb c d = by_test (ltb c d) refl
  where
    by_test : (t : Bool) → ltb c d ≡ t → leb (c + 1) d ≡ t
    by_test true e = le-leb (c + 1) d (omega (arith, ltb-true c d e))
    by_test false e = lt-leb (c + 1) d (omega (arith, ltb-false c d e))

within_from : (w low c : ℕ) (l : List ℕ)
    → within w low (c ∷ l) ≡ leb low c && (ascending (c ∷ l) && every (λ c. ltb c w) (c ∷ l))
unfolding within ascending every
within_from w low c [] = refl
within_from w low c (d ∷ l) =
    ap (λ t. leb low c && (ltb c w && t)) (within_from w (c + 1) d l ∙ ap (λ t. t && (ascending (d ∷ l) && every (λ c. ltb c w) (d ∷ l))) (next_leb c d))
    ∙ ap (λ t. leb low c && t) (ordered (ltb c w) (ltb c d) (ascending (d ∷ l)) (every (λ c. ltb c w) (d ∷ l)))
  where
    ordered : (a b p q : Bool) → a && (b && (p && q)) ≡ (b && p) && (a && q)
    ordered true true p q = refl
    ordered true false p q = refl
    ordered false true p q = sym (and-false p)
    ordered false false p q = refl

pub within_columns : (w : ℕ) (l : List ℕ) → within w 0 l ≡ ascending l && every (λ c. ltb c w) l
unfolding within ascending every
within_columns w [] = refl
within_columns w (c ∷ l) = within_from w 0 c l ∙ ap (λ t. t && (ascending (c ∷ l) && every (λ c. ltb c w) (c ∷ l))) (le-leb 0 c (omega arith))

-- there are no more of them than there are columns
within_few : (w low : ℕ) (l : List ℕ) → low ≤ w → within w low l ≡ true → low + length l ≤ w
unfolding within
within_few w low [] h e = omega arith
within_few w low (c ∷ l) h e =
    let a = leb-true low c (and_true_left (leb low c) (ltb c w && within w (c + 1) l) e) in
    let f = and_true_right (leb low c) (ltb c w && within w (c + 1) l) e in
    let b = ltb-true c w (and_true_left (ltb c w) (within w (c + 1) l) f) in
    omega (arith, within_few w (c + 1) l (omega arith) (and_true_right (ltb c w) (within w (c + 1) l) f))

module _ (w : ℕ) where
  abbrev pub columns_in : List ℕ → Bool
  columns_in cs = ascending cs && every (λ c. ltb c w) cs

  pub columns_few : (l : List ℕ) → columns_in l ≡ true → length l ≤ w
  columns_few l e = omega (arith, within_few w 0 l (omega arith) (within_columns w l ∙ e))

  -- columns of a list that is short enough are the columns of any list
  pub cols_few : (o : Option (List ℕ)) → in_range columns_in (few w o) ≡ in_range columns_in o
  cols_few None = refl
  cols_few (Some l) = by_test (leb (length l) w) refl
    where
      over : (t : Bool) → columns_in l ≡ t → w < length l → None ≡ when t then Some l else None
      over true e h = let z : ⊥ = omega (arith, columns_few l e) in absurd z
      over false e h = refl

      by_test : (t : Bool) → leb (length l) w ≡ t → in_range columns_in (when t then Some l else None) ≡ in_range columns_in (Some l)
      by_test true e = refl
      by_test false e = over (columns_in l) refl (leb-false (length l) w e)

-- columns filled one by one
pub filled_more : (r : List ℕ) (c v : ℕ) (cs vs : List ℕ) → filled r (c ∷ cs) (v ∷ vs) ≡ filled (set r c v) cs vs
unfolding filled
filled_more r c v cs vs = refl

pub filled_all : (r vs : List ℕ) → filled r [] vs ≡ r
unfolding filled
filled_all r vs = refl

-- a number among others
module _ (n a : ℕ) (l : List ℕ) where
  pub member_here : n ≡ a → member n (a ∷ l) ≡ true
  unfolding any
  member_here e = ap (λ t. t || member n l) (eq-eqb n a e)

  pub member_later : (n ≡ a → ⊥) → member n (a ∷ l) ≡ member n l
  unfolding any
  member_later h = ap (λ t. t || member n l) (ne_eqb n a h)

pub member_none : (n : ℕ) → member n [] ≡ false
unfolding any
member_none n = refl
