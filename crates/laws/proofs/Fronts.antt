-- Reading a list from the front, and filling an array from the front.
use mathlib.Core.Path.{◌≡◌, refl, ap, sym, ◌∙◌}
use mathlib.Core.Bool.{Bool, true, false}
use mathlib.Core.List.{List, [], ◌∷◌, ◌++◌, map, map-append}
use Prim.Native.Nat.{ℕ, suc, ◌+◌, ◌-◌, ◌<◌, ◌≤◌}
use native.Mathlib.Omega.{arith}
use native.Mathlib.Numerals.{add-one}
use lib.ListN.{length, drop, get_or, set, replicate, length-append, length-map, drop_of_length-le}
use lib.Seq.{drop-cons, append_snoc, set_at}
use Rattle.laws.specs.Lists.{when◌then◌else◌, null}

-- the next element, and what is left behind it
pub drop_next : {A : Type 0} (l : List A) (i : ℕ) (d : A) → i < length l → drop i l ≡ get_or l i d ∷ drop (i + 1) l
drop_next l i d h = drop-cons l i d h ∙ ap (λ n. get_or l i d ∷ drop n l) (sym (add-one i))

pub if_either {ℓ} : {A : Type ℓ} (b : Bool) (a : A) → (when b then a else a) ≡ a
if_either true a = refl
if_either false a = refl

-- nothing is left, or something is
pub null_drop : {A : Type 0} (l : List A) (i : ℕ) → length l ≤ i → null (drop i l) ≡ true
null_drop l i h = ap null (drop_of_length-le l h)

pub more_drop : {A : Type 0} (l : List A) (i : ℕ) (d : A) → i < length l → null (drop i l) ≡ false
more_drop l i d h = ap null (drop_next l i d h)

-- an array of n entries, of which the first have been made from a list: one more
pub filled_more : {A B : Type 0} (f : A → B) (n : ℕ) (b : B) (l : List A) (a : A) → length l < n
    → set (map f l ++ replicate (n - length l) b) (length l) (f a) ≡ map f (l ++ (a ∷ [])) ++ replicate (n - length (l ++ (a ∷ []))) b
filled_more f n b l a h =
    let k : n - length l ≡ suc (n - (length l + 1)) = omega arith in
    let m : n - (length l + 1) ≡ n - length (l ++ (a ∷ [])) = omega (arith, length-append l (a ∷ [])) in
    ap (λ k. set (map f l ++ replicate k b) (length l) (f a)) k
    ∙ set_at (map f l) b (replicate (n - (length l + 1)) b) (f a) (length l) (length-map l f)
    ∙ sym (append_snoc (map f l) (f a) (replicate (n - (length l + 1)) b))
    ∙ ap (λ r. r ++ replicate (n - (length l + 1)) b) (sym (map-append f l (a ∷ [])))
    ∙ ap (λ k. map f (l ++ (a ∷ [])) ++ replicate k b) m
