-- Reading a number digit by digit.
use mathlib.Core.Path.{◌≡◌, refl}
use mathlib.Core.Bool.{Bool, true, false, ◌&&◌}
use Rattle.std.specs.Prelude.{Some, None}
use mathlib.Core.List.{List, [], ◌∷◌}
use Prim.Native.Nat.{ℕ, ◌+◌, ◌-◌, ◌*◌, ◌≤◌, ◌<◌}
use native.Mathlib.Omega.{arith}
use lib.Dec.{leb}
use lib.ListN.{length, get_or}
use borrow.Author.Tests.{le-leb, lt-leb, eq-eqb, ne_eqb}
use Rattle.laws.specs.Lists.{when◌then◌else◌, every, null}
use Rattle.text.specs.Numbers.{max_number, is_digit, is_zero, value_from, number}
use Rattle.text.specs.Readings.{value_in}

-- more digits never lower a value
value_grows : (n : ℕ) (l : List ℕ) → n ≤ value_from n l
unfolding value_from
value_grows n [] = omega arith
value_grows n (b ∷ l) = omega (arith, value_grows (n * 10 + (b - 48)) l)

pub value_all : (n : ℕ) → n ≤ max_number → value_in n [] ≡ Some n
unfolding value_in every value_from
value_all n h = rw (le-leb n max_number h)

pub value_more : (n b : ℕ) (l : List ℕ) → is_digit b ≡ true → value_in n (b ∷ l) ≡ value_in (n * 10 + (b - 48)) l
unfolding value_in every value_from
value_more n b l e = rw e

-- a byte that is no digit
pub value_bad : (n b : ℕ) (l : List ℕ) → is_digit b ≡ false → value_in n (b ∷ l) ≡ None
unfolding value_in every
value_bad n b l e = rw e

-- a value over the maximum
pub value_over : (n : ℕ) (l : List ℕ) → max_number < n → value_in n l ≡ None
unfolding value_in
value_over n l h = rw (lt-leb (value_from n l) max_number (omega (arith, value_grows n l))) (no_digits (every is_digit l) (value_from n l))
  where
    no_digits : (b : Bool) (v : ℕ) → (when b && false then Some v else None) ≡ None
    no_digits true v = refl
    no_digits false v = refl

-- a number is not empty
pub number_empty : (l : List ℕ) → length l ≡ 0 → number l ≡ None
unfolding number
number_empty [] e = refl
number_empty (b ∷ l) e = let z : ⊥ = omega arith in absurd z

-- nor has it a leading zero
pub number_zero : (l : List ℕ) → 1 < length l → get_or l 0 0 ≡ 48 → number l ≡ None
unfolding number every
number_zero [] h e = let z : ⊥ = omega arith in absurd z
number_zero (b ∷ []) h e = let z : ⊥ = omega arith in absurd z
number_zero (b ∷ (c ∷ l)) h e = rw (eq-eqb b 48 e) (by_tests_lem (every is_digit (b ∷ (c ∷ l))) (leb (value_from 0 (b ∷ (c ∷ l))) max_number) (value_from 0 (b ∷ (c ∷ l))))
  where
    by_tests_lem : (t u : Bool) (v : ℕ) → (when true && t && false && u then Some v else None) ≡ None
    by_tests_lem true u v = refl
    by_tests_lem false u v = refl

number_value : (l : List ℕ) → null l ≡ false → is_zero l ≡ false → number l ≡ value_in 0 l
unfolding number value_in
number_value l e z = rw (e, z) (by_tests_lem (every is_digit l) (leb (value_from 0 l) max_number) (value_from 0 l))
  where
    by_tests_lem : (t u : Bool) (v : ℕ) → (when true && t && true && u then Some v else None) ≡ (when t && u then Some v else None)
    by_tests_lem true u v = refl
    by_tests_lem false u v = refl

pub number_short : (l : List ℕ) → (length l ≡ 0 → ⊥) → length l ≤ 1 → number l ≡ value_in 0 l
number_short [] h k = absurd (h refl)
number_short (b ∷ []) h k = number_value (b ∷ []) refl refl
number_short (b ∷ (c ∷ l)) h k = let z : ⊥ = omega arith in absurd z

pub number_long : (l : List ℕ) → (length l ≡ 0 → ⊥) → (get_or l 0 0 ≡ 48 → ⊥) → number l ≡ value_in 0 l
number_long [] h k = absurd (h refl)
number_long (b ∷ []) h k = number_value (b ∷ []) refl refl
number_long (b ∷ (c ∷ l)) h k = number_value (b ∷ (c ∷ l)) refl (ne_eqb b 48 k)
