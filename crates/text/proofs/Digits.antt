-- The digits that a number is printed with, and the value that digits have.
use mathlib.Core.Path.{◌≡◌, refl, ap, sym, ◌∙◌}
use mathlib.Core.Bool.{Bool, true, false}
use mathlib.Core.Logic.{◌⊎◌, inl, inr, ◌≢◌}
use mathlib.Core.List.{List, [], ◌∷◌}
use Prim.Native.Nat.{ℕ, zero, suc, ◌+◌, ◌-◌, ◌*◌, ◌/◌, ◌%◌, ◌≤◌, ◌<◌}
use native.Mathlib.Omega.{arith}
use native.Mathlib.Nat.{not-suc-le-zero}
use lib.Dec.{leb, ltb}
use borrow.Author.Tests.{ltb-true, ltb-false, lt-ltb, le-ltb, leb-true, le-leb, eq-eqb, ne_eqb}
use Rattle.laws.specs.Lists.{every, null}
use Rattle.laws.proofs.Tests.{true_false, and_true_left, and_true_right, same?, and_true}
use Rattle.text.specs.Numbers.{is_digit, value_from, is_zero, digits_before, digits}

-- a number of one digit, or one more digit behind those of its tenth
pub one_digit : (f n : ℕ) (tail : List ℕ) → n < 10 → digits_before (suc f) n tail ≡ (48 + n) ∷ tail
unfolding digits_before
one_digit f n tail h = rw (lt-ltb n 10 h, digits_before)

pub more_digits : (f n : ℕ) (tail : List ℕ) → 10 ≤ n → digits_before (suc f) n tail ≡ digits_before f (n / 10) ((48 + n % 10) ∷ tail)
unfolding digits_before
more_digits f n tail h = rw (le-ltb n 10 h, digits_before)

pub few? : (n : ℕ) → (n < 10) ⊎ (10 ≤ n)
few? n = by_test (ltb n 10) refl
  where
    by_test : (b : Bool) → ltb n 10 ≡ b → (n < 10) ⊎ (10 ≤ n)
    by_test true e = inl (ltb-true n 10 e)
    by_test false e = inr (ltb-false n 10 e)

-- what holds of digits that are put before a tail, if it holds of the tail that each digit makes
pub digits_null : (f n : ℕ) (tail : List ℕ) → n < f → null (digits_before f n tail) ≡ false
digits_null zero n tail h = absurd (not-suc-le-zero h)
digits_null (suc f) n tail h = elim (few? n) [
  | inl k ↦ rw (one_digit f n tail k)
  | inr k ↦ rw (more_digits f n tail k) (digits_null f (n / 10) ((48 + n % 10) ∷ tail) (omega arith))
]

digit : (d : ℕ) → d < 10 → is_digit (48 + d) ≡ true
digit d h = and_true _ _ (le-leb 48 (48 + d) (omega arith)) (le-leb (48 + d) 57 (omega arith))

digits_every : (f n : ℕ) (tail : List ℕ) → n < f → every is_digit tail ≡ true → every is_digit (digits_before f n tail) ≡ true
unfolding every
digits_every zero n tail h e = absurd (not-suc-le-zero h)
digits_every (suc f) n tail h e = elim (few? n) [
  | inl k ↦ rw (one_digit f n tail k) (and_true _ _ (digit n k) e)
  | inr k ↦ rw (more_digits f n tail k) (digits_every f (n / 10) ((48 + n % 10) ∷ tail) (omega arith) (and_true _ _ (digit (n % 10) (omega arith)) e))
]

pub digits_digits : (n : ℕ) → every is_digit (digits n) ≡ true
unfolding every
digits_digits n = digits_every (suc n) n [] (omega arith) refl

pub digits_value : (f n : ℕ) (tail : List ℕ) → n < f → value_from 0 (digits_before f n tail) ≡ value_from n tail
unfolding value_from
digits_value zero n tail h = absurd (not-suc-le-zero h)
digits_value (suc f) n tail h = elim (few? n) [
  | inl k ↦ rw (one_digit f n tail k) (ap (λ m. value_from m tail) (omega arith))
  | inr k ↦ rw (more_digits f n tail k) (digits_value f (n / 10) ((48 + n % 10) ∷ tail) (omega arith) ∙ ap (λ m. value_from m tail) (omega arith))
]

not_zero_first : (b : ℕ) (tail : List ℕ) → b ≢ 48 → is_zero (b ∷ tail) ≡ false
not_zero_first b [] h = refl
not_zero_first b (c ∷ tail) h = ne_eqb b 48 h

digits_lead : (f n : ℕ) (tail : List ℕ) → n < f → 1 ≤ n → is_zero (digits_before f n tail) ≡ false
digits_lead zero n tail h g = absurd (not-suc-le-zero h)
digits_lead (suc f) n tail h g = elim (few? n) [
  | inl k ↦ rw (one_digit f n tail k) (not_zero_first (48 + n) tail (omega arith))
  | inr k ↦ rw (more_digits f n tail k) (digits_lead f (n / 10) ((48 + n % 10) ∷ tail) (omega arith) (omega arith))
]

pub no_leading_zero : (n : ℕ) → is_zero (digits n) ≡ false
no_leading_zero zero = ap is_zero (one_digit 0 0 [] (omega arith))
no_leading_zero (suc n) = digits_lead (suc (suc n)) (suc n) [] (omega arith) (omega arith)

-- any fuel that is enough prints the same
pub enough : (f g n : ℕ) (tail : List ℕ) → n < f → n < g → digits_before f n tail ≡ digits_before g n tail
enough zero g n tail h k = absurd (not-suc-le-zero h)
enough (suc f) zero n tail h k = absurd (not-suc-le-zero k)
enough (suc f) (suc g) n tail h k = elim (few? n) [
  | inl e ↦ one_digit f n tail e ∙ sym (one_digit g n tail e)
  | inr e ↦ more_digits f n tail e ∙ enough f g (n / 10) ((48 + n % 10) ∷ tail) (omega arith) (omega arith) ∙ sym (more_digits g n tail e)
]

-- the digits of the value of digits: those of the value before them, and they
value_digits_lem : (n : ℕ) (l : List ℕ) → 1 ≤ n → every is_digit l ≡ true → digits (value_from n l) ≡ digits_before (suc n) n l
unfolding every value_from
value_digits_lem n [] h e = refl
value_digits_lem n (b ∷ l) h e =
    let isd = and_true_left (is_digit b) (every is_digit l) e in
    let low : 48 ≤ b = leb-true 48 b (and_true_left (leb 48 b) (leb b 57) isd) in
    let high : b ≤ 57 = leb-true b 57 (and_true_right (leb 48 b) (leb b 57) isd) in
    let m : ℕ = n * 10 + (b - 48) in
    value_digits_lem m l (omega arith) (and_true_right (is_digit b) (every is_digit l) e)
    ∙ more_digits m m l (omega arith)
    ∙ ap (λ d. digits_before m (m / 10) (d ∷ l)) (omega arith)
    ∙ ap (λ k. digits_before m k (b ∷ l)) (omega arith)
    ∙ enough m (suc n) n (b ∷ l) (omega arith) (omega arith)

zero_alone : (b : ℕ) (l : List ℕ) → b ≡ 48 → is_zero (b ∷ l) ≡ false → digits (value_from (b - 48) l) ≡ b ∷ l
unfolding digits_before value_from
zero_alone b [] e z = rw e
zero_alone b (c ∷ l) e z = true_false (sym (eq-eqb b 48 e) ∙ z)

-- digits without a leading zero are those of their value
pub digits_of_value : (l : List ℕ) → null l ≡ false → every is_digit l ≡ true → is_zero l ≡ false → digits (value_from 0 l) ≡ l
unfolding every value_from
digits_of_value [] h e z = true_false h
digits_of_value (b ∷ l) h e z =
    let isd = and_true_left (is_digit b) (every is_digit l) e in
    let low : 48 ≤ b = leb-true 48 b (and_true_left (leb 48 b) (leb b 57) isd) in
    let high : b ≤ 57 = leb-true b 57 (and_true_right (leb 48 b) (leb b 57) isd) in
    ap (λ n. digits (value_from n l)) {x = 0 * 10 + (b - 48)} {y = b - 48} (omega arith)
    ∙ elim (same? b 48) [
      | inl s ↦ zero_alone b l s.0 z
      | inr s ↦ value_digits_lem (b - 48) l (let d = s.0 in omega arith) (and_true_right (is_digit b) (every is_digit l) e)
          ∙ one_digit (b - 48) (b - 48) l (omega arith)
          ∙ ap (λ d. d ∷ l) (omega arith)
    ]
