-- A number's digits are those of its tenth part and the last one.
use mathlib.Core.Path.{◌≡◌, refl, ap, sym, ◌∙◌}
use mathlib.Core.Logic.{inl, inr}
use mathlib.Core.List.{List, [], ◌∷◌, ◌++◌, append_assoc}
use Prim.Native.Nat.{ℕ, zero, suc, ◌+◌, ◌/◌, ◌%◌, ◌≤◌, ◌<◌}
use native.Mathlib.Omega.{arith}
use Rattle.text.specs.Numbers.{digits_before, digits}
use Rattle.text.proofs.Digits.{few?, one_digit, more_digits, enough}

before_tail : (f n : ℕ) (tail : List ℕ) → digits_before f n tail ≡ digits_before f n [] ++ tail
unfolding digits_before
before_tail zero n tail = refl
before_tail (suc f) n tail = elim (few? n) [
  | inl h ↦ rw (one_digit f n tail h, one_digit f n [] h)
  | inr h ↦ let d : ℕ = 48 + n % 10 in let m : ℕ = n / 10 in
      more_digits f n tail h ∙ before_tail f m (d ∷ tail) ∙ sym (append_assoc (digits_before f m []) (d ∷ []) tail)
      ∙ ap (λ l. l ++ tail) (sym (more_digits f n [] h ∙ before_tail f m (d ∷ [])))
]

pub digits_few : (n : ℕ) → n < 10 → digits n ≡ (48 + n) ∷ []
digits_few n h = one_digit n n [] h

pub digits_more : (n : ℕ) → 10 ≤ n → digits n ≡ digits (n / 10) ++ ((48 + n % 10) ∷ [])
digits_more n h =
    more_digits n n [] h ∙ before_tail n (n / 10) ((48 + n % 10) ∷ [])
    ∙ ap (λ l. l ++ ((48 + n % 10) ∷ [])) (enough n (suc (n / 10)) (n / 10) [] (omega arith) (omega arith))
