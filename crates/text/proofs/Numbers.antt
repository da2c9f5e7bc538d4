-- Numbers as texts: what the printer prints is what the reader accepts.
use mathlib.Core.Path.{◌≡◌, ap, sym, ◌∙◌, subst}
use mathlib.Core.Bool.{Bool, true, false, not, ◌&&◌}
use Rattle.std.specs.Prelude.{Some}
use mathlib.Core.List.{List, []}
use Prim.Native.Nat.{ℕ, suc, ◌≤◌}
use native.Mathlib.Omega.{arith}
use lib.Dec.{leb, eqb}
use borrow.Author.Tests.{leb-true, le-leb, ne_eqb}
use Rattle.laws.specs.Lists.{every, null}
use Rattle.laws.proofs.Tests.{true_false, not-false, and_true}
use Rattle.laws.proofs.EachMember.{each_map, every_each, both_true, kept}
use Rattle.text.specs.Numbers.{max_number, is_digit, value_from, is_zero, number, digits}
use Rattle.text.proofs.Commas.{Without}
use Rattle.text.proofs.Digits.{digits_null, digits_digits, digits_value, no_leading_zero, digits_of_value}

-- the test of a number's form
abbrev on_number_form : List ℕ → Bool
on_number_form l = not (null l) && every is_digit l && not (is_zero l) && leb (value_from 0 l) max_number

-- what is printed for a number is read as that number
pub number_digits_lem : (n : ℕ) → n ≤ max_number → number (digits n) ≡ Some n
unfolding number value_from
number_digits_lem n h =
    let value = digits_value (suc n) n [] (omega arith) in
    let small = ap (λ v. leb v max_number) value ∙ le-leb n max_number h in
    let filled = ap not (digits_null (suc n) n [] (omega arith)) in
    let front = and_true _ _ (and_true _ _ filled (digits_digits n)) (ap not (no_leading_zero n)) in
    let on_form_lem : on_number_form (digits n) ≡ true = and_true _ _ front small in
    rw on_form_lem (ap Some value)

-- what is read as a number is printed for that number
pub digits_number : (l : List ℕ) (n : ℕ) → number l ≡ Some n → (digits n ≡ l) × (n ≤ max_number)
unfolding number
digits_number l n e =
    let (on_form_lem, value) = kept (on_number_form l) e in
    let (front, small) = both_true (not (null l) && every is_digit l && not (is_zero l)) (leb (value_from 0 l) max_number) on_form_lem in
    let (filled-plain, lead) = both_true (not (null l) && every is_digit l) (not (is_zero l)) front in
    let (filled, plain) = both_true (not (null l)) (every is_digit l) filled-plain in (
      ap digits (sym value) ∙ digits_of_value l (not-false (null l) filled) plain (not-false (is_zero l) lead),
      subst (λ v. v ≤ max_number) value (leb-true (value_from 0 l) max_number small),
    )

-- the bytes of digits are no commas and no line ends
digit_other : (b : ℕ) → is_digit b ≡ true → (c : ℕ) → is_digit c ≡ false → eqb b c ≡ false
digit_other b e c f = ne_eqb b c (λ q. true_false (sym e ∙ ap is_digit q ∙ f))

pub digits_without : (n c : ℕ) → is_digit c ≡ false → Without c (digits n)
digits_without n c f = each_map (digits n) (λ b e. digit_other b e c f) (every_each is_digit (digits n) (digits_digits n))
