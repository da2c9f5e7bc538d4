-- Words, and numbers behind a key.
use mathlib.Core.Path.{◌≡◌, refl, ap, sym, ◌∙◌}
use mathlib.Core.Bool.{Bool, true, false, not, ◌&&◌, and-false}
use Rattle.std.specs.Prelude.{Option, Some, None}
use mathlib.Core.Logic.{◌⊎◌, inl, inr}
use mathlib.Core.List.{List, [], ◌∷◌}
use Prim.Native.String.{String}
use Prim.Native.Nat.{ℕ, suc, ◌+◌, ◌-◌, ◌≤◌, ◌<◌}
use native.Mathlib.Omega.{arith}
use lib.Dec.{eqb, leb, ltb}
use lib.ListN.{length, take, drop}
use borrow.Author.Tests.{ltb-true, ltb-false}
use Rattle.laws.specs.Lists.{when◌then◌else◌, every, null}
use Rattle.laws.specs.Options.{mapped, present, ◌then◌}
use Rattle.laws.proofs.Tests.{same?}
use Rattle.laws.proofs.Options.{none_some}
use Rattle.text.specs.Numbers.{bytes, comma, is_digit, is_zero, max_number, value_from, number, parts, read_all, numbers}
use Rattle.text.specs.Lines.{after, numbers_after, if_empty, if_one, if_two, word, one, two, by_form}
use Rattle.text.specs.Readings.{before, is_word, paired, numbers_behind}
use Rattle.text.proofs.ReaderLawsLines.{before_le, tail_has, parts_more, parts_last, found_part, found_rest, found_inside, part_to_end}

-- a word is a key with nothing behind it
pub word_same : (w l : List ℕ) → length l ≡ length w → present (after w l) ≡ is_word w l
unfolding after
word_same [] [] h = refl
word_same [] (b ∷ l) h = let z : ⊥ = omega arith in absurd z
word_same (k ∷ w) [] h = refl
word_same (k ∷ w) (b ∷ l) h = by_test (eqb k b) (word_same w l (omega arith))
  where
    by_test : (t : Bool) → present (after w l) ≡ is_word w l
        → present (when t then after w l else None) ≡ present (if_empty (tt {0}) (when t then after w l else None))
    by_test true e = e
    by_test false e = refl

pub word_other : (w l : List ℕ) → (length l ≡ length w → ⊥) → is_word w l ≡ false
unfolding after
word_other [] [] h = absurd (h refl)
word_other [] (b ∷ l) h = refl
word_other (k ∷ w) [] h = refl
word_other (k ∷ w) (b ∷ l) h = by_test (eqb k b) (word_other w l (λ e. h (ap suc e)))
  where
    by_test : (t : Bool) → is_word w l ≡ false → present (if_empty (tt {0}) (when t then after w l else None)) ≡ false
    by_test true e = e
    by_test false e = refl

-- numbers with commas between: the first one, and those behind its comma
read_more : (l : List ℕ) (ls : List (List ℕ)) → read_all (l ∷ ls) ≡ number l then (λ n. mapped (λ ns. n ∷ ns) (read_all ls))
unfolding read_all
read_more l ls = by_cases (number l) (read_all ls)
  where
    by_cases : (o : Option ℕ) (p : Option (List ℕ))
        → elim o [ None ↦ None | Some n ↦ elim p [ None ↦ None | Some ns ↦ Some (n ∷ ns) ] ] ≡ (o then (λ n. mapped (λ ns. n ∷ ns) p))
    by_cases None p = refl
    by_cases (Some n) None = refl
    by_cases (Some n) (Some ns) = refl

pub numbers_more : (l : List ℕ) → before comma l < length l
    → numbers l ≡ number (take (before comma l) l) then (λ n. mapped (λ ns. n ∷ ns) (numbers (drop (suc (before comma l)) l)))
numbers_more l h = ap read_all (parts_more l h) ∙ read_more (take (before comma l) l) (parts (drop (suc (before comma l)) l))

pub numbers_last : (l : List ℕ) → length l ≤ before comma l → numbers l ≡ mapped (λ n. n ∷ []) (number l)
unfolding read_all
numbers_last l h = ap read_all (parts_last l h) ∙ by_cases (number l)
  where
    by_cases : (o : Option ℕ) → elim o [ None ↦ None | Some n ↦ Some (n ∷ []) ] ≡ mapped (λ n. n ∷ []) o
    by_cases None = refl
    by_cases (Some n) = refl

-- there is a comma, or none
pub comma? : (l : List ℕ) → (before comma l < length l) ⊎ (length l ≤ before comma l)
comma? l = by_test (ltb (before comma l) (length l)) refl
  where
    by_test : (t : Bool) → ltb (before comma l) (length l) ≡ t → (before comma l < length l) ⊎ (length l ≤ before comma l)
    by_test true e = inl (ltb-true _ _ e)
    by_test false e = inr (ltb-false _ _ e)

-- a list of numbers is never empty
pub some_number : (l : List ℕ) → if_empty (tt {0}) (numbers l) ≡ None
some_number l = elim (comma? l) [
  | inl h ↦ rw (numbers_more l h) (more (number (take (before comma l) l)) (numbers (drop (suc (before comma l)) l)))
  | inr h ↦ rw (numbers_last l h) (last (number l))
]
  where
    more : (o : Option ℕ) (p : Option (List ℕ)) → if_empty (tt {0}) (o then (λ n. mapped (λ ns. n ∷ ns) p)) ≡ None
    more None p = refl
    more (Some n) None = refl
    more (Some n) (Some ns) = refl

    last : (o : Option ℕ) → if_empty (tt {0}) (mapped (λ n. n ∷ []) o) ≡ None
    last None = refl
    last (Some n) = refl

-- a comma is no digit
comma_bad : (l : List ℕ) → before comma l < length l → every is_digit l ≡ false
unfolding every
comma_bad [] h = let z : ⊥ = omega (arith, before_le comma []) in absurd z
comma_bad (c ∷ l) h = elim (same? c comma) [
  | inl s ↦ rw s.0
  | inr s ↦ rw (comma_bad l (tail_has comma c l s.0 h)) (and-false (is_digit c))
]

number_comma : (l : List ℕ) → before comma l < length l → number l ≡ None
unfolding number
number_comma l h = rw (comma_bad l h) (by_test (not (null l)))
  where
    by_test : (t : Bool) → (when t && false && not (is_zero l) && leb (value_from 0 l) max_number then Some (value_from 0 l) else None) ≡ None
    by_test true = refl
    by_test false = refl

pub one_number : (l : List ℕ) → if_one (λ n. n) (numbers l) ≡ number l
one_number l = elim (comma? l) [
  | inl h ↦ rw (numbers_more l h, number_comma l h)
      (more (number (take (before comma l) l)) (numbers (drop (suc (before comma l)) l)) (some_number (drop (suc (before comma l)) l)))
  | inr h ↦ rw (numbers_last l h) (last (number l))
]
  where
    more : (o : Option ℕ) (p : Option (List ℕ)) → if_empty (tt {0}) p ≡ None → if_one (λ n. n) (o then (λ n. mapped (λ ns. n ∷ ns) p)) ≡ None
    more None p e = refl
    more (Some n) None e = refl
    more (Some n) (Some []) e = none_some (sym e)
    more (Some n) (Some (m ∷ ns)) e = refl

    last : (o : Option ℕ) → if_one (λ n. n) (mapped (λ n. n ∷ []) o) ≡ o
    last None = refl
    last (Some n) = refl

module _ {A : Type 0} (f : ℕ → ℕ → A) where
  behind_first : (n : ℕ) (o : Option (List ℕ)) → if_two f (mapped (λ ns. n ∷ ns) o) ≡ mapped (f n) (if_one (λ m. m) o)
  behind_first n None = refl
  behind_first n (Some []) = refl
  behind_first n (Some (a ∷ [])) = refl
  behind_first n (Some (a ∷ (b ∷ l))) = refl

  pub two_numbers : (l : List ℕ) → before comma l < length l
      → if_two f (numbers l) ≡ number (take (before comma l) l) then (λ n. mapped (f n) (number (drop (suc (before comma l)) l)))
  two_numbers l h =
      ap (if_two f) (numbers_more l h) ∙ by_case (number (take (before comma l) l))
    where
      rest : List ℕ
      rest = drop (suc (before comma l)) l

      by_case : (o : Option ℕ) → if_two f (o then (λ n. mapped (λ ns. n ∷ ns) (numbers rest))) ≡ (o then (λ n. mapped (f n) (number rest)))
      by_case None = refl
      by_case (Some n) = behind_first n (numbers rest) ∙ ap (mapped (f n)) (one_number rest)

  pub no_two : (l : List ℕ) → length l ≤ before comma l → if_two f (numbers l) ≡ None
  no_two l h = rw (numbers_last l h) (by_case (number l))
    where
      by_case : (o : Option ℕ) → if_two f (mapped (λ n. n ∷ []) o) ≡ None
      by_case None = refl
      by_case (Some n) = refl

  -- two numbers from a position on, with a comma found at e
  pub two_at : (l : List ℕ) (at e : ℕ) → e ≡ at + before comma (drop at l) → at ≤ length l → e < length l
      → if_two f (numbers (drop at l))
      ≡ number (take (e - at) (drop at l)) then (λ n. mapped (f n) (number (take (length l - (e + 1)) (drop (e + 1) l))))
  two_at l at e q h k =
      two_numbers (drop at l) (found_inside comma l at e q h k)
      ∙ ap (λ p. number p then (λ n. mapped (f n) (number (drop (suc (before comma (drop at l))) (drop at l))))) (found_part comma l at e q)
      ∙ ap (λ r. number (take (e - at) (drop at l)) then (λ n. mapped (f n) (number r))) (found_rest comma l at e q ∙ sym (part_to_end l (e + 1)))

-- what a form makes of its numbers
one_made : {A : Type 0} (f : ℕ → A) (o : Option (List ℕ)) → if_one f o ≡ mapped f (if_one (λ n. n) o)
one_made f None = refl
one_made f (Some []) = refl
one_made f (Some (n ∷ [])) = refl
one_made f (Some (n ∷ (m ∷ l))) = refl

two_made : {A : Type 0} (f : ℕ → ℕ → A) (o : Option (List ℕ)) → if_two f o ≡ mapped (λ p. f p.0 p.1) (if_two paired o)
two_made f None = refl
two_made f (Some []) = refl
two_made f (Some (n ∷ [])) = refl
two_made f (Some (n ∷ (m ∷ []))) = refl
two_made f (Some (n ∷ (m ∷ (k ∷ l)))) = refl

pub numbers_behind_lem : (key : String) (l : List ℕ) → numbers_after key l ≡ numbers_behind (bytes key) l
unfolding numbers_after
numbers_behind_lem key l = by_case (after (bytes key) l)
  where
    by_case : (o : Option (List ℕ)) → elim o [ None ↦ None | Some digits ↦ numbers digits ] ≡ (o then numbers)
    by_case None = refl
    by_case (Some digits) = refl

pub word_form_lem : {A : Type 0} (key : String) (a : A) (l : List ℕ) → by_form (word key a) l ≡ when is_word (bytes key) l then Some a else None
unfolding by_form
word_form_lem key a l = by_case (after (bytes key) l)
  where
    by_case : (o : Option (List ℕ)) → if_empty a o ≡ when present (if_empty (tt {0}) o) then Some a else None
    by_case None = refl
    by_case (Some []) = refl
    by_case (Some (b ∷ m)) = refl

pub one_form : {A : Type 0} (key : String) (f : ℕ → A) (l : List ℕ) → by_form (one key f) l ≡ mapped f (if_one (λ n. n) (numbers_behind (bytes key) l))
unfolding by_form
one_form key f l = ap (if_one f) (numbers_behind_lem key l) ∙ one_made f (numbers_behind (bytes key) l)

pub two_form : {A : Type 0} (key : String) (f : ℕ → ℕ → A) (l : List ℕ)
    → by_form (two key f) l ≡ mapped (λ p. f p.0 p.1) (if_two paired (numbers_behind (bytes key) l))
unfolding by_form
two_form key f l = ap (if_two f) (numbers_behind_lem key l) ∙ two_made f (numbers_behind (bytes key) l)
