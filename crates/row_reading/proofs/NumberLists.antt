-- Numbers with commas between, read into an array.
use mathlib.Core.Path.{◌≡◌, refl, ap, sym, ◌∙◌}
use mathlib.Core.Bool.{Bool, true, false}
use Rattle.std.specs.Prelude.{Option, Some, None}
use mathlib.Core.List.{List, [], ◌∷◌, ◌++◌, append_assoc}
use Prim.Native.Nat.{ℕ, suc, ◌+◌, ◌-◌, ◌≤◌, ◌<◌}
use native.Mathlib.Omega.{arith}
use lib.Dec.{ltb}
use lib.ListN.{length, take, drop, replicate, length-append}
use lib.Seq.{take-append_seam}
use borrow.Author.Tests.{le-leb, lt-leb, ltb-true, ltb-false}
use Rattle.laws.specs.Lists.{when◌then◌else◌}
use Rattle.laws.specs.Options.{mapped, ◌then◌}
use Rattle.laws.proofs.Options.{none_some}
use Rattle.laws.proofs.Stretches.{padded_more}
use Rattle.relation.specs.Rows.{columns}
use Rattle.row_reading.specs.declared.list_reader.Numbers.{Numbers}
use Rattle.text.specs.Numbers.{comma, number, numbers}
use Rattle.text.specs.Lines.{if_empty}
use Rattle.text.specs.Readings.{before}
use Rattle.row_reading.specs.NumberArrays.{numbers_of, listed, with_number, few}
use Rattle.text.proofs.ReaderLawsLines.{found_part, found_rest, found_inside, found_outside, found_le, part_to_end}
use Rattle.text.proofs.ReaderLawsForms.{numbers_more, numbers_last, some_number}

-- an array's list, and one more number
pub listed_of : (l : List ℕ) → listed (numbers_of l) ≡ l
listed_of l = take-append_seam l (replicate (columns - length l) 0)

pub with_more : (l : List ℕ) (n : ℕ) → length l < columns → with_number (numbers_of l) n ≡ numbers_of (l ++ (n ∷ []))
with_more l n h =
    ap (λ vs. record { count = length l + 1; values = vs }) (padded_more 0 columns l n h)
    ∙ ap (λ k. record { count = k; values = (l ++ (n ∷ [])) ++ replicate (columns - length (l ++ (n ∷ []))) 0 }) (sym (length-append l (n ∷ [])))

-- the numbers from a position on, where the next comma, or the line's end, is found
module _ (l : List ℕ) (at end : ℕ) (found : end ≡ at + before comma (drop at l)) (h : at ≤ length l) where
  abbrev next_part : List ℕ
  next_part = take (end - at) (drop at l)

  pub numbers_comma : end < length l → numbers (drop at l) ≡ number next_part then (λ n. mapped (λ ns. n ∷ ns) (numbers (drop (end + 1) l)))
  numbers_comma k =
      numbers_more (drop at l) (found_inside comma l at end found h k)
      ∙ ap (λ p. number p then (λ n. mapped (λ ns. n ∷ ns) (numbers (drop (suc (before comma (drop at l))) (drop at l))))) (found_part comma l at end found)
      ∙ ap (λ r. number next_part then (λ n. mapped (λ ns. n ∷ ns) (numbers r))) (found_rest comma l at end found)

  pub numbers_end : length l ≤ end → numbers (drop at l) ≡ mapped (λ n. n ∷ []) (number next_part)
  numbers_end k =
      let e : end - at ≡ length l - at = omega (arith, found_le comma l at end found h) in
      numbers_last (drop at l) (found_outside comma l at end found k)
      ∙ ap (λ p. mapped (λ n. n ∷ []) (number p)) (sym (ap (λ k. take k (drop at l)) e ∙ part_to_end l at))

  pub numbers_bad : number next_part ≡ None → numbers (drop at l) ≡ None
  numbers_bad e = by_test (ltb end (length l)) refl
    where
      by_test : (t : Bool) → ltb end (length l) ≡ t → numbers (drop at l) ≡ None
      by_test true q = numbers_comma (ltb-true _ _ q) ∙ ap (λ o. o then (λ n. mapped (λ ns. n ∷ ns) (numbers (drop (end + 1) l)))) e
      by_test false q = numbers_end (ltb-false _ _ q) ∙ ap (mapped (λ n. n ∷ [])) e

-- a list that is short enough
few_some : (w : ℕ) (l : List ℕ) → length l ≤ w → few w (Some l) ≡ Some l
few_some w l h = ap (λ b. when b then Some l else None) (le-leb (length l) w h)

-- after some numbers: they come first, and the others are left at a position
pub record Turn (line : List ℕ) (from : ℕ) (found : Numbers) (at : ℕ) : Type 0 where
  pub inside : at ≤ length line
  pub read : List ℕ
  pub held : found ≡ numbers_of read
  pub left : numbers (drop from line) ≡ mapped (λ ns. read ++ ns) (numbers (drop at line))

pub turn_none : (line : List ℕ) (from : ℕ) (found : Numbers) → from ≤ length line → found ≡ numbers_of [] → Turn line from found from
turn_none line from found h e = record { inside = h; read = []; held = e; left = same (numbers (drop from line)) }
  where
    same : (o : Option (List ℕ)) → o ≡ mapped (λ ns. [] ++ ns) o
    same None = refl
    same (Some ns) = refl

module _ (line : List ℕ) (from : ℕ) (found : Numbers) (at : ℕ) (t : Turn line from found at) where
  -- how many are held
  pub turn_count : found.count ≡ length t.read
  turn_count = ap (λ (ns : Numbers). ns.count) t.held

  module _ (end : ℕ) (q : end ≡ at + before comma (drop at line)) where
    pub turn_bad : number (take (end - at) (drop at line)) ≡ None → numbers (drop from line) ≡ None
    turn_bad e = t.left ∙ ap (mapped (λ ns. t.read ++ ns)) (numbers_bad line at end q t.inside e)

    -- the last number is stored, and the list is whole
    pub turn_last : (n : ℕ) → length line ≤ end → number (take (end - at) (drop at line)) ≡ Some n → found.count < columns
        → Some (with_number found n) ≡ mapped numbers_of (few columns (numbers (drop from line)))
    turn_last n h e k =
        let all : numbers (drop from line) ≡ Some (t.read ++ (n ∷ [])) =
        t.left ∙ ap (mapped (λ ns. t.read ++ ns)) (numbers_end line at end q t.inside h ∙ ap (mapped (λ n. n ∷ [])) e) in
        let c = turn_count in
        ap (λ ns. Some (with_number ns n)) t.held
        ∙ ap Some (with_more t.read n (omega arith))
        ∙ ap (mapped numbers_of)
        (sym (ap (few columns) all ∙ few_some columns (t.read ++ (n ∷ [])) (omega (arith, length-append t.read (n ∷ [])))))

    pub turn_more : (n : ℕ) → end < length line → number (take (end - at) (drop at line)) ≡ Some n → found.count < columns
        → Turn line from (with_number found n) (end + 1)
    turn_more n h e k = record {
      inside = omega arith;
      read = t.read ++ (n ∷ []);
      held = ap (λ ns. with_number ns n) t.held ∙ with_more t.read n (omega (arith, turn_count));
      left =
          t.left
          ∙ ap (mapped (λ ns. t.read ++ ns))
          (numbers_comma line at end q t.inside h ∙ ap (λ o. o then (λ n. mapped (λ ns. n ∷ ns) (numbers (drop (end + 1) line)))) e)
          ∙ grouped (numbers (drop (end + 1) line));
    }
      where
        grouped : (o : Option (List ℕ)) → mapped (λ ns. t.read ++ ns) (mapped (λ ns. n ∷ ns) o) ≡ mapped (λ ns. (t.read ++ (n ∷ [])) ++ ns) o
        grouped None = refl
        grouped (Some ns) = ap Some (sym (append_assoc t.read (n ∷ []) ns))

  -- one number more is one too many
  pub turn_full : columns ≤ found.count → few columns (numbers (drop from line)) ≡ None
  turn_full h = ap (few columns) t.left ∙ by_case (numbers (drop at line)) (some_number (drop at line))
    where
      by_case : (o : Option (List ℕ)) → if_empty (tt {0}) o ≡ None → few columns (mapped (λ ns. t.read ++ ns) o) ≡ None
      by_case None e = refl
      by_case (Some []) e = none_some (sym e)
      by_case (Some (n ∷ ns)) e =
          ap (λ b. when b then Some (t.read ++ (n ∷ ns)) else None)
          (lt-leb (length (t.read ++ (n ∷ ns))) columns (omega (arith, length-append t.read (n ∷ ns), turn_count)))
