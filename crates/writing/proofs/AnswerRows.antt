-- The rows of an answer, as they are put one after the other. w is the number of columns.
use mathlib.Core.Path.{◌≡◌, ap, sym, ◌∙◌}
use mathlib.Core.List.{List, ◌∷◌, ◌++◌, map, flat_map}
use Prim.Native.Nat.{ℕ, zero, suc, min, ◌+◌, ◌-◌, ◌*◌, ◌≤◌}
use native.Mathlib.Omega.{arith}
use native.Mathlib.Nat.{zero-add, suc-add, mul-suc, mul-zero}
use native.Mathlib.Decide.{dec_le}
use lib.ListN.{length, take, drop, length-drop, drop_of_length-le}
use lib.Seq.{take_all, get_or-take, drop-drop}
use Rattle.laws.proofs.EachMember.{flat_map_append}
use Rattle.laws.proofs.FlatMaps.{flat_map_snoc}
use Rattle.algebra.specs.Columns.{Cols}
use Rattle.relation.specs.Rows.{Row, slot, rows_of}
use Rattle.text.specs.Texts.{column_list}
use Rattle.writing.proofs.AnswerLines.{same_values}

rows_of_add : (w i k : ℕ) (xs : List ℕ) → rows_of w (i + k) xs ≡ rows_of w i xs ++ rows_of w k (drop (w * i) xs)
unfolding rows_of
rows_of_add w zero k xs = ap (λ n. rows_of w n xs) (zero-add k) ∙ ap (λ n. rows_of w k (drop n xs)) (sym (mul-zero w))
rows_of_add w (suc i) k xs =
    ap (λ n. rows_of w n xs) (suc-add i k)
    ∙ ap (λ l. take w xs ∷ l) (rows_of_add w i k (drop w xs) ∙ ap (λ l. rows_of w i (drop w xs) ++ rows_of w k l) (drop-drop (w * i) w xs ∙ ap (λ n. drop n xs) next))
  where
    next : w + w * i ≡ w * suc i
    next = sym (mul-suc w i ∙ omega arith)

module _ (F : Row → List ℕ) (w i : ℕ) (xs : List ℕ) where
  -- one row more
  pub more_rows : flat_map F (rows_of w i xs) ++ F (take w (drop (w * i) xs)) ≡ flat_map F (rows_of w (i + 1) xs)
  unfolding rows_of
  more_rows = flat_map_snoc F (rows_of w i xs) (take w (drop (w * i) xs)) ∙ ap (flat_map F) (sym (rows_of_add w i 1 xs))

  -- the rows behind the first i
  pub rows_behind : (n : ℕ) → i ≤ n → flat_map F (rows_of w i xs) ++ flat_map F (rows_of w (n - i) (drop (w * i) xs)) ≡ flat_map F (rows_of w n xs)
  rows_behind n h =
      sym (flat_map_append F (rows_of w i xs) (rows_of w (n - i) (drop (w * i) xs))) ∙ ap (flat_map F) (sym (rows_of_add w i (n - i) xs) ∙ ap (λ k. rows_of w k xs) whole)
    where
      whole : i + (n - i) ≡ n
      whole = omega arith

drop_min : (n : ℕ) (l : List ℕ) → drop (min n (length l)) l ≡ drop n l
drop_min n l = elim (dec_le n (length l)) [
  | yes h ↦ let e : min n (length l) ≡ n = omega arith in ap (λ k. drop k l) e
  | no h ↦ drop_of_length-le l {i = min n (length l)} (omega arith) ∙ sym (drop_of_length-le l {i = n} (omega arith))
]

-- the values that are read from where row i begins, or from the end of the entries if it isn't there
pub row_values : (w : ℕ) (D : Cols) (i from : ℕ) (xs : List ℕ) → from ≡ min (w * i) (length xs)
    → map (slot (take (length xs - from) (drop from xs))) (column_list w D) ≡ map (slot (take w (drop (w * i) xs))) (column_list w D)
row_values w D i from xs e =
    ap (λ l. map (slot l) (column_list w D)) (take_all (length xs - from) (drop from xs) rest ∙ ap (λ n. drop n xs) e ∙ drop_min (w * i) xs)
    ∙ same_values w D (slot (drop (w * i) xs)) (slot (take w (drop (w * i) xs))) (λ c h. sym (get_or-take w (drop (w * i) xs) c 0 h))
  where
    rest : length (drop from xs) ≤ length xs - from
    rest = omega (arith, length-drop from xs)
