-- A list written over from an index on: what has been written stands before what has not.
use mathlib.Core.Path.{◌≡◌, ap, ap₂, sym, ◌∙◌}
use mathlib.Core.List.{List, [], ◌∷◌, ◌++◌, append_assoc}
use Prim.Native.Nat.{ℕ, ◌+◌, ◌<◌}
use native.Mathlib.Omega.{arith}
use native.Mathlib.Numerals.{add-one}
use lib.ListN.{length, get_or, set, take, drop, length-append}
use lib.Seq.{paste, paste-suc, take_at, drop_at, set_at, drop-append-add, drop-drop, drop-cons, append_snoc}

module _ {A : Type 0} where
  -- a copy of one element more
  pub copy_more : (d : List A) (at : ℕ) (vs : List A) (k i : ℕ) (z x : A) → at + k ≡ i → i < length d → k < length vs → x ≡ get_or vs k z
      → set (paste d at vs k) i x ≡ paste d at vs (k + 1)
  copy_more d at vs k i z x e h j f =
      ap₂ (λ (n : ℕ) (y : A). set (paste d at vs k) n y) (sym e) f ∙ paste-suc d at vs k z (omega arith) j ∙ ap (paste d at vs) (sym (add-one k))

  -- some elements of another list come next
  pub write_some : (p l vs : List A) (at k : ℕ) → length p ≡ at → paste (p ++ drop at l) at vs k ≡ (p ++ take k vs) ++ drop (at + k) l
  write_some p l vs at k e =
      ap₂ (λ (x y : List A). (x ++ take k vs) ++ y) (take_at p (drop at l) at e)
      (ap (λ (n : ℕ). drop (n + k) (p ++ drop at l)) (sym e) ∙ drop-append-add p (drop at l) k ∙ drop-drop k at l)

  -- one element comes next
  pub write_one : (p l : List A) (x : A) (at : ℕ) → length p ≡ at → at < length l → set (p ++ drop at l) at x ≡ (p ++ (x ∷ [])) ++ drop (at + 1) l
  write_one p l x at e h =
      ap (λ (r : List A). set (p ++ r) at x) (drop-cons l at x h) ∙ set_at p (get_or l at x) _ x at e ∙ sym (append_snoc p x _)
      ∙ ap (λ (n : ℕ). (p ++ (x ∷ [])) ++ drop n l) (sym (add-one at))

  -- the parts of a list by their lengths
  pub part_at : (p x r : List A) (n k : ℕ) → length p ≡ n → length x ≡ k → take k (drop n (p ++ (x ++ r))) ≡ x
  part_at p x r n k e f = ap (take k) (drop_at p (x ++ r) n e) ∙ take_at x r k f

  pub rest_at : (p x r : List A) (n : ℕ) → length p + length x ≡ n → drop n (p ++ (x ++ r)) ≡ r
  rest_at p x r n e = ap (drop n) (sym (append_assoc p x r)) ∙ drop_at (p ++ x) r n (length-append p x ∙ e)
