-- Where a byte stands, and lines, keys and parts found by it.
use mathlib.Core.Path.{◌≡◌, refl, ap, sym, ◌∙◌}
use mathlib.Core.Bool.{Bool, true, false}
use Rattle.std.specs.Prelude.{Option, Some, None}
use mathlib.Core.List.{List, [], ◌∷◌}
use mathlib.Core.Logic.{inl, inr}
use Prim.Native.Nat.{ℕ, suc, ◌+◌, ◌-◌, ◌≤◌, ◌<◌}
use native.Mathlib.Omega.{arith}
use lib.Dec.{eqb, leb}
use lib.ListN.{length, take, drop, get_or, drop_of_length-le, length-drop}
use lib.Seq.{drop-drop, take_all}
use borrow.Author.Tests.{eq-eqb, ne_eqb, leb-true, leb-false}
use Rattle.laws.specs.Lists.{when◌then◌else◌}
use Rattle.laws.specs.Options.{present}
use Rattle.laws.proofs.Tests.{true_false, same?}
use Rattle.laws.proofs.Fronts.{drop_next, if_either}
use Rattle.text.specs.Numbers.{newline, comma, parts}
use Rattle.text.specs.Lines.{after, first_line}
use Rattle.text.specs.Readings.{before}

here : (b c : ℕ) (l : List ℕ) → c ≡ b → before b (c ∷ l) ≡ 0
unfolding before
here b c l e = rw (eq-eqb c b e)

later : (b c : ℕ) (l : List ℕ) → (c ≡ b → ⊥) → before b (c ∷ l) ≡ suc (before b l)
unfolding before
later b c l e = rw (ne_eqb c b e)

-- the byte stands at i, or behind it, or there is nothing left
pub before_here : (b : ℕ) (l : List ℕ) (i : ℕ) → i < length l → get_or l i 0 ≡ b → before b (drop i l) ≡ 0
before_here b l i h e = ap (before b) (drop_next l i 0 h) ∙ here b (get_or l i 0) (drop (i + 1) l) e

pub before_later : (b : ℕ) (l : List ℕ) (i : ℕ) → i < length l → (get_or l i 0 ≡ b → ⊥) → before b (drop i l) ≡ suc (before b (drop (i + 1) l))
before_later b l i h e = ap (before b) (drop_next l i 0 h) ∙ later b (get_or l i 0) (drop (i + 1) l) e

pub before_end : (b : ℕ) (l : List ℕ) (i : ℕ) → length l ≤ i → before b (drop i l) ≡ 0
unfolding before
before_end b l i h = ap (before b) (drop_of_length-le l h)

-- a key byte by byte
pub after_same : (key l : List ℕ) (i : ℕ) → i < length key → i < length l → get_or l i 0 ≡ get_or key i 0
    → after (drop i key) (drop i l) ≡ after (drop (i + 1) key) (drop (i + 1) l)
unfolding after
after_same key l i h k e = rw (drop_next key i 0 h, drop_next l i 0 k, eq-eqb (get_or key i 0) (get_or l i 0) (sym e), after)

pub after_other : (key l : List ℕ) (i : ℕ) → i < length key → i < length l → (get_or l i 0 ≡ get_or key i 0 → ⊥) → after (drop i key) (drop i l) ≡ None
unfolding after
after_other key l i h k e = rw (drop_next key i 0 h, drop_next l i 0 k, ne_eqb (get_or key i 0) (get_or l i 0) (λ p. e (sym p)), after)

pub after_short : (key l : List ℕ) → length l < length key → after key l ≡ None
unfolding after
after_short [] l h = let z : ⊥ = omega arith in absurd z
after_short (k ∷ key) [] h = refl
after_short (k ∷ key) (b ∷ l) h = rw (after_short key l (omega arith)) (if_either (eqb k b) None)

-- behind a key stands what is left of the line
pub after_rest : (key l : List ℕ) → present (after key l) ≡ true → after key l ≡ Some (drop (length key) l)
unfolding after
after_rest [] l e = refl
after_rest (k ∷ key) [] e = true_false (sym e)
after_rest (k ∷ key) (b ∷ l) e = by_test (eqb k b) (after_rest key l) e
  where
    by_test : (t : Bool) → (present (after key l) ≡ true → after key l ≡ Some (drop (length key) l))
        → present (when t then after key l else None) ≡ true → (when t then after key l else None) ≡ Some (drop (length key) l)
    by_test true f e = f e
    by_test false f e = true_false (sym e)

pub key_fits : (key l : List ℕ) → present (after key l) ≡ true → length key ≤ length l
key_fits key l e = by_test (leb (length key) (length l)) refl
  where
    by_test : (t : Bool) → leb (length key) (length l) ≡ t → length key ≤ length l
    by_test true h = leb-true _ _ h
    by_test false h = true_false (sym e ∙ ap present (after_short key l (leb-false _ _ h)))

pub no_key : (key l : List ℕ) → present (after key l) ≡ false → after key l ≡ None
no_key key l e = by_case (after key l) e
  where
    by_case : (o : Option (List ℕ)) → present o ≡ false → o ≡ None
    by_case None e = refl
    by_case (Some m) e = true_false e

-- the bytes before a byte are no more than there are
pub before_le : (b : ℕ) (l : List ℕ) → before b l ≤ length l
unfolding before
before_le b [] = omega arith
before_le b (c ∷ l) = elim (same? c b) [
  | inl s ↦ rw (here b c l s.0) (omega arith)
  | inr s ↦ rw (later b c l s.0) (omega (arith, before_le b l))
]

module _ (b c : ℕ) (l : List ℕ) where
  -- the byte is among those behind the first, or isn't
  pub tail_has : (c ≡ b → ⊥) → before b (c ∷ l) < length (c ∷ l) → before b l < length l
  tail_has n h = omega (arith, later b c l n)

  tail_lacks : (c ≡ b → ⊥) → length (c ∷ l) ≤ before b (c ∷ l) → length l ≤ before b l
  tail_lacks n h = omega (arith, later b c l n)

  head_lacks : length (c ∷ l) ≤ before b (c ∷ l) → c ≡ b → ⊥
  head_lacks h e = omega (arith, here b c l e)

-- the first line
pub first_line_lem : (l : List ℕ) → before newline l < length l → first_line l ≡ Some (take (before newline l) l, drop (suc (before newline l)) l)
unfolding first_line
first_line_lem [] h = let z : ⊥ = omega (arith, before_le newline []) in absurd z
first_line_lem (c ∷ l) h = elim (same? c newline) [
  | inl s ↦ rw (here newline c l s.0, s.1, first_line)
  | inr s ↦ rw (later newline c l s.0, s.1, first_line_lem l (tail_has newline c l s.0 h), first_line)
]

pub no_line : (l : List ℕ) → length l ≤ before newline l → first_line l ≡ None
unfolding first_line
no_line [] h = refl
no_line (c ∷ l) h =
    let n = head_lacks newline c l h in
    rw (ne_eqb c newline n, no_line l (tail_lacks newline c l n h), first_line)

-- the parts between commas: the first one, and those behind its comma
pub parts_more : (l : List ℕ) → before comma l < length l → parts l ≡ take (before comma l) l ∷ parts (drop (suc (before comma l)) l)
unfolding parts
parts_more [] h = let z : ⊥ = omega (arith, before_le comma []) in absurd z
parts_more (c ∷ l) h = elim (same? c comma) [
  | inl s ↦ rw (here comma c l s.0, s.1)
  | inr s ↦ rw (later comma c l s.0, s.1, parts_more l (tail_has comma c l s.0 h))
]

pub parts_last : (l : List ℕ) → length l ≤ before comma l → parts l ≡ l ∷ []
unfolding parts
parts_last [] h = refl
parts_last (c ∷ l) h =
    let n = head_lacks comma c l h in
    rw (ne_eqb c comma n, parts_last l (tail_lacks comma c l n h))

-- a byte found at e from a position on: the part before it, and what stands behind it
module _ (b : ℕ) (l : List ℕ) (at e : ℕ) (found : e ≡ at + before b (drop at l)) where
  pub found_part : take (before b (drop at l)) (drop at l) ≡ take (e - at) (drop at l)
  found_part = let n : before b (drop at l) ≡ e - at = omega arith in ap (λ n. take n (drop at l)) n

  pub found_rest : drop (suc (before b (drop at l))) (drop at l) ≡ drop (e + 1) l
  found_rest =
      let n : at + suc (before b (drop at l)) ≡ e + 1 = omega arith in
      drop-drop (suc (before b (drop at l))) at l ∙ ap (λ n. drop n l) n

  pub found_inside : at ≤ length l → e < length l → before b (drop at l) < length (drop at l)
  found_inside h k = omega (arith, length-drop at l)

  pub found_outside : length l ≤ e → length (drop at l) ≤ before b (drop at l)
  found_outside h = omega (arith, length-drop at l)

  pub found_le : at ≤ length l → e ≤ length l
  found_le h = omega (arith, length-drop at l, before_le b (drop at l))

-- a part up to the end is all that is left
pub part_to_end : (l : List ℕ) (at : ℕ) → take (length l - at) (drop at l) ≡ drop at l
part_to_end l at = take_all (length l - at) (drop at l) (omega (arith, length-drop at l))
