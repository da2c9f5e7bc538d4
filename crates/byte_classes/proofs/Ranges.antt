-- Ranges of bytes, and texts whose characters are a range: they follow one another in their codes. A byte stands in such a text exactly if it is in
-- the range, and its place is counted from the range's first.
use Prim.Native.Nat.{ℕ, suc, ◌-◌, ◌≤◌, ◌<◌}
use Prim.Native.Char.{Char, code}
use Prim.Native.String.{String, [] as end, ◌∷◌ as ◌then◌}
use mathlib.Core.Path.{◌≡◌, refl, ap, sym, ◌∙◌}
use mathlib.Core.Bool.{Bool, true, false, ◌&&◌, and-false}
use mathlib.Core.Logic.{◌⊎◌, inl, inr, ⊎_elim}
use Rattle.std.specs.Prelude.{Some, None}
use native.Mathlib.Omega.{arith}
use borrow.Author.Tests.{le-leb, lt-leb, leb-true, leb-false, eqb-true, eq-eqb, ne_eqb}
use lib.Dec.{eqb, leb}
use Rattle.laws.specs.Lists.{when◌then◌else◌}
use Rattle.laws.specs.Options.{mapped, present}
use Rattle.laws.proofs.EmptyLists.{true_or_false}
use Rattle.laws.proofs.Options.{none_some, some_inj}
use Rattle.laws.proofs.Tests.{same?, and_true_left, and_true_right}
use Rattle.byte_classes.specs.Classes.{within, place_in, is_in}

pub inside : (a z b : ℕ) → a ≤ b → b ≤ z → within a z b ≡ true
inside a z b h k = simp (le-leb a b h, le-leb b z k)

pub below : (a z b : ℕ) → b < a → within a z b ≡ false
below a z b h = simp (lt-leb a b h)

pub above : (a z b : ℕ) → z < b → within a z b ≡ false
above a z b h = simp (lt-leb b z h, and-false)

-- a byte is in a range, or outside it
pub range? : (a z b : ℕ) → ((a ≤ b) × (b ≤ z)) ⊎ ((b < a) ⊎ (z < b))
range? a z b = elim (true_or_false (leb a b)) [
  | inl h ↦ elim (true_or_false (leb b z)) [ inl k ↦ inl (leb-true a b h, leb-true b z k) | inr k ↦ inr (inr (leb-false b z k)) ]
  | inr h ↦ inr (inl (leb-false a b h))
]

pub outside : (a z b : ℕ) → ((b < a) ⊎ (z < b)) → within a z b ≡ false
outside a z b h = ⊎_elim (below a z b) (above a z b) h

-- the ends of a range that a byte is in
pub ends : (a z b : ℕ) → within a z b ≡ true → (a ≤ b) × (b ≤ z)
ends a z b h = (leb-true a b (and_true_left _ (leb b z) h), leb-true b z (and_true_right (leb a b) _ h))

-- the codes of a text are those from a on, and z comes next
unfoldable pub runs : ℕ → ℕ → String → Bool
runs a z end = eqb a z
runs a z (c then s) = eqb (code c) a && runs (suc a) z s

-- a run is no shorter than nothing
run_grows : (s : String) (a z : ℕ) → runs a z s ≡ true → a ≤ z
unfolding runs
run_grows end a z e = omega (arith, eqb-true a z e)
run_grows (c then s) a z e = omega (arith, run_grows s (suc a) z (and_true_right (eqb (code c) a) _ e))

-- its first character is not b
other : (c : Char) (a b : ℕ) (t : Bool) → eqb (code c) a && t ≡ true → (b ≡ a → ⊥) → eqb b (code c) ≡ false
other c a b t e h = ne_eqb b (code c) (λ q. h (q ∙ eqb-true (code c) a (and_true_left _ t e)))

place_outside : (s : String) (a z b : ℕ) → runs a z s ≡ true → ((b < a) ⊎ (z ≤ b)) → place_in s b ≡ None
unfolding runs place_in
place_outside end a z b e h = refl
place_outside (c then s) a z b e h =
    let later = and_true_right (eqb (code c) a) _ e in
    let long = run_grows s (suc a) z later in
    rw (other c a b _ e (λ q. ⊎_elim (λ k. omega (arith, q, k)) (λ k. omega (arith, q, k, long)) h))
    (ap (mapped suc) (place_outside s (suc a) z b later (⊎_elim (λ k. inl (omega (arith, k))) (λ k. inr k) h)))

place_inside : (s : String) (a z b : ℕ) → runs a z s ≡ true → a ≤ b → b < z → place_in s b ≡ Some (b - a)
unfolding runs place_in
place_inside end a z b e h k = absurd (omega (arith, h, k, eqb-true a z e))
place_inside (c then s) a z b e h k =
    let first = eqb-true (code c) a (and_true_left _ (runs (suc a) z s) e) in
    let later = and_true_right (eqb (code c) a) _ e in
    elim (same? b a) [
      | inl (q, _) ↦ rw (eq-eqb b (code c) (q ∙ sym first)) (ap Some (omega (arith, q)))
      | inr (q, _) ↦ rw (other c a b _ e q) (ap (mapped suc) (place_inside s (suc a) z b later (omega (arith, h, q)) k) ∙ ap Some (omega (arith, h, q)))
    ]

-- the place of a byte in a text that is a range
pub place : (s : String) (a z b : ℕ) → runs a (suc z) s ≡ true → place_in s b ≡ (when within a z b then Some (b - a) else None)
place s a z b e = elim (range? a z b) [
  | inl (h, k) ↦ rw (inside a z b h k) (place_inside s a (suc z) b e h (omega (arith, k)))
  | inr h ↦ rw (outside a z b h) (place_outside s a (suc z) b e (⊎_elim (λ k. inl k) (λ k. inr (omega (arith, k))) h))
]

pub in_range_lem : (s : String) (a z b : ℕ) → runs a (suc z) s ≡ true → is_in s b ≡ within a z b
in_range_lem s a z b e = ap present (place s a z b e) ∙ by_test (within a z b)
  where
    by_test : (t : Bool) → present (when t then Some (b - a) else None) ≡ t
    by_test true = refl
    by_test false = refl

-- a byte that has a place
pub placed : (s : String) (a z b d : ℕ) → runs a (suc z) s ≡ true → place_in s b ≡ Some d → (a ≤ b) × ((b ≤ z) × (d ≡ b - a))
placed s a z b d e h = by_test (within a z b) refl (sym (place s a z b e) ∙ h)
  where
    by_test : (t : Bool) → within a z b ≡ t → (when t then Some (b - a) else None) ≡ Some d → (a ≤ b) × ((b ≤ z) × (d ≡ b - a))
    by_test true w q = let (k, l) = ends a z b w in (k, (l, sym (some_inj q)))
    by_test false w q = none_some q
