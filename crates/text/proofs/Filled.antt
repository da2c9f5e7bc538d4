-- Rows from values in columns, and back.
use mathlib.Core.Path.{◌≡◌, refl, ap₂, sym, ◌∙◌}
use mathlib.Core.Bool.{Bool, true, false}
use mathlib.Core.Logic.{◌⊎◌, inl, inr, ◌≢◌}
use mathlib.Core.List.{List, [], ◌∷◌, map}
use Prim.Native.Nat.{ℕ, ◌<◌}
use native.Mathlib.Omega.{arith}
use lib.Dec.{eqb, ltb}
use lib.ListN.{length, set, replicate, length-set, length-replicate}
use lib.Seq.{get_or-set_same, get_or-set_other, ext_get_or}
use borrow.Author.Tests.{ltb-true, eqb-false, ne_eqb}
use Rattle.laws.specs.Lists.{any, member, every}
use Rattle.laws.proofs.Tests.{true_false, same?, or_false_left, or_false_right, and_true_right}
use Rattle.laws.proofs.EachMember.{both_true}
use Rattle.relation.specs.Rows.{Row, slot}
use Rattle.relation.specs.Shows.{Shaped}
use Rattle.relation.proofs.Shapes.{zeros_shaped}
use Rattle.text.specs.Lines.{ascending, filled}

pub filled_length : (r : Row) (cs vs : List ℕ) → length (filled r cs vs) ≡ length r
unfolding filled
filled_length r [] vs = refl
filled_length r (c ∷ cs) [] = refl
filled_length r (c ∷ cs) (v ∷ vs) = filled_length (set r c v) cs vs ∙ length-set r c v

pub filled_other : (r : Row) (cs vs : List ℕ) (c : ℕ) → member c cs ≡ false → slot (filled r cs vs) c ≡ slot r c
unfolding filled any
filled_other r [] vs c e = refl
filled_other r (d ∷ cs) [] c e = refl
filled_other r (d ∷ cs) (v ∷ vs) c e =
    filled_other (set r d v) cs vs c (or_false_right (eqb c d) (member c cs) e)
    ∙ get_or-set_other r d c v 0 (eqb-false c d (or_false_left (eqb c d) (member c cs) e))

-- a number below ascending ones is none of them
pub below_all : (b c : ℕ) (cs : List ℕ) → b < c → ascending (c ∷ cs) ≡ true → member b (c ∷ cs) ≡ false
unfolding any ascending
below_all b c [] h e = rw (ne_eqb b c (omega arith))
below_all b c (d ∷ cs) h e =
    let (less, rest) = both_true (ltb c d) (ascending (d ∷ cs)) e in
    let k = ltb-true c d less in
    rw (ne_eqb b c (omega arith)) (below_all b d cs (omega arith) rest)

pub ascending_other : (c : ℕ) (cs : List ℕ) → ascending (c ∷ cs) ≡ true → member c cs ≡ false
unfolding any ascending
ascending_other c [] e = refl
ascending_other c (d ∷ cs) e =
    let (less, rest) = both_true (ltb c d) (ascending (d ∷ cs)) e in
    below_all c d cs (ltb-true c d less) rest

pub ascending_tail : (c : ℕ) (cs : List ℕ) → ascending (c ∷ cs) ≡ true → ascending cs ≡ true
unfolding ascending
ascending_tail c [] e = refl
ascending_tail c (d ∷ cs) e = and_true_right (ltb c d) (ascending (d ∷ cs)) e

-- the values are found again in the columns that were filled
pub filled_slots : (w : ℕ) (r : Row) (cs vs : List ℕ) → length r ≡ w → ascending cs ≡ true → every (λ c. ltb c w) cs ≡ true → length vs ≡ length cs
    → map (slot (filled r cs vs)) cs ≡ vs
unfolding filled every
filled_slots w r [] [] h a b e = refl
filled_slots w r [] (v ∷ vs) h a b e = let z : ⊥ = omega arith in absurd z
filled_slots w r (c ∷ cs) [] h a b e = let z : ⊥ = omega arith in absurd z
filled_slots w r (c ∷ cs) (v ∷ vs) h a b e =
    let (low, lows) = both_true (ltb c w) (every (λ c. ltb c w) cs) b in
    let below = ltb-true c w low in
    ap₂ (λ (x : ℕ) (l : List ℕ). x ∷ l)
    (filled_other (set r c v) cs vs c (ascending_other c cs a) ∙ get_or-set_same r c v 0 (omega arith))
    (filled_slots w (set r c v) cs vs (length-set r c v ∙ h) (ascending_tail c cs a) lows (omega arith))

-- the columns that are filled by a function hold its values
filled_by : (f : ℕ → ℕ) (r : Row) (cs : List ℕ) (c : ℕ) → c < length r → member c cs ≡ true → slot (filled r cs (map f cs)) c ≡ f c
unfolding filled any
filled_by f r [] c h e = true_false (sym e)
filled_by f r (d ∷ cs) c h e = by_member (member c cs) refl (filled_by f (set r d (f d)) cs c (rw (length-set r d (f d)) h)) (same? c d)
  where
    by_member : (t : Bool) → member c cs ≡ t → (member c cs ≡ true → slot (filled (set r d (f d)) cs (map f cs)) c ≡ f c)
        → ((c ≡ d) × (eqb c d ≡ true)) ⊎ ((c ≢ d) × (eqb c d ≡ false)) → slot (filled (set r d (f d)) cs (map f cs)) c ≡ f c
    by_member true q g s = g q
    by_member false q g (inl (s, _)) =
        filled_other (set r d (f d)) cs (map f cs) c q
        ∙ rw s (get_or-set_same r d (f d) 0 (rw s at h))
    by_member false q g (inr (_, s)) = true_false (sym e ∙ rw (s, q))

-- a row of w zeros
abbrev zeros : ℕ → Row
zeros w = replicate w 0

pub zeros_zero : (w c : ℕ) → slot (zeros w) c ≡ 0
zeros_zero w c = (zeros_shaped w).absent c refl

-- a row is filled from its own values
pub filled_own : (w : ℕ) (cs : List ℕ) (r : Row) → Shaped w (λ c. member c cs) r → filled (zeros w) cs (map (slot r) cs) ≡ r
filled_own w cs r h =
    let size = filled_length (zeros w) cs (map (slot r) cs) in
    ext_get_or 0 (filled (zeros w) cs (map (slot r) cs)) r (size ∙ length-replicate {A = ℕ} w 0 ∙ sym h.slots) λ c below.
    by_member c (rw size at below) (member c cs) refl
  where
    by_member : (c : ℕ) → c < length (zeros w) → (t : Bool) → member c cs ≡ t → slot (filled (zeros w) cs (map (slot r) cs)) c ≡ slot r c
    by_member c below true e = filled_by (slot r) (zeros w) cs c below e
    by_member c below false e = filled_other (zeros w) cs (map (slot r) cs) c e ∙ zeros_zero w c ∙ sym (h.absent c e)
