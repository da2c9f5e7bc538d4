-- A text that is measured first and then stored: what is replied, and what the lent slice holds.
use mathlib.Core.Path.{◌≡◌, refl, ap, ◌∙◌, sym}
use mathlib.Core.Bool.{Bool, true, false}
use mathlib.Core.List.{List, [], ◌∷◌, ◌++◌}
use Prim.Native.Nat.{ℕ, min, ◌+◌, ◌≤◌, ◌<◌}
use native.Mathlib.Omega.{arith}
use native.Mathlib.Nat.{zero-add}
use native.Mathlib.Numerals.{add-one}
use native.Mathlib.Decide.{dec_le, dec_lt}
use borrow.Author.Tests.{le-leb, lt-leb, lt-ltb, le-ltb}
use lib.Dec.{leb}
use lib.ListN.{length, drop, set, length-set}
use lib.Seq.{sets, sets-eq, set_out}
use Rattle.laws.specs.Lists.{when◌then◌else◌}
use Rattle.std.specs.Prelude.{Ok, Err}
use Rattle.database.specs.declared.Refusal.TheVariants.{ShortSlice}
use Rattle.output.specs.Replies.{write_reply, slice_after}
use Rattle.output.specs.declared.Measure.{Measure}
use Rattle.output.specs.declared.Lent.{Lent}
use Rattle.output.specs.Sinks.{puts, Puts, measured, measure_of, stored}

-- one byte more, and none past the stop or the slice's end
measured_more : (m : Measure) (b : ℕ) → m.size < m.stop → measured m b ≡ record { stop = m.stop; size = m.size + 1 }
measured_more m b h = rw (lt-ltb m.size m.stop h)

measured_over : (m : Measure) (b : ℕ) → m.stop ≤ m.size → measured m b ≡ m
measured_over m b h = rw (le-ltb m.size m.stop h)

abbrev with_byte : Lent → ℕ → Lent
with_byte l b = record { out = record l.out { now = set l.out.now l.at b }; at = l.at + 1 }

stored_more : (l : Lent) (b : ℕ) → l.at ≤ length l.out.now → stored l b ≡ with_byte l b
stored_more l b h = rw (le-leb l.at (length l.out.now) h)

stored_over : (l : Lent) (b : ℕ) → length l.out.now < l.at → stored l b ≡ l
stored_over l b h = rw (lt-leb l.at (length l.out.now) h)

-- a text is measured up to the stop
size_of : (text : List ℕ) (m : Measure) → m.size ≤ m.stop → (puts measured m text).size ≡ min (m.size + length text) m.stop
unfolding puts
size_of [] m h = omega arith
size_of (b ∷ text) m h = elim (dec_lt m.size m.stop) [
  | yes k ↦
      ap (λ (x : Measure). (puts measured x text).size) (measured_more m b k)
      ∙ size_of text (record { stop = m.stop; size = m.size + 1 }) (omega arith) ∙ ap (λ n. min n m.stop) (omega arith)
  | no k ↦ ap (λ (x : Measure). (puts measured x text).size) (measured_over m b (omega arith)) ∙ size_of text m h ∙ omega arith
]

-- a text that fits, stored
slice_of : (text : List ℕ) (l : Lent) → l.at + length text ≤ length l.out.now → (puts stored l text).out.now ≡ sets l.out.now l.at text
unfolding puts
slice_of [] l h = refl
slice_of (b ∷ text) l h =
    ap (λ (x : Lent). (puts stored x text).out.now) (stored_more l b (omega arith))
    ∙ slice_of text (with_byte l b) (rw (length-set l.out.now l.at b) (omega arith)) ∙ ap (λ n. sets (set l.out.now l.at b) n text) (add-one l.at)

-- the place behind a text, and the one past the end where it doesn't fit
place_of : (text : List ℕ) (l : Lent) → l.at ≤ length l.out.now + 1 → (puts stored l text).at ≡ min (l.at + length text) (length l.out.now + 1)
unfolding puts
place_of [] l h = omega arith
place_of (b ∷ text) l h = elim (dec_le l.at (length l.out.now)) [
  | yes k ↦
      ap (λ (x : Lent). (puts stored x text).at) (stored_more l b k)
      ∙ place_of text (with_byte l b) (rw (length-set l.out.now l.at b) (omega arith))
      ∙ rw (length-set l.out.now l.at b) (ap (λ n. min n (length l.out.now + 1)) (omega arith))
  | no k ↦ ap (λ (x : Lent). (puts stored x text).at) (stored_over l b (omega arith)) ∙ place_of text l h ∙ omega arith
]

pub puts_place : {text : List ℕ} {l k : Lent} → l.at ≤ length l.out.now → Puts stored text l k → k.at ≡ min (l.at + length text) (length l.out.now + 1)
puts_place {text} {l} h p = ap (λ (x : Lent). x.at) p.is ∙ place_of text l (omega arith)

-- at the end there is no room for a byte
pub puts_end : (l : Lent) (b : ℕ) → l.at ≡ length l.out.now → Puts stored (b ∷ []) l (record l { at = l.at + 1 })
unfolding puts
puts_end l b e = record { is = sym (stored_more l b (omega arith) ∙ (λ i. record { out = record l.out { now = set_out l.out.now l.at b (omega arith) i }; at = l.at + 1 })) }

length_of : (text : List ℕ) (l : Lent) → length (puts stored l text).out.now ≡ length l.out.now
unfolding puts
length_of [] l = refl
length_of (b ∷ text) l = length_of text (stored l b) ∙ by_test (leb l.at (length l.out.now))
  where
    by_test : (t : Bool) → length (when t then with_byte l b else l).out.now ≡ length l.out.now
    by_test true = length-set l.out.now l.at b
    by_test false = refl

pub puts_length : {text : List ℕ} {l k : Lent} → Puts stored text l k → length k.out.now ≡ length l.out.now
puts_length {text} {l} p = ap (λ (x : Lent). length x.out.now) p.is ∙ length_of text l

-- the slice stays the one that was lent
reference_of : (text : List ℕ) (l : Lent) → l.out.ghost_name ≡ (puts stored l text).out.ghost_name
unfolding puts
reference_of [] l = refl
reference_of (b ∷ text) l = by_test (leb l.at (length l.out.now)) ∙ reference_of text (stored l b)
  where
    by_test : (t : Bool) → l.out.ghost_name ≡ (when t then with_byte l b else l).out.ghost_name
    by_test true = refl
    by_test false = refl

pub same_reference : {text : List ℕ} {l k : Lent} → Puts stored text l k → l.out.ghost_name ≡ k.out.ghost_name
same_reference {text} {l} p = reference_of text l ∙ ap (λ (x : Lent). x.out.ghost_name) (sym p.is)

-- the slice is short where the size is past its end, and else the size is the text's length
module _ (slice : List ℕ) {text : List ℕ} {start m : Measure} (of : start ≡ measure_of slice) (p : Puts measured text start m) where
  size_is : m.size ≡ min (length text) (length slice + 1)
  size_is =
      ap (λ (n : Measure). n.size) (p.is ∙ ap (λ n. puts measured n text) of) ∙ size_of text (measure_of slice) (omega arith)
      ∙ omega arith

  pub short_reply : length slice < m.size → (Err ShortSlice ≡ write_reply text slice) × (slice ≡ slice_after text slice)
  short_reply h = let e = lt-leb (length text) (length slice) (omega (arith, size_is)) in (rw e, rw e)

  -- the text is stored from the slice's start on
  pub whole_reply : {l k : Lent} {end : List ℕ} → l.out.now ≡ slice → l.at ≡ 0 → m.size ≤ length slice → Puts stored text l k → end ≡ k.out.now
      → (Ok m.size ≡ write_reply text slice) × (end ≡ slice_after text slice)
  whole_reply {l} a z h q e =
      let within : length text ≤ length slice = omega (arith, size_is) in
      let fits = le-leb (length text) (length slice) within in (
        rw fits (ap Ok (omega (arith, size_is))),
        rw fits
            (e ∙ ap (λ (x : Lent). x.out.now) q.is ∙ slice_of text l (rw (a, z) (omega arith)) ∙ (λ i. sets (a i) (z i) text) ∙ sets-eq text slice 0 (omega arith)
            ∙ ap (λ n. text ++ drop n slice) (zero-add (length text))),
      )
