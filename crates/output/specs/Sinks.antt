-- Where the bytes of a text go. A text is put byte after byte, and each byte leaves a sink behind it.
use Rattle.std.specs.Prelude.{◌≡◌, List, [], ◌∷◌, ℕ, ◌+◌, leb, ltb, length, set}
use Rattle.laws.specs.Lists.{when◌then◌else◌}
use Rattle.output.specs.declared.Measure.{Measure}
use Rattle.output.specs.declared.Lent.{Lent}

-- what a text leaves behind, where `put` says what a byte does
unfoldable pub puts : {S : Type 0} → (S → ℕ → S) → S → List ℕ → S
puts put s [] = s
puts put s (b ∷ text) = puts put (put s b) text

-- a text is put into a sink
pub record Puts {S : Type 0} (put : S → ℕ → S) (text : List ℕ) (before after : S) : Type 0 where
  pub is : after ≡ puts put before text

-- one byte more; at the stop the size stays, so that no text is too long to be measured
abbrev pub measured : Measure → ℕ → Measure
measured m b = record { stop = m.stop; size = when ltb m.size m.stop then m.size + 1 else m.size }

-- nothing is measured yet; one past the end says that a text doesn't fit
abbrev pub measure_of : List ℕ → Measure
measure_of slice = record { stop = length slice + 1; size = 0 }

-- one byte more, within the slice; at its end the place goes one past it, which says that a text doesn't fit, and then stays
abbrev pub stored : Lent → ℕ → Lent
stored l b =
    when leb l.at (length l.out.now)
    then record { out = record l.out { now = set l.out.now l.at b }; at = l.at + 1 }
    else l
