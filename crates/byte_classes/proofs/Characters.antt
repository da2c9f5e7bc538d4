-- The characters of a class are its range.
use Prim.Native.Nat.{ℕ, zero, suc, ◌-◌, ◌≤◌}
use Prim.Native.Char.{Char, code}
use Prim.Native.String.{[] as end, ◌∷◌ as ◌then◌}
use mathlib.Core.Path.{◌≡◌, refl}
use mathlib.Core.Bool.{Bool, true, false}
use Rattle.std.specs.Prelude.{Some, None}
use lib.Dec.{eqb}
use Rattle.laws.specs.Lists.{when◌then◌else◌}
use Rattle.laws.specs.Options.{mapped, present}
use Rattle.byte_classes.specs.Classes.{within, place_in, is_in, decimal, lower_case}
use Rattle.byte_classes.proofs.Ranges.{runs, in_range_lem, placed}

pub digit_in : (b : ℕ) → is_in decimal b ≡ within 48 57 b
unfolding runs
digit_in b = in_range_lem decimal 48 57 b refl

pub letter_in : (b : ℕ) → is_in lower_case b ≡ within 97 122 b
unfolding runs
letter_in b = in_range_lem lower_case 97 122 b refl

pub digit_placed : (b d : ℕ) → place_in decimal b ≡ Some d → (48 ≤ b) × ((b ≤ 57) × (d ≡ b - 48))
unfolding runs
digit_placed b d h = placed decimal 48 57 b d refl h

-- a text of one character
pub sign_in : (c : Char) (b : ℕ) → is_in (c then end) b ≡ eqb b (code c)
unfolding place_in
sign_in c b = by_test (eqb b (code c))
  where
    by_test : (t : Bool) → present (when t then Some zero else mapped suc None) ≡ t
    by_test true = refl
    by_test false = refl
