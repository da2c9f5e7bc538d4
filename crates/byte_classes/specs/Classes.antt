-- The classes of bytes (02, U7): the class of a byte by its range, and what belongs to a class by its characters.
use Rattle.std.specs.Prelude.{◌≡◌, Bool, true, not, ◌&&◌, List, [], ◌∷◌, ℕ, zero, suc, ◌-◌, eqb, leb}
use Rattle.std.specs.Prelude.{Option, Some, None}
use Prim.Native.Char.{code}
use Prim.Native.String.{String, [] as end, ◌∷◌ as ◌then◌}
use Rattle.laws.specs.Lists.{when◌then◌else◌, every}
use Rattle.laws.specs.Options.{mapped, present}
use Rattle.byte_classes.specs.declared.ByteClass.{ByteClass}
use Rattle.byte_classes.specs.declared.ByteClass.TheVariants.{Digit, Letter, Comma, Equals, LineEnd, Other}

-- a byte of a range, both ends in it
abbrev pub within : ℕ → ℕ → ℕ → Bool
within first last b = leb first b && leb b last

-- "test bytes by their ranges"; a digit comes with its value
unfoldable pub class_of : ℕ → ByteClass
class_of b =
    when within 48 57 b then Digit (b - 48) else (
    when within 97 122 b then Letter else (
    when eqb b 44 then Comma else (
    when eqb b 61 then Equals else (
    when eqb b 10 then LineEnd else Other))))

-- the place of a byte among the characters of a text, from 0
unfoldable pub place_in : String → ℕ → Option ℕ
place_in end b = None
place_in (c then s) b = when eqb b (code c) then Some zero else mapped suc (place_in s b)

abbrev pub is_in : String → ℕ → Bool
is_in s b = present (place_in s b)

abbrev pub decimal : String
decimal = "0123456789"

abbrev pub lower_case : String
lower_case = "abcdefghijklmnopqrstuvwxyz"

-- the characters of all classes but the last
abbrev pub classed : List String
classed = decimal ∷ (lower_case ∷ ("," ∷ ("=" ∷ ("\n" ∷ []))))

-- "the one class it belongs to: digit, lower-case letter, comma, equals sign, line end or other"
unfoldable pub Belongs : ℕ → ByteClass → Type 0
Belongs b (Digit value) = place_in decimal b ≡ Some value
Belongs b Letter = is_in lower_case b ≡ true
Belongs b Comma = is_in "," b ≡ true
Belongs b Equals = is_in "=" b ≡ true
Belongs b LineEnd = is_in "\n" b ≡ true
Belongs b Other = every (λ s. not (is_in s b)) classed ≡ true
