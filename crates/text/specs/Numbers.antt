-- Bytes, numbers and lists of numbers in texts.
use Rattle.std.specs.Prelude.{Bool, true, false, not, ◌&&◌, List, [], ◌∷◌, ◌++◌, ℕ, zero, suc, ◌+◌, ◌-◌, ◌*◌, ◌/◌, ◌%◌, eqb, leb, ltb}
use Rattle.std.specs.Prelude.{Option, Some, None}
use Prim.Native.Char.{code}
use Prim.Native.String.{String, [] as end, ◌∷◌ as ◌then◌}
use Rattle.laws.specs.Lists.{when◌then◌else◌, every, null}

-- "ASCII": the bytes of a word
unfoldable pub bytes : String → List ℕ
bytes end = []
bytes (c then s) = code c ∷ bytes s

abbrev pub comma : ℕ
comma = 44

-- "byte 10"
abbrev pub newline : ℕ
newline = 10

-- "values 0–4,294,967,295"
abbrev pub max_number : ℕ
max_number = 4294967295

abbrev pub is_digit : ℕ → Bool
is_digit b = leb 48 b && leb b 57

-- the value of digits that follow those of value n
unfoldable pub value_from : ℕ → List ℕ → ℕ
value_from n [] = n
value_from n (b ∷ l) = value_from (n * 10 + (b - 48)) l

abbrev pub is_zero : List ℕ → Bool
is_zero [] = false
is_zero (b ∷ []) = false
is_zero (b ∷ (c ∷ l)) = eqb b 48

-- "Numbers are decimal without leading zeros; one outside its range is off the form"
unfoldable pub number : List ℕ → Option ℕ
number l =
    when not (null l) && every is_digit l && not (is_zero l) && leb (value_from 0 l) max_number
    then Some (value_from 0 l) else None

-- the digits of n before those of tail
unfoldable pub digits_before : ℕ → ℕ → List ℕ → List ℕ
digits_before zero n tail = tail
digits_before (suc fuel) n tail =
    elim (ltb n 10) [ true ↦ (48 + n) ∷ tail | false ↦ digits_before fuel (n / 10) ((48 + n % 10) ∷ tail) ]

abbrev pub digits : ℕ → List ℕ
digits n = digits_before (suc n) n []

-- the parts of a line between its commas
abbrev pub into_first : ℕ → List (List ℕ) → List (List ℕ)
into_first b [] = (b ∷ []) ∷ []
into_first b (l ∷ ls) = (b ∷ l) ∷ ls

unfoldable pub parts : List ℕ → List (List ℕ)
parts [] = [] ∷ []
parts (b ∷ l) = when eqb b comma then [] ∷ parts l else into_first b (parts l)

-- each part read, or none where one is off the form
unfoldable pub read_all : List (List ℕ) → Option (List ℕ)
read_all [] = Some []
read_all (l ∷ ls) = elim (number l) [ None ↦ None | Some n ↦ elim (read_all ls) [ None ↦ None | Some ns ↦ Some (n ∷ ns) ] ]

-- numbers with "commas between"
abbrev pub numbers : List ℕ → Option (List ℕ)
numbers l = read_all (parts l)

unfoldable pub comma_digits : List ℕ → List ℕ
comma_digits [] = []
comma_digits (n ∷ []) = digits n
comma_digits (n ∷ (m ∷ l)) = digits n ++ (comma ∷ comma_digits (m ∷ l))
