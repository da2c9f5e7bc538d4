-- What the readers of a text's parts reply, as the definitions have it.
use Rattle.std.specs.Prelude.{Bool, ◌&&◌, List, [], ◌∷◌, ℕ, suc, eqb, leb}
use Rattle.std.specs.Prelude.{Option, Some, None}
use Rattle.laws.specs.Lists.{when◌then◌else◌, every}
use Rattle.laws.specs.Options.{present, ◌then◌}
use Rattle.text.specs.Numbers.{max_number, is_digit, value_from, numbers}
use Rattle.text.specs.Lines.{after, if_empty}

-- the value of digits that follow those of value n, leading zeros or not
unfoldable pub value_in : ℕ → List ℕ → Option ℕ
value_in n l = when every is_digit l && leb (value_from n l) max_number then Some (value_from n l) else None

-- two numbers
abbrev pub paired : ℕ → ℕ → ℕ × ℕ
paired a b = (a, b)

-- a line is a word, the word as its bytes
abbrev pub is_word : List ℕ → List ℕ → Bool
is_word s l = present (if_empty (tt {0}) (after s l))

-- how many bytes stand before the first b
unfoldable pub before : ℕ → List ℕ → ℕ
before b [] = 0
before b (c ∷ l) = when eqb c b then 0 else suc (before b l)

-- the numbers behind a key, the key as its bytes
abbrev pub numbers_behind : List ℕ → List ℕ → Option (List ℕ)
numbers_behind key l = after key l then numbers
