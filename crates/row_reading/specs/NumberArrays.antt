-- Lists of numbers as the code holds them: an array with room for a number a column, and how many there are.
use Rattle.std.specs.Prelude.{Option}
use Rattle.std.specs.Prelude.{List, ◌++◌, ℕ, ◌+◌, ◌-◌, leb, length, take, set, replicate}
use Rattle.relation.specs.Rows.{columns}
use Rattle.row_reading.specs.declared.list_reader.Numbers.{Numbers}
use Rattle.text.specs.Lines.{in_range}

-- a list of numbers as an array, and back
abbrev pub numbers_of : List ℕ → Numbers
numbers_of l = record { count = length l; values = l ++ replicate (columns - length l) 0 }

abbrev pub listed : Numbers → List ℕ
listed ns = take ns.count ns.values

abbrev pub with_number : Numbers → ℕ → Numbers
with_number ns n = record { count = ns.count + 1; values = set ns.values ns.count n }

-- no more numbers than w
abbrev pub few : ℕ → Option (List ℕ) → Option (List ℕ)
few w o = in_range (λ l. leb (length l) w) o
