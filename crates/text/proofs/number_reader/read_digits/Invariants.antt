use Prim.Native.Nat.{◌≤◌}
use mathlib.Core.Path.{◌≡◌}
use lib.ListN.{drop}
use Rattle.text.specs.Numbers.{max_number}
use Rattle.text.specs.Readings.{value_in}
use Rattle.text.proofs.number_reader.read_digits.Given as goal

abbrev pub invariant-loop-i : goal.invariant-loop-i
invariant-loop-i l = (l.value ≤ max_number) × (value_in l.value (drop l.i l.digits) ≡ value_in 0 l.digits)
