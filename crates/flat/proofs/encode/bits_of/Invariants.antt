use Prim.Native.Nat.{◌≤◌, ◌-◌, ◌^◌}
use mathlib.Core.Path.{◌≡◌}
use Rattle.relation.specs.Rows.{columns, cols_of}
use Rattle.flat.specs.Flat.{bit_set}
use Rattle.flat.proofs.encode.bits_of.Given as goal

abbrev pub invariant-loop-c : goal.invariant-loop-c
invariant-loop-c l = (l.c ≤ columns) × (l.worth ≡ 2 ^ l.c) × (l.bits ≡ bit_set l.c (cols_of columns l.set))

abbrev pub decreases-loop-c : goal.decreases-loop-c
decreases-loop-c l = columns - l.c
