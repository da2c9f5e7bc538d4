use Prim.Native.Nat.{◌≤◌, ◌-◌, ◌/◌, ◌^◌}
use mathlib.Core.Path.{◌≡◌}
use mathlib.Core.Bool.{false}
use Rattle.laws.proofs.Indexed.{Written}
use Rattle.relation.specs.Rows.{columns}
use Rattle.flat.specs.Flat.{bit}
use Rattle.flat.proofs.decode.column_set.Given as goal

abbrev pub invariant-loop-c : goal.invariant-loop-c
invariant-loop-c l = (l.c ≤ columns) × (l.rest ≡ l.bits / 2 ^ l.c) × Written false (bit l.bits) columns l.set.has l.c

abbrev pub decreases-loop-c : goal.decreases-loop-c
decreases-loop-c l = columns - l.c
