use Prim.Native.Nat.{◌≤◌}
use mathlib.Core.Path.{◌≡◌}
use lib.ListN.{drop}
use Rattle.laws.specs.Lists.{member}
use Rattle.row_reading.specs.NumberArrays.{listed}
use Rattle.loading.proofs.table_reader.lists.Given as goal

abbrev pub invariant-loop-k : goal.invariant-loop-k
invariant-loop-k l = (l.k ≤ l.count) × (member l.c (drop l.k (listed l.cols)) ≡ member l.c (listed l.cols))
