use Prim.Native.Nat.{◌≤◌}
use mathlib.Core.Path.{◌≡◌}
use lib.ListN.{length}
use lib.Seq.{paste}
use Rattle.relation.specs.Rows.{columns}
use Rattle.loading.proofs.table_reader.put_row.Given as goal

abbrev pub invariant-loop-c : goal.invariant-loop-c
invariant-loop-c l = (l.c ≤ columns) × (l.store ≡ paste l.initial.store l.at l.row.slots l.c) × (length l.store ≡ length l.initial.store)
