use Prim.Native.Nat.{ℕ, ◌≤◌, ◌-◌, ◌+◌, ◌*◌}
use mathlib.Core.List.{List, []}
use lib.ListN.{get_or}
use Rattle.laws.proofs.Indexed.{Written}
use Rattle.relation.specs.declared.Columns.{Columns}
use Rattle.relation.specs.Rows.{columns}
use Rattle.database.specs.Stored.{table_limit}
use Rattle.flat.specs.Flat.{table_width, column_set}
use Rattle.flat.proofs.decode.decode_columns.Given as goal

abbrev pub decoded : List ℕ → ℕ → Columns
decoded s t = column_set columns (get_or s (1 + table_width * t) 0)

abbrev pub none : Columns
none = record { has = [] }

abbrev pub invariant-loop-t : goal.invariant-loop-t
invariant-loop-t l = (l.t ≤ table_limit) × Written none (decoded l.database) table_limit l.sets l.t

abbrev pub decreases-loop-t : goal.decreases-loop-t
decreases-loop-t l = table_limit - l.t
