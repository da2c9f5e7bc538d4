use Prim.Native.Nat.{ℕ, ◌≤◌, ◌-◌, ◌+◌, ◌*◌}
use mathlib.Core.List.{List}
use lib.ListN.{get_or}
use Rattle.laws.proofs.Indexed.{Written}
use Rattle.database.specs.Stored.{table_limit}
use Rattle.flat.specs.Flat.{table_width}
use Rattle.flat.proofs.decode.decode_rows.Given as goal

abbrev pub decoded : List ℕ → ℕ → ℕ
decoded s t = get_or s (2 + table_width * t) 0

abbrev pub invariant-loop-t : goal.invariant-loop-t
invariant-loop-t l = (l.t ≤ table_limit) × Written 0 (decoded l.database) table_limit l.rows l.t

abbrev pub decreases-loop-t : goal.decreases-loop-t
decreases-loop-t l = table_limit - l.t
