use Prim.Native.Nat.{ℕ, ◌≤◌, ◌-◌}
use mathlib.Core.Path.{◌≡◌, refl}
use mathlib.Core.List.{List}
use lib.ListN.{length, get_or}
use Rattle.database.specs.declared.Database.{Database}
use Rattle.flat.specs.Flat.{table_of, table_numbers, table_width}
use Rattle.flat.proofs.Blocks.{begun}
use Rattle.flat.proofs.encode.encode_database.Given as goal

pub table_size : (d : Database) (t : ℕ) → length (table_of d t) ≡ table_width
table_size d t = refl

-- the first t tables are written
abbrev pub begun_tables : Database → List ℕ → ℕ → List ℕ
begun_tables d s t = begun (table_of d) table_width (table_size d) (table_numbers d) s (get_or s 0 0) t

abbrev pub invariant-loop-t : goal.invariant-loop-t
invariant-loop-t l = (l.t ≤ l.count) × (l.out ≡ begun_tables l.database l.initial.out l.t)

abbrev pub decreases-loop-t : goal.decreases-loop-t
decreases-loop-t l = l.count - l.t
