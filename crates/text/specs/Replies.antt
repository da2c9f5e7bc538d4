-- What the readers of texts reply, and what the lent slices hold afterwards. w is the number of columns.
use Rattle.std.specs.Prelude.{Result, Ok, Err}
use Rattle.std.specs.Prelude.{List, [], ◌++◌, ℕ, leb, length, drop}
use Rattle.database.specs.declared.Database.{Database}
use Rattle.database.specs.declared.Refusal.{Refusal}
use Rattle.database.specs.declared.Refusal.TheVariants.{ShortSlice}
use Rattle.database.specs.Refusals.{Reply, refused, accepted, require, ◌>>=◌}
use Rattle.query.specs.declared.Node.{Node}
use Rattle.query.specs.declared.Query.{Query}
use Rattle.text.specs.Texts.{Table, read_database, query_value, database_value, table_entries}

-- what was read, or nothing
abbrev pub read_or : {A : Type 0} → Reply (List A) → List A
read_or (refused r) = []
read_or (accepted l) = l

abbrev pub query_reply : Reply (List Node) → Result Query Refusal
query_reply (refused r) = Err r
query_reply (accepted ns) = Ok (query_value ns)

-- "Reading a book tests the form before the store's length, 8 entries a row."
unfoldable pub load_tables : ℕ → List ℕ → List ℕ → Reply (List Table)
load_tables w text store = do
  ts ← read_database w text
  _ ← require (leb (length (table_entries ts)) (length store)) ShortSlice
  accepted ts

abbrev pub database_reply : ℕ → Reply (List Table) → Result Database Refusal
database_reply w (refused r) = Err r
database_reply w (accepted ts) = Ok (database_value w ts)

-- "Acceptance writes only the rows' entries of store"; "Refusals … change no store"
abbrev pub store_after : Reply (List Table) → List ℕ → List ℕ
store_after r store = table_entries (read_or r) ++ drop (length (table_entries (read_or r))) store
