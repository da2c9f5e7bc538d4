-- Stored databases and texts: what is printed of a stored database that passes its test is read as its tables, and what is read is a stored
-- database that passes its test and whose tables are those read.
use mathlib.Core.Path.{◌≡◌, ap, sym, ◌∙◌}
use mathlib.Core.List.{List, [], ◌++◌}
use mathlib.Core.Logic.{◌⊎◌, ⊎_map}
use Prim.Native.Nat.{ℕ, ◌≤◌, ◌<◌}
use lib.ListN.{take}
use Rattle.laws.proofs.EachMember.{each_map}
use Rattle.database.specs.declared.Database.{Database}
use Rattle.database.specs.Refusals.{accepted}
use Rattle.database.specs.Stored.{schema, table_start, table_rows, check_database}
use Rattle.text.specs.Numbers.{max_number}
use Rattle.text.specs.Texts.{Table, read_database, database_value, table_entries, stored_tables, database_text}
use Rattle.text.proofs.NumberLists.{AllSmall}
use Rattle.text.proofs.DatabaseRoundTrip.{database_round_trip}
use Rattle.text.proofs.EmptyText.{accepted_read, read_says}
use Rattle.text.proofs.ReadTables.{all_fit, value_checked}
use Rattle.text.proofs.StoredTables.{stored_good, stored_value_schema, stored_value_rows, stored_front}
use Rattle.text.proofs.StoredValues.{value_tables}

-- tables that, stored, are those of d and its store: whatever stands in the store behind their entries
pub record SameStored (w : ℕ) (d : Database) (store : List ℕ) (ts : List Table) : Type 0 where
  pub schemas : schema w (database_value w ts) ≡ schema w d
  pub front : table_entries ts ≡ take (table_start w d d.tables) store
  pub rows : (rest : List ℕ) (t : ℕ) → t < d.tables → table_rows w (database_value w ts) (table_entries ts ++ rest) t ≡ table_rows w d store t

-- a stored database that passes its test, printed and read: its tables
pub stored_round_trip : (w : ℕ) → w ≤ max_number → (d : Database) (store : List ℕ) → check_database w d store ≡ accepted tt → AllSmall store
    → read_database w (database_text (stored_tables w d store)) ≡ accepted (stored_tables w d store)
stored_round_trip w wide d store e small =
    let (few, good) = stored_good w d store e wide small in
    accepted_read w _ (stored_tables w d store) (database_round_trip w (stored_tables w d store) few good)

-- they stand for the same database: the same columns, entries and rows
pub stored_same : (w : ℕ) (d : Database) (store : List ℕ) → check_database w d store ≡ accepted tt → SameStored w d store (stored_tables w d store)
stored_same w d store e = record { schemas = stored_value_schema w d store e; front = stored_front w d store; rows = stored_value_rows w d store e }

-- a text read and stored: the stored database passes its test, its tables are those read, and they print the text if it isn't empty
pub read_stored : (w : ℕ) (text : List ℕ) (ts : List Table) → read_database w text ≡ accepted ts → (rest : List ℕ)
    → (check_database w (database_value w ts) (table_entries ts ++ rest) ≡ accepted tt)
    × (stored_tables w (database_value w ts) (table_entries ts ++ rest) ≡ ts)
    × ((database_text (stored_tables w (database_value w ts) (table_entries ts ++ rest)) ≡ text) ⊎ (text ≡ []))
read_stored w text ts e rest =
    let (says, few, good) = read_says w text ts e in
    let tables = value_tables w ts (all_fit w ts good rest) (each_map ts (λ t h. h.columns.ascends) good) rest in
    (value_checked w ts good rest few, tables, ⊎_map (λ same. ap database_text tables ∙ sym same) (λ empty. empty.0) says)
