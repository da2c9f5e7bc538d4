-- A walk over a book's text, which looks at its forms and stores its rows if it is told to. The same walk is done twice: the form of the whole
-- text is tested "before the store's length", and only then are rows stored.
use Rattle.std.specs.Prelude.{◌≡◌, Bool, true, false, List, [], ℕ, ◌+◌, ◌≤◌, length, set}
use borrow.Rule.Slice.PartMut.{put_mid}
use Rattle.laws.specs.Lists.{member}
use Rattle.relation.specs.declared.Columns.{Columns}
use Rattle.relation.specs.Rows.{Rows, columns, columns_of, entries}
use Rattle.database.specs.declared.Database.{Database}
use Rattle.database.specs.declared.Refusal.TheVariants.{DatabaseForm}
use Rattle.std.specs.Prelude.{Result, Ok, Err}
use Rattle.database.specs.declared.Refusal.{Refusal}
use Rattle.database.specs.Refusals.{Reply, refused, accepted, ◌>>=◌}
use Rattle.text.specs.declared.line_reader.Cursor.{Cursor}
use Rattle.text.specs.declared.line_reader.BadLine.{BadLine}
use Rattle.text.specs.Lines.{Rest, many, ended}
use Rattle.text.specs.Texts.{Table, read_table, read_tables, database_value, table_entries}
use Rattle.text.specs.Cursors.{rest_at, Placed}
use Rattle.loading.specs.declared.table_reader.ReadTable.{ReadTable}
use Rattle.loading.specs.declared.table_reader.ReadText.{ReadText}

-- entries in place of as many others from a place on, where the walk stores; else nothing changes
abbrev pub stores : Bool → ℕ → List ℕ → List ℕ → List ℕ
stores true at xs store = put_mid at (length xs) store xs
stores false at xs store = store

-- the entries of what was read
abbrev pub read_entries : {A : Type 0} → (A → List ℕ) → Reply A → List ℕ
read_entries f (refused r) = []
read_entries f (accepted a) = f a

-- a walk stores only what is read to its end, and only where there is room
pub record Room {A : Type 0} (f : A → List ℕ) (at : ℕ) (store : List ℕ) (r : Reply A) : Type 0 where
  pub value : A
  pub read : r ≡ accepted value
  pub fits : at + length (f value) ≤ length store

abbrev pub MayStore : {A : Type 0} → (A → List ℕ) → Bool → ℕ → List ℕ → Reply A → Type 0
MayStore f store at l r = store ≡ true → Room f at l r

-- where a walk ends: behind a part that was read, or at the first bad line
pub record Passed {A : Type 0} (text : List ℕ) (c : Cursor) (r : Reply (A × Rest)) (Good : A → Type 0) : Type 0 where
  pub placed : Placed c
  pub value : A
  pub read : r ≡ accepted (value, rest_at text c)
  pub good : Good value

abbrev pub Walks : {A : Type 0} → List ℕ → Result Cursor BadLine → Reply (A × Rest) → (A → Type 0) → Type 0
Walks text (Ok c) r Good = Passed text c r Good
Walks text (Err bad) r Good = r ≡ refused (DatabaseForm bad.line)

-- the same of a walk that tells what it read
abbrev pub Reads : {A R : Type 0} → List ℕ → Result (R × Cursor) BadLine → Reply (A × Rest) → (R → A → Type 0) → Type 0
Reads text (Ok p) r Good = Passed text p.1 r (Good p.0)
Reads text (Err bad) r Good = r ≡ refused (DatabaseForm bad.line)

-- rows behind each other, and their entries
abbrev pub row_entries : Rows × Rest → List ℕ
row_entries p = entries p.0

abbrev pub table_stored : Table × Rest → List ℕ
table_stored p = entries p.0.rows

abbrev pub cols_set : List ℕ → Columns
cols_set cs = columns_of columns (λ c. member c cs)

-- a table's columns and row count as the code has them
pub record GoodTable (r : ReadTable) (t : Table) : Type 0 where
  pub cols : r.columns ≡ cols_set t.columns
  pub rows : r.rows ≡ length t.rows

abbrev pub with_table : Database → Columns → ℕ → Database
with_table d cs n =
    record { tables = d.tables + 1; columns = set d.columns d.tables cs; rows = set d.rows d.tables n }

abbrev pub tables_stored : List Table × Rest → List ℕ
tables_stored p = table_entries p.0

pub record GoodTables (r : ReadText) (ts : List Table) : Type 0 where
  pub value : r.database ≡ database_value columns ts
  pub size : r.size ≡ length (table_entries ts)

-- a whole text
abbrev pub text_reply : Reply (List Table) → Result ReadText Refusal
text_reply (refused r) = Err r
text_reply (accepted ts) = Ok (record { database = database_value columns ts; size = length (table_entries ts) })

-- n tables from a cursor on, and "nothing after the last"
abbrev pub tables_behind : ℕ → List ℕ → Cursor → ℕ → Reply (List Table)
tables_behind w text c n = do
  (ts, s) ← many (read_table w) n (rest_at text c)
  _ ← ended DatabaseForm s
  accepted ts

-- a text with its lines on the form, whose rows take so many entries
pub record OnForm (text : List ℕ) (size : ℕ) : Type 0 where
  pub value : List Table
  pub read : read_tables columns text ≡ accepted value
  pub sized : size ≡ length (table_entries value)

abbrev pub text_or : ReadText → Reply (Unit {0}) → Result ReadText Refusal
text_or r (refused q) = Err q
text_or r (accepted u) = Ok r
