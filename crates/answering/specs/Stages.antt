-- What `answer` replies from each of its stages on: "It tests file lengths, the book, the sheet, each steps line in turn, then runs".
use Rattle.std.specs.Prelude.{List, ℕ, length, Result, Ok, Err}
use Rattle.relation.specs.Rows.{columns}
use Rattle.database.specs.declared.Database.{Database}
use Rattle.database.specs.declared.Refusal.{Refusal}
use Rattle.database.specs.declared.Refusal.TheVariants.{NoMatch}
use Rattle.database.specs.Stored.{schema, table_rows}
use Rattle.database.specs.Refusals.{Reply, accepted, ◌>>=◌}
use Rattle.query.specs.declared.Query.{Query}
use Rattle.query.specs.Check.{check_over}
use Rattle.text.specs.Lines.{whole}
use Rattle.text.specs.Texts.{read_nodes, query_value, database_value}
use Rattle.text.specs.Replies.{load_tables, store_after}
use Rattle.machine.specs.Run.{Answer, execute}
use Rattle.answering.specs.Answer.{limits, taken, apply_steps, empty_store}

-- "then runs"
abbrev pub answer_run : Database → List ℕ → Query → Reply Answer
answer_run d store q = do
  t ← check_over columns limits.nodes q d store
  execute (schema columns d) (table_rows columns d store) limits.rows taken.lines t

-- "each steps line in turn"
abbrev pub answer_steps : List ℕ → Database → List ℕ → Query → Reply Answer
answer_steps steps d store q = do
  p ← apply_steps (length steps) (whole steps) d store q
  answer_run d store p

-- the sheet's check
abbrev pub answer_query : List ℕ → Database → List ℕ → Query → Reply Answer
answer_query steps d store q = do
  _ ← check_over columns limits.nodes q d store
  answer_steps steps d store q

-- the sheet
abbrev pub answer_sheet : List ℕ → List ℕ → Database → List ℕ → Reply Answer
answer_sheet sheet steps d store = do
  ns ← read_nodes columns limits.nodes sheet
  answer_query steps d store (query_value ns)

-- the book
abbrev pub answer_book : List ℕ → List ℕ → List ℕ → Reply Answer
answer_book sheet book steps = do
  ts ← load_tables columns book empty_store
  answer_sheet sheet steps (database_value columns ts) (store_after (accepted ts) empty_store)

-- the refusal of a stage's answer; one that isn't refused has none to print
abbrev pub cause_of : {A : Type 0} → Result A Refusal → Refusal
cause_of (Err r) = r
cause_of (Ok a) = NoMatch

-- the bytes that `answer` lends for its reply
abbrev pub reply_room : ℕ
reply_room = 4096
