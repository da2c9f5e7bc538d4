-- What the program `answer` prints for the bytes of its three files.
use Rattle.std.specs.Prelude.{true, false, ◌&&◌, List, ℕ, zero, suc, ◌*◌, leb, length, replicate}
use Rattle.laws.specs.Lists.{null}
use Rattle.relation.specs.Rows.{columns}
use Rattle.database.specs.declared.Database.{Database}
use Rattle.database.specs.declared.Refusal.TheVariants.{NoMatch, ShortSlice}
use Rattle.database.specs.Stored.{schema, table_rows}
use Rattle.database.specs.Refusals.{Reply, refused, accepted, require, ◌>>=◌}
use Rattle.query.specs.declared.Query.{Query}
use Rattle.query.specs.Check.{check_over}
use Rattle.text.specs.Lines.{Rest, due, whole, step_line}
use Rattle.text.specs.Texts.{read_nodes, query_value, database_value, answer_text, refusal_text}
use Rattle.text.specs.Replies.{load_tables, store_after}
use Rattle.rewrite.specs.Rewrite.{rewrite}
use Rattle.machine.specs.Limits.{Limits}
use Rattle.machine.specs.Run.{Answer, execute}

-- "It takes 24 nodes (else 2), L = 24, 1,000,000 lines, 384 stored rows and 8,192 bytes a file (else 17)."
abbrev pub limits : Limits
limits = record { nodes = 24; rows = 24 }

pub record Taken : Type 0 where
  pub lines : ℕ
  pub stored : ℕ
  pub bytes : ℕ

abbrev pub taken : Taken
taken = record { lines = 1000000; stored = 384; bytes = 8192 }

-- "each steps line in turn": its form, else 12, then its rule; left is at least the number of lines left
unfoldable pub apply_steps : ℕ → Rest → Database → List ℕ → Query → Reply Query
apply_steps zero s d store q = accepted q
apply_steps (suc left) s d store q = elim (null s.bytes) [
  | true ↦ accepted q
  | false ↦ do
    (x, rest) ← due (λ line. NoMatch) step_line s
    p ← rewrite columns limits.nodes q d store x.kind x.node
    apply_steps left rest d store p
]

-- the store that `answer` has before it reads the book
abbrev pub empty_store : List ℕ
empty_store = replicate (columns * taken.stored) 0

-- "It tests file lengths, the book, the sheet, each steps line in turn, then runs"
unfoldable pub answer : List ℕ → List ℕ → List ℕ → Reply Answer
answer sheet book steps = do
  _ ← require (leb (length sheet) taken.bytes && leb (length book) taken.bytes && leb (length steps) taken.bytes) ShortSlice
  ts ← load_tables columns book empty_store
  let d = database_value columns ts
  let store = store_after (accepted ts) empty_store
  ns ← read_nodes columns limits.nodes sheet
  _ ← check_over columns limits.nodes (query_value ns) d store
  q ← apply_steps (length steps) (whole steps) d store (query_value ns)
  t ← check_over columns limits.nodes q d store
  execute (schema columns d) (table_rows columns d store) limits.rows taken.lines t

abbrev pub reply_text : Reply Answer → List ℕ
reply_text (refused r) = refusal_text r
reply_text (accepted a) = answer_text columns a.columns a.rows a.ran

abbrev pub answer_bytes : List ℕ → List ℕ → List ℕ → List ℕ
answer_bytes sheet book steps = reply_text (answer sheet book steps)
