-- What the program `path` prints for the bytes of its two files: 21 is "tested first", then the book is read as `answer` reads it.
use Rattle.std.specs.Prelude.{List, ℕ, leb, length}
use Rattle.relation.specs.Rows.{columns}
use Rattle.database.specs.declared.Refusal.TheVariants.{ShortSlice}
use Rattle.database.specs.Refusals.{Reply, refused, accepted, require, ◌>>=◌}
use Rattle.query.specs.declared.Node.{Node}
use Rattle.query.specs.Lines.{node_limit}
use Rattle.text.specs.Texts.{database_value, query_text, refusal_text}
use Rattle.text.specs.Replies.{load_tables, store_after}
use Rattle.paths.specs.Reader.{path_limit, read_path}
use Rattle.paths.specs.Sheets.{path_nodes}
use Rattle.answering.specs.Answer.{taken, empty_store}

-- the sheet of a path over a book's text
unfoldable pub path_over : List ℕ → List ℕ → Reply (List Node)
path_over path book = do
  _ ← read_path path_limit path
  _ ← require (leb (length book) taken.bytes) ShortSlice
  ts ← load_tables columns book empty_store
  path_nodes columns node_limit path (database_value columns ts) (store_after (accepted ts) empty_store)

abbrev pub sheet_text : Reply (List Node) → List ℕ
sheet_text (refused r) = refusal_text r
sheet_text (accepted ns) = query_text ns

abbrev pub path_bytes : List ℕ → List ℕ → List ℕ
path_bytes path book = sheet_text (path_over path book)
