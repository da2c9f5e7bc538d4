-- One sheet over one book at the desk and at the panel: what each prints, read from texts as `answer` reads them, or checked as a value.
use mathlib.Core.List.{List, [], ◌∷◌, ◌++◌, flat_map}
use Rattle.std.specs.Prelude.{ℕ, ◌+◌, ◌*◌, replicate}
use Prim.Native.String.{String}
use Prim.Native.String as Str
use Rattle.laws.specs.Lists.{tabulate}
use Rattle.algebra.specs.Term.{Term}
use Rattle.relation.specs.Rows.{columns}
use Rattle.database.specs.Refusals.{Reply, refused, accepted, number, place_of, ◌>>=◌}
use Rattle.query.specs.Check.{check_over}
use Rattle.text.specs.Numbers.{bytes, digits, newline}
use Rattle.text.specs.Texts.{read_nodes, read_database, query_value, database_value, table_entries}
use Rattle.machine.specs.Limits.{Limits}
use Rattle.machine.specs.Run.{run_query}
use Rattle.answering.specs.Answer.{reply_text}
use Rattle.examples.specs.Values.{counted, empty}

-- what is printed for a sheet and a book where these limits are kept; the lent slices have room for two registers and their rows
abbrev pub prints_at : Limits → List ℕ → List ℕ → List ℕ
prints_at l sheet book = reply_text (do
  ts ← read_database columns book
  ns ← read_nodes columns l.nodes sheet
  run_query columns l.nodes (query_value ns) (database_value columns ts) (table_entries ts) l.rows 1000 (replicate (2 * (1 + columns * l.rows)) 7) (replicate columns 9))

-- the bytes of the texts, and what is printed at the desk, with a row limit of 65, and at the panel
pub record Places : Type 0 where
  pub sheet : List ℕ
  pub book : List ℕ
  pub desk : List ℕ
  pub panel : List ℕ

-- n node lines under the count given, the last lines apart, over no tables
abbrev pub nodes : String → ℕ → String → String → String → Places
nodes count n last desk panel =
    record {
      sheet = bytes (Str.◌++◌ "guide=1\nnodes=" (Str.◌++◌ count "\n")) ++ (flat_map (λ (l : List ℕ). l) (replicate n (bytes "fact=0,1\n")) ++ bytes last);
      book = bytes "guide=1\ntables=0\n";
      desk = bytes desk;
      panel = bytes panel;
    }

-- one row of a table with the rows 0 to n - 1
abbrev pub rows : String → ℕ → String → String → Places
rows count n desk panel =
    record {
      sheet = bytes "guide=1\nnodes=2\ntable=0\neq=0,7\n";
      book = bytes (Str.◌++◌ "guide=1\ntables=1\ncols=0\nrows=" (Str.◌++◌ count "\n"))
          ++ flat_map (λ i. bytes "row=" ++ (digits i ++ (newline ∷ []))) (tabulate (λ i. i) n);
      desk = bytes desk;
      panel = bytes panel;
    }

-- a sheet over a book of zero bytes, which prints the same at both
abbrev pub no_book : String → String → Places
no_book sheet printed = record { sheet = bytes sheet; book = []; desk = bytes printed; panel = bytes printed }

abbrev pub places : List Places
places =
    -- "On the panel, 33 nodes give 2": line 2 of a text, after 1; 32 nodes are taken, and get 3 since these are all roots
    nodes "32" 32 "" "refused=3,32\n" "refused=3,32\n"
    ∷ (nodes "33" 33 "" "refused=3,33\n" "refused=2,2\n"
    ∷ (nodes "33" 32 "fact=0\n" "refused=1,35\n" "refused=1,35\n"
    -- "and a holder of 65 rows gives 18", also under a filter
    ∷ (rows "64" 64 "guide=1\ncols=0\nrows=1\nrow=7\nran=2\n" "guide=1\ncols=0\nrows=1\nrow=7\nran=2\n"
    ∷ (rows "65" 65 "guide=1\ncols=0\nrows=1\nrow=7\nran=2\n" "refused=18,0\n"
    -- "A book of zero bytes shall mean the same as `guide=1` and `tables=0`": on both
    ∷ (no_book "guide=1\nnodes=2\nfact=0,7\ncopy=0,1\n" "guide=1\ncols=0,1\nrows=1\nrow=7,7\nran=2\n"
    ∷ (no_book "guide=1\nnodes=2\ntable=0\neq=0,7\n" "refused=10,1\n"
    ∷ (no_book "" "refused=1,1\n"
    ∷ [])))))))

-- a query of n nodes handed in as a value: number and place of the refusal at the desk and at the panel
abbrev pub refusal : Reply Term → List ℕ
refusal (refused r) = number r ∷ (place_of r ∷ [])
refusal (accepted t) = []

abbrev pub checks_at : Limits → ℕ → List ℕ
checks_at l n = refusal (check_over columns l.nodes (counted n) empty [])

pub record Counted : Type 0 where
  pub count : ℕ
  pub desk : List ℕ
  pub panel : List ℕ

abbrev pub counts : List Counted
counts =
    record { count = 32; desk = 3 ∷ (32 ∷ []); panel = 3 ∷ (32 ∷ []) }
    ∷ (record { count = 33; desk = 3 ∷ (33 ∷ []); panel = 2 ∷ (0 ∷ []) }
    ∷ [])
