-- The tests of a path and its book's text one after the other: the first refusal is the reply.
use mathlib.Core.Path.{◌≡◌, refl, ap, sym}
use mathlib.Core.List.{List}
use Prim.Native.Nat.{ℕ, ◌≤◌, ◌<◌}
use native.Mathlib.Omega.{arith}
use lib.ListN.{length}
use borrow.Author.Tests.{le-leb, lt-leb}
use Rattle.relation.specs.Rows.{columns}
use Rattle.database.specs.declared.Database.{Database}
use Rattle.database.specs.declared.Refusal.{Refusal}
use Rattle.database.specs.declared.Refusal.TheVariants.{ShortSlice}
use Rattle.std.specs.Prelude.{Result, Ok, Err}
use Rattle.database.specs.Refusals.{Reply, refused, accepted, verdict}
use Rattle.database.proofs.Verdicts.{verdict_refused}
use Rattle.query.specs.Lines.{node_limit}
use Rattle.text.specs.Texts.{Table, database_value}
use Rattle.text.specs.Replies.{load_tables, database_reply, store_after}
use Rattle.paths.specs.Grammar.{PropertyPath}
use Rattle.paths.specs.Reader.{path_limit, read_path}
use Rattle.paths.specs.Sheets.{path_nodes}
use Rattle.answering.specs.Answer.{taken, empty_store}
use Rattle.path_printing.specs.Printed.{path_over}

pub ok_not_err : {T E A : Type 0} {t : T} {e : E} → ◌≡◌ {A = Result T E} (Ok t) (Err e) → A
ok_not_err h = let z : ◌≡◌ {A = ℕ} 0 1 = cc in absurd (omega arith)

pub ok_same : {T E : Type 0} {s t : T} → ◌≡◌ {A = Result T E} (Ok s) (Ok t) → s ≡ t
ok_same h = cc

err_same : {T E : Type 0} {d e : E} → ◌≡◌ {A = Result T E} (Err d) (Err e) → d ≡ e
err_same h = cc

-- the book that was read, or why none was
database_read : (r : Reply (List Table)) {d : Database} → Ok d ≡ database_reply columns r → (ts : List Table) × (r ≡ accepted ts) × (d ≡ database_value columns ts)
database_read (refused r) e = ok_not_err e
database_read (accepted ts) e = (ts, refl, ok_same e)

database_refused : (r : Reply (List Table)) {c : Refusal} → Err c ≡ database_reply columns r → r ≡ refused c
database_refused (refused r) e = ap refused (err_same (sym e))
database_refused (accepted ts) e = ok_not_err (sym e)

module _ (path book : List ℕ) where
  -- 21
  pub off_grammar : {r : Refusal} → Err r ≡ verdict (read_path path_limit path) → path_over path book ≡ refused r
  unfolding path_over
  off_grammar e = rw (verdict_refused (read_path path_limit path) e)

  module _ (p : PropertyPath) (read : read_path path_limit path ≡ accepted p) where
    -- 17
    pub long_book : taken.bytes < length book → path_over path book ≡ refused ShortSlice
    unfolding path_over
    long_book h = rw (read, lt-leb (length book) taken.bytes h)

    module _ (short : length book ≤ taken.bytes) where
      -- 11 or 17
      pub bad_book : {r : Refusal} → Err r ≡ database_reply columns (load_tables columns book empty_store) → path_over path book ≡ refused r
      unfolding path_over
      bad_book e = rw (read, le-leb (length book) taken.bytes short, database_refused (load_tables columns book empty_store) e)

      -- 10, 9, 2, or the lines
      by_tables : (ts : List Table) {d : Database} → load_tables columns book empty_store ≡ accepted ts → d ≡ database_value columns ts
          → path_over path book ≡ path_nodes columns node_limit path d (store_after (load_tables columns book empty_store) empty_store)
      unfolding path_over
      by_tables ts is same =
          rw (read, le-leb (length book) taken.bytes short, is) (ap (λ d. path_nodes columns node_limit path d (store_after (accepted ts) empty_store)) (sym same))

      pub loaded : {d : Database} → Ok d ≡ database_reply columns (load_tables columns book empty_store)
          → path_over path book ≡ path_nodes columns node_limit path d (store_after (load_tables columns book empty_store) empty_store)
      loaded e = let (ts, is, same) = database_read (load_tables columns book empty_store) e in by_tables ts is same
