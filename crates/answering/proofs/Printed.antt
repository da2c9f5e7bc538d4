-- The stages of `answer`: each refuses, or the reply is that of the stages behind it; and the text of an answer fits into what `answer` lends.
use mathlib.Core.Path.{◌≡◌, refl, ap, sym, ◌∙◌}
use mathlib.Core.Bool.{Bool, true, false, ◌&&◌}
use mathlib.Core.List.{List, ◌++◌}
use Prim.Native.Nat.{ℕ, ◌≤◌, ◌<◌}
use native.Mathlib.Omega.{arith}
use lib.Dec.{leb}
use lib.ListN.{length, drop}
use borrow.Author.Tests.{le-leb, lt-leb}
use Rattle.std.specs.Prelude.{Result, Ok, Err}
use Rattle.algebra.specs.Term.{Term}
use Rattle.relation.specs.Rows.{columns, rows_of, entries}
use Rattle.relation.proofs.RowParts.{sized_each}
use Rattle.relation.proofs.Entries.{rows_of_entries}
use Rattle.database.specs.declared.Database.{Database}
use Rattle.database.specs.declared.Refusal.{Refusal}
use Rattle.database.specs.declared.Refusal.TheVariants.{ShortSlice}
use Rattle.database.specs.Stored.{schema, table_rows, tables}
use Rattle.database.specs.Refusals.{Reply, refused, accepted, require, ◌>>=◌}
use Rattle.database.proofs.Replies.{accepted_then}
use Rattle.database.proofs.Stored.{table_below, stored_shows}
use Rattle.query.specs.declared.Node.{Node}
use Rattle.query.specs.declared.Query.{Query}
use Rattle.query.specs.declared.Checked.{Checked}
use Rattle.query.specs.Check.{check_over}
use Rattle.query.specs.Facts.{checked_value}
use Rattle.query.proofs.CheckTests.{term_narrow}
use Rattle.query.proofs.CheckedOver.{check_over_iff}
use Rattle.checking.proofs.Handed.{sheet_handed, refusal_handed}
use Rattle.text.specs.Lines.{whole}
use Rattle.text.specs.Texts.{Table, read_nodes, query_value, database_value, answer_text, refusal_text}
use Rattle.text.specs.Replies.{load_tables, query_reply, database_reply, store_after}
use Rattle.rewrite.specs.Rewrite.{told}
use Rattle.output.specs.Replies.{write_reply, slice_after}
use Rattle.writing.specs.Rooms.{answer_room, refusal_room}
use Rattle.machine.specs.declared.Ran.{Ran}
use Rattle.machine.specs.Run.{Answer, execute, ran_of, answer_after}
use Rattle.machine.proofs.RunIsMeaning.{execute_shows}
use Rattle.run.proofs.Meaning.{ran_finished}
use Rattle.answering.specs.Answer.{limits, taken, apply_steps, empty_store, reply_text, answer, answer_bytes}
use Rattle.answering.specs.Stages.{answer_run, answer_steps, answer_query, answer_sheet, answer_book, cause_of, reply_room}
use Rattle.answering.proofs.FewRows.{few_answer}

-- what a stage tells of its reply: a refusal ends the run, and what it hands on goes to the stage behind it
book_told : (r : Reply (List Table)) {d : Database} → Ok d ≡ database_reply columns r → (ts : List Table) × (r ≡ accepted ts) × (d ≡ database_value columns ts)
book_told (refused r) e = let z : ◌≡◌ {A = ℕ} 0 1 = cc in absurd (omega arith)
book_told (accepted ts) e = (ts, refl, cc)

book_ended : (r : Reply (List Table)) {c : Refusal} → Err c ≡ database_reply columns r → r ≡ refused c
book_ended (refused r) e = cc
book_ended (accepted ts) e = let z : ◌≡◌ {A = ℕ} 0 1 = cc in absurd (omega arith)

sheet_told : (r : Reply (List Node)) {q : Query} → Ok q ≡ query_reply r → (ns : List Node) × (r ≡ accepted ns) × (q ≡ query_value ns)
sheet_told (refused r) e = let z : ◌≡◌ {A = ℕ} 0 1 = cc in absurd (omega arith)
sheet_told (accepted ns) e = (ns, refl, cc)

sheet_ended : (r : Reply (List Node)) {c : Refusal} → Err c ≡ query_reply r → r ≡ refused c
sheet_ended (refused r) e = cc
sheet_ended (accepted ns) e = let z : ◌≡◌ {A = ℕ} 0 1 = cc in absurd (omega arith)

step_told : {A : Type 0} (r : Reply A) {a : A} → Ok a ≡ told r → r ≡ accepted a
step_told (refused r) e = let z : ◌≡◌ {A = ℕ} 0 1 = cc in absurd (omega arith)
step_told (accepted a) e = cc

step_ended : {A : Type 0} (r : Reply A) {c : Refusal} → Err c ≡ told r → r ≡ refused c
step_ended (refused r) e = cc
step_ended (accepted a) e = let z : ◌≡◌ {A = ℕ} 0 1 = cc in absurd (omega arith)

module _ (sheet steps : List ℕ) where
  module _ (book store : List ℕ) (is : store ≡ store_after (load_tables columns book empty_store) empty_store) where
    pub book_passes : {d : Database} → Ok d ≡ database_reply columns (load_tables columns book empty_store)
        → answer_book sheet book steps ≡ answer_sheet sheet steps d store
    book_passes {d} e =
        let (ts, accepts, value) = book_told (load_tables columns book empty_store) e in
        ap (λ y. y >>= (λ ts. answer_sheet sheet steps (database_value columns ts) (store_after (accepted ts) empty_store))) accepts
        ∙ ap (λ b. answer_sheet sheet steps b (store_after (accepted ts) empty_store)) (sym value)
        ∙ ap (answer_sheet sheet steps d) (sym (is ∙ ap (λ y. store_after y empty_store) accepts))

  pub book_stops : (book : List ℕ) {c : Refusal} → Err c ≡ database_reply columns (load_tables columns book empty_store)
      → answer_book sheet book steps ≡ refused c
  book_stops book e =
      ap (λ y. y >>= (λ ts. answer_sheet sheet steps (database_value columns ts) (store_after (accepted ts) empty_store)))
      (book_ended (load_tables columns book empty_store) e)

module _ (d : Database) (store : List ℕ) where
  module _ (sheet steps : List ℕ) where
    pub sheet_passes : {q : Query} → Ok q ≡ query_reply (read_nodes columns limits.nodes sheet) → answer_sheet sheet steps d store ≡ answer_query steps d store q
    sheet_passes e =
        let (ns, accepts, value) = sheet_told (read_nodes columns limits.nodes sheet) e in
        ap (λ y. y >>= (λ ns. answer_query steps d store (query_value ns))) accepts ∙ ap (answer_query steps d store) (sym value)

    pub sheet_stops : {c : Refusal} → Err c ≡ query_reply (read_nodes columns limits.nodes sheet) → answer_sheet sheet steps d store ≡ refused c
    sheet_stops e = ap (λ y. y >>= (λ ns. answer_query steps d store (query_value ns))) (sheet_ended (read_nodes columns limits.nodes sheet) e)

  module _ (steps : List ℕ) (q : Query) where
    module _ {x : Result Checked Refusal} (is : x ≡ checked_value (schema columns d) q (check_over columns limits.nodes q d store)) where
      pub check_passes : {y : Checked} → x ≡ Ok y → answer_query steps d store q ≡ answer_steps steps d store q
      check_passes e = ap (λ y. y >>= (λ _. answer_steps steps d store q)) (sheet_handed limits.nodes q d store is e).checked

      pub check_stops : {c : Refusal} → x ≡ Err c → answer_query steps d store q ≡ refused c
      check_stops e = ap (λ y. y >>= (λ _. answer_steps steps d store q)) (refusal_handed limits.nodes q d store is e)

    pub steps_pass : {p : Query} → Ok p ≡ told (apply_steps (length steps) (whole steps) d store q) → answer_steps steps d store q ≡ answer_run d store p
    steps_pass e = ap (λ y. y >>= (λ p. answer_run d store p)) (step_told (apply_steps (length steps) (whole steps) d store q) e)

    pub steps_stop : {c : Refusal} → Err c ≡ told (apply_steps (length steps) (whole steps) d store q) → answer_steps steps d store q ≡ refused c
    steps_stop e = ap (λ y. y >>= (λ p. answer_run d store p)) (step_ended (apply_steps (length steps) (whole steps) d store q) e)

-- a reply that is known, as the code tells it, and what it leaves of the lent rows
pub told_as : {x y : Reply Answer} → x ≡ y → (r : Result Ran Refusal) (before after : List ℕ) → (r ≡ ran_of y) × (after ≡ answer_after y before)
    → (r ≡ ran_of x) × (after ≡ answer_after x before)
told_as e r before after (f, g) = (f ∙ ap ran_of (sym e), g ∙ ap (λ z. answer_after z before) (sym e))

pub run_ended : (r : Reply Answer) {c : Refusal} → Err c ≡ ran_of r → r ≡ refused c
run_ended (refused r) e = cc
run_ended (accepted a) e = let z : ◌≡◌ {A = ℕ} 0 1 = cc in absurd (omega arith)

-- the refusal of a stage's answer that isn't accepted
pub cause_is : {A : Type 0} {x : Result A Refusal} {c r : Refusal} → x ≡ Err c → r ≡ cause_of x → Err r ≡ x
cause_is e f = ap Err (f ∙ ap cause_of e) ∙ sym e

-- the line of a refusal is what is printed where a stage refuses
module _ (sheet book steps before : List ℕ) {c : Refusal} (e : answer sheet book steps ≡ refused c) {r : Result ℕ Refusal} {after : List ℕ} where
  pub prints : (r ≡ write_reply (refusal_text c) before) × (after ≡ slice_after (refusal_text c) before) × (length (refusal_text c) ≤ refusal_room)
      → (r ≡ write_reply (answer_bytes sheet book steps) before) × (after ≡ slice_after (answer_bytes sheet book steps) before)
      × (length (answer_bytes sheet book steps) ≤ reply_room)
  prints (reply, slice, fits) =
      let text = ap reply_text (sym e) in (
        reply ∙ ap (λ y. write_reply y before) text,
        slice ∙ ap (λ y. slice_after y before) text,
        omega (arith, fits, ap length text),
      )

-- "8,192 bytes a file (else 17)"
module _ (sheet book steps : List ℕ) where
  over : (x y z : Bool) → (x && y && z ≡ false) → leb (length sheet) taken.bytes ≡ x → leb (length book) taken.bytes ≡ y → leb (length steps) taken.bytes ≡ z
      → answer sheet book steps ≡ refused ShortSlice
  unfolding answer
  over x y z e f g h = rw (answer, f, g, h, e)

  pub long_sheet : taken.bytes < length sheet → answer sheet book steps ≡ refused ShortSlice
  long_sheet h = over false (leb (length book) taken.bytes) (leb (length steps) taken.bytes) refl (lt-leb (length sheet) taken.bytes h) refl refl

  pub long_book : taken.bytes < length book → answer sheet book steps ≡ refused ShortSlice
  long_book h = by_test (leb (length sheet) taken.bytes) refl
    where
      by_test : (x : Bool) → leb (length sheet) taken.bytes ≡ x → answer sheet book steps ≡ refused ShortSlice
      by_test true e = over true false (leb (length steps) taken.bytes) refl e (lt-leb (length book) taken.bytes h) refl
      by_test false e = over false false (leb (length steps) taken.bytes) refl e (lt-leb (length book) taken.bytes h) refl

  pub long_steps : length sheet ≤ taken.bytes → length book ≤ taken.bytes → taken.bytes < length steps → answer sheet book steps ≡ refused ShortSlice
  long_steps f g h = over true true false refl (le-leb (length sheet) taken.bytes f) (le-leb (length book) taken.bytes g) (lt-leb (length steps) taken.bytes h)

  pub short_files : length sheet ≤ taken.bytes → length book ≤ taken.bytes → length steps ≤ taken.bytes → answer sheet book steps ≡ answer_book sheet book steps
  unfolding answer
  short_files f g h =
      rw (answer, le-leb (length sheet) taken.bytes f, le-leb (length book) taken.bytes g, le-leb (length steps) taken.bytes h)

-- an answer's rows, and the query that was run
record Executed (a : Answer) : Type 0 where
  pub query : Query
  pub database : Database
  pub store : List ℕ
  pub term : Term
  pub checked : check_over columns limits.nodes query database store ≡ accepted term
  pub ran : execute (schema columns database) (table_rows columns database store) limits.rows taken.lines term ≡ accepted a

executed : (sheet book steps : List ℕ) (a : Answer) → answer sheet book steps ≡ accepted a → Executed a
unfolding answer
executed sheet book steps a e =
    let (_, _, e₁) = accepted_then (require (leb (length sheet) taken.bytes && leb (length book) taken.bytes && leb (length steps) taken.bytes) ShortSlice) _ e in
    let (ts, _, e₂) = accepted_then (load_tables columns book empty_store) _ e₁ in
    let d = database_value columns ts in
    let store = store_after (accepted ts) empty_store in
    let (ns, _, e₃) = accepted_then (read_nodes columns limits.nodes sheet) _ e₂ in
    let (_, _, e₄) = accepted_then (check_over columns limits.nodes (query_value ns) d store) _ e₃ in
    let (q, _, e₅) = accepted_then (apply_steps (length steps) (whole steps) d store (query_value ns)) _ e₄ in
    let (t, checked, ran) = accepted_then (check_over columns limits.nodes q d store) _ e₅ in
    record { query = q; database = d; store = store; term = t; checked = checked; ran = ran }

module _ (sheet book steps : List ℕ) (before after : List ℕ) (told : Ran) (is : Ok told ≡ ran_of (answer sheet book steps))
    (left : after ≡ answer_after (answer sheet book steps) before) where
  -- the text of what the code tells is the answer's, and fits
  pub answer_told : (answer_text columns told.columns (rows_of columns told.rows after) told.lines ≡ reply_text (answer sheet book steps))
      × (answer_room columns told.rows ≤ reply_room)
  answer_told =
      let (a, accepts, same) = ran_finished (answer sheet book steps) told (sym is) in
      let x = executed sheet book steps a accepts in
      let w = columns in
      let (stored, c) = (check_over_iff w limits.nodes x.query x.database x.store x.term).0 x.checked in
      let narrow = term_narrow limits.nodes x.query (schema w x.database) (table_below w x.database) c in
      let (_, shown) = execute_shows (schema w x.database) (tables w x.database x.store) (table_rows w x.database x.store)
      (stored_shows w x.database x.store stored) c.well_formed.closed narrow (λ v m. ⊥) limits.rows taken.lines a x.ran in
      let few = few_answer limits.rows (schema w x.database) (table_rows w x.database x.store) taken.lines x.term a x.ran in
      let there : after ≡ entries a.rows ++ drop (length (entries a.rows)) before = left ∙ ap (λ y. answer_after y before) accepts in
      let back : rows_of w told.rows after ≡ a.rows =
      ap (λ (y : Ran). rows_of w y.rows after) same ∙ ap (rows_of w (length a.rows)) there ∙ rows_of_entries w a.rows _ (sized_each w a.rows (λ r i. (shown.shaped r i).slots)) in
      let count : told.rows ≡ length a.rows = ap (λ (y : Ran). y.rows) same in (
        ap (λ y. answer_text w told.columns y told.lines) back ∙ ap (λ (y : Ran). answer_text w y.columns a.rows y.lines) same ∙ ap reply_text (sym accepts),
        omega (arith, few, count),
      )
