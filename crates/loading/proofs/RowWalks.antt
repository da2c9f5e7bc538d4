-- A walk over the rows of a table: each follows the one above, which is the last that has been read.
use mathlib.Core.Path.{◌≡◌, refl, ap, sym, ◌∙◌}
use mathlib.Core.Bool.{Bool, true}
use Rattle.std.specs.Prelude.{Option, Some, None}
use mathlib.Core.List.{List, [], ◌∷◌, ◌++◌, append_assoc, append-nil}
use Prim.Native.Nat.{ℕ, ◌+◌, ◌*◌, ◌≤◌, ◌<◌}
use native.Mathlib.Omega.{arith}
use lib.ListN.{length}
use Rattle.laws.proofs.Options.{none_some, some_inj}
use Rattle.relation.specs.declared.Row.{Row}
use Rattle.relation.specs.Rows.{Rows, columns, entries}
use Rattle.database.specs.declared.Refusal.TheVariants.{DatabaseForm}
use Rattle.database.specs.Refusals.{Reply, refused}
use Rattle.database.proofs.Replies.{accepted_same}
use Rattle.text.specs.declared.line_reader.Cursor.{Cursor}
use Rattle.text.specs.Lines.{Rest, due, row_line}
use Rattle.text.specs.Texts.{read_rows}
use Rattle.text.specs.Cursors.{rest_at, Placed, due_line}
use Rattle.text.proofs.Tables.{rows_again}
use Rattle.text.proofs.ReaderLawsDue.{due_reply, due_reply_lem, due_placed}
use Rattle.text.proofs.ReaderLawsMany.{behind_parts, behind_more}
use Rattle.row_reading.specs.RowReading.{as_row, above_of, row_due}
use Rattle.loading.specs.Loading.{stores, read_entries, MayStore, Passed, row_entries}
use Rattle.loading.proofs.Walks.{Laid, Walk, walk_none, walk_part, walk_more, walk_stops, walk_kept, walk_length, walk_all, walk_stored}

pub entries_laid : Laid (λ r. r) entries
unfolding entries
entries_laid = record { none = nothing; single = alone; joined = together }
  where
    nothing : entries [] ≡ []
    nothing = refl

    alone : (r : List ℕ) → entries (r ∷ []) ≡ r
    alone r = append-nil r

    together : (l m : Rows) → entries (l ++ m) ≡ entries l ++ entries m
    together [] m = refl
    together (r ∷ l) m = ap (λ k. r ++ k) (together l m) ∙ sym (append_assoc r (entries l) (entries m))

-- the row that a due line replies
pub due_row_next : (o : Option (List ℕ × Cursor)) (r : Row) (c : Cursor) → Some (r, c) ≡ row_due o → o ≡ Some (r.slots, c)
due_row_next None r c e = none_some (sym e)
due_row_next (Some p) r c e = ap (λ (q : Row × Cursor). Some (q.0.slots, q.1)) (sym (some_inj e))

module _ (cs : List ℕ) (text : List ℕ) (first : Cursor) (count : ℕ) (write : Bool) (from : ℕ) (store₀ : List ℕ) where
  abbrev pub rows_read : Reply (Rows × Rest)
  rows_read = read_rows columns cs count None (rest_at text first)

  pub record RowTurn (store : List ℕ) (c : Cursor) (above : Option Row) (at i : ℕ) : Type 0 where
    pub rows : Rows
    pub walk : Walk (rows_again columns cs) entries_laid count None text first write from store₀ store c at i rows
    pub last : above_of above ≡ behind_parts Some None rows
    pub spot : at ≡ from + columns * i

  pub row_none : Placed first → RowTurn store₀ first None from 0
  row_none h = record {
    rows = [];
    walk = walk_none (rows_again columns cs) entries_laid count None text first write from store₀ h;
    last = refl;
    spot = omega arith;
  }

  module _ (store : List ℕ) (c : Cursor) (above : Option Row) (at i : ℕ) (t : RowTurn store c above at i) where
    abbrev form : List ℕ → Option (List ℕ)
    form = row_line columns cs (above_of above)

    -- the due line at the cursor, and in what is left of the text
    here : (o : Option (List ℕ × Cursor)) → due_line form text c ≡ o
        → due DatabaseForm (row_line columns cs (behind_parts Some None t.rows)) (rest_at text c) ≡ due_reply form text c DatabaseForm o
    here o e =
        ap (λ a. due DatabaseForm (row_line columns cs a) (rest_at text c)) (sym t.last) ∙ due_reply_lem form text c DatabaseForm
        ∙ ap (due_reply form text c DatabaseForm) e

    module _ (may : MayStore row_entries write from store₀ rows_read) where
      pub row_length : length store ≡ length store₀
      row_length = walk_length (rows_again columns cs) entries_laid count None text first write from store₀ store c at i t.rows t.walk may

      module _ (h : i < count) where
        pub row_room_lem : (r : List ℕ) (d : Cursor) → due_line form text c ≡ Some (r, d) → write ≡ true → at + length r ≤ length store
        row_room_lem r d e q =
            let room = walk_part (rows_again columns cs) entries_laid count None text first write from store₀ store c at i t.rows t.walk may h q in
            let same : room.value ≡ (r, rest_at text d) = accepted_same (sym room.read ∙ here (Some (r, d)) e) in
            let fits = room.fits in
            omega (arith, ap (λ (p : List ℕ × Rest). length p.0) same)

        pub row_more : (r : List ℕ) (d : Cursor) → length r ≡ columns → due_line form text c ≡ Some (r, d)
            → RowTurn (stores write at r store) d (Some (as_row r)) (at + columns) (i + 1)
        row_more r d w e = record {
          rows = t.rows ++ (r ∷ []);
          walk =
              walk_more (rows_again columns cs) entries_laid count None text first write from store₀ store c at i t.rows t.walk may h r d
              (due_placed form text c (r, d) e t.walk.placed) (here (Some (r, d)) e) (at + columns) (omega arith);
          last = sym (behind_more Some None t.rows r);
          spot = let spot = t.spot in omega arith;
        }

        pub row_stops : due_line form text c ≡ None → rows_read ≡ refused (DatabaseForm c.line)
        row_stops e =
            walk_stops (rows_again columns cs) entries_laid count None text first write from store₀ store c at i t.rows t.walk may h
            (DatabaseForm c.line) (here None e)

        pub row_kept : due_line form text c ≡ None → store ≡ stores write from (read_entries row_entries rows_read) store₀
        row_kept e =
            walk_kept (rows_again columns cs) entries_laid count None text first write from store₀ store c at i t.rows t.walk may h
            (DatabaseForm c.line) (here None e)

    pub rows_passed : count ≤ i → Passed text c rows_read (λ rows. length rows ≡ count)
    rows_passed h = record {
      placed = t.walk.placed;
      value = t.rows;
      read = walk_all (rows_again columns cs) entries_laid count None text first write from store₀ store c at i t.rows t.walk h;
      good = let long = t.walk.long in let few = t.walk.few in omega arith;
    }

    pub rows_stored : count ≤ i → store ≡ stores write from (read_entries row_entries rows_read) store₀
    rows_stored h = walk_stored (rows_again columns cs) entries_laid count None text first write from store₀ store c at i t.rows t.walk h
