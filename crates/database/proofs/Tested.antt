-- The proofs behind a stored book's test: the reply to its two tests, and the rows of a tested table.
use mathlib.Core.Path.{◌≡◌, refl, ap, sym, ◌∙◌}
use mathlib.Core.Bool.{Bool, true, false, not, ◌&&◌}
use Rattle.std.specs.Prelude.{Option, Some, None}
use mathlib.Core.Logic.{◌⊎◌, inl, inr, ◌↔◌}
use mathlib.Core.List.{List}
use Prim.Native.Nat.{ℕ, ◌+◌, ◌*◌, ◌≤◌}
use native.Mathlib.Omega.{arith}
use lib.Dec.{leb}
use lib.ListN.{length, drop, length-drop}
use borrow.Author.Tests.{leb-true}
use Rattle.laws.specs.Lists.{all, every}
use Rattle.laws.proofs.Tests.{true_false, and_true_left, and_true_right}
use Rattle.laws.proofs.Options.{none_some, some_inj}
use Rattle.relation.specs.Rows.{ascend, absent_zero}
use Rattle.relation.specs.Shows.{Shows}
use Rattle.relation.proofs.Members.{every_in}
use Rattle.relation.proofs.Shapes.{absent_shaped, rows_of_sized}
use Rattle.database.specs.declared.Database.{Database}
use Rattle.database.specs.declared.Refusal.{Refusal}
use Rattle.database.specs.declared.Refusal.TheVariants.{DatabaseForm}
use Rattle.database.specs.Refusals.{Reply, refused, accepted, require, ◌>>=◌}
use Rattle.database.specs.Stored.{table_limit, rows_limit, table_cols, row_count, table_start, table_rows, tables, table_ok}
use Rattle.database.proofs.Replies.{accepted_refused, refused_same}

-- the reply to the test of the number of tables and the search for one off the form
abbrev pub replied : Bool → Option ℕ → Reply (Unit {0})
replied b o = require b (DatabaseForm table_limit) >>= λ _. elim o [ None ↦ accepted tt | Some t ↦ refused (DatabaseForm t) ]

pub replied_accepted : (b : Bool) (o : Option ℕ) → (replied b o ≡ accepted tt) ↔ ((b ≡ true) × (o ≡ None))
replied_accepted true None = (λ e. (refl, refl), λ _. refl)
replied_accepted true (Some t) = (λ e. accepted_refused (sym e), λ (_, e). none_some (sym e))
replied_accepted false o = (λ e. accepted_refused (sym e), λ (e, _). true_false (sym e))

pub replied_refused : (b : Bool) (o : Option ℕ) (r : Refusal)
    → (replied b o ≡ refused r) ↔ (((b ≡ false) × (r ≡ DatabaseForm table_limit)) ⊎ ((t : ℕ) × (b ≡ true) × (o ≡ Some t) × (r ≡ DatabaseForm t)))
replied_refused true None r = (
  λ e. accepted_refused e,
  elim [ inl (e, _) ↦ true_false e | inr (_, _, e, _) ↦ none_some e ],
)
replied_refused true (Some u) r = (
  λ e. inr (u, refl, refl, sym (refused_same e)),
  elim [ inl (e, _) ↦ true_false e | inr (t, _, e, f) ↦ ap refused (ap DatabaseForm (some_inj e) ∙ sym f) ],
)
replied_refused false o r = (
  λ e. inl (refl, sym (refused_same e)),
  elim [ inl (_, f) ↦ ap refused (sym f) | inr (_, e, _, _) ↦ true_false (sym e) ],
)

module _ (w : ℕ) (d : Database) (store : List ℕ) where
  -- what the test says of a table's entries and rows
  pub table_facts : (t : ℕ) → table_ok w d store t ≡ true → (table_start w d t + w * row_count w d t ≤ length store)
      × (every (absent_zero w (table_cols w d t)) (table_rows w d store t) ≡ true) × (ascend (table_rows w d store t) ≡ true)
  unfolding table_ok
  table_facts t e =
      let rows = every (absent_zero w (table_cols w d t)) (table_rows w d store t) in
      let room = leb (table_start w d t + w * row_count w d t) (length store) in
      let few = not (all (λ c. not (table_cols w d t c)) w) && leb (row_count w d t) rows_limit in
      let f = and_true_left (few && room && rows) (ascend (table_rows w d store t)) e in (
        leb-true _ _ (and_true_right few room (and_true_left (few && room) rows f)),
        and_true_right (few && room) rows f,
        and_true_right (few && room && rows) (ascend (table_rows w d store t)) e,
      )

  -- the rows of a tested table show it
  pub table_shows : (t : ℕ) → table_ok w d store t ≡ true → Shows w (table_cols w d t) (table_rows w d store t) (tables w d store t)
  table_shows t e =
      let (room, zeros, up) = table_facts t e in
      let fits : w * row_count w d t ≤ length (drop (table_start w d t) store) = rw (length-drop (table_start w d t) store) (omega arith) in
      record {
        shaped = λ r h. absent_shaped (rows_of_sized w (row_count w d t) _ fits r h) (every_in (absent_zero w (table_cols w d t)) zeros h);
        ascends = up;
        into = λ r h. (r, h, refl);
        from = λ m h. h;
      }
