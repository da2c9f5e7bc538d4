-- `answer` meets its contract: a stage that refuses ends the reply with its refusal's line, and past the stages it is the run's answer.
use native.Mathlib.Omega.{arith}
use mathlib.Core.Path.{◌≡◌, refl, ap, sym, ◌∙◌}
use lib.ListN.{length}
use Rattle.relation.specs.Rows.{columns}
use Rattle.database.specs.declared.Refusal.TheVariants.{ShortSlice}
use Rattle.database.specs.Refusals.{refused}
use Rattle.output.specs.Replies.{write_reply, slice_after}
use Rattle.answering.specs.Answer.{limits, taken, answer}
use Rattle.answering.proofs.Roomy.{roomy_run}
use Rattle.answering.proofs.Printed.{
  answer_told,
  cause_is,
  prints,
  run_ended,
  told_as,
  long_sheet,
  long_book,
  long_steps,
  short_files,
  book_passes,
  book_stops,
  sheet_passes,
  sheet_stops,
  check_passes,
  check_stops,
  steps_pass,
  steps_stop,
}
use Rattle.answering.proofs.answer.Goals as goal
use Rattle.answering.proofs.answer.Goals.{then-sheet-gt-BYTES_TAKEN-via-then-sheet-gt-BYTES_TAKEN, then-sheet-gt-BYTES_TAKEN-via-else-sheet-gt-BYTES_TAKEN+then-book-gt-BYTES_TAKEN, then-sheet-gt-BYTES_TAKEN-via-else-sheet-gt-BYTES_TAKEN+else-book-gt-BYTES_TAKEN+then-steps-gt-BYTES_TAKEN}

pub returns-then-sheet-gt-BYTES_TAKEN : goal.returns-then-sheet-gt-BYTES_TAKEN
returns-then-sheet-gt-BYTES_TAKEN c =
    let long : answer c.args.sheet.now c.args.book.now c.args.steps.now ≡ refused ShortSlice = elim c.then-sheet-gt-BYTES_TAKEN.branch [
      | then-sheet-gt-BYTES_TAKEN-via-then-sheet-gt-BYTES_TAKEN w ↦ long_sheet _ _ _ w.if-sheet-gt-BYTES_TAKEN.true
      | then-sheet-gt-BYTES_TAKEN-via-else-sheet-gt-BYTES_TAKEN+then-book-gt-BYTES_TAKEN w ↦ long_book _ _ _ w.if-book-gt-BYTES_TAKEN.true
      | then-sheet-gt-BYTES_TAKEN-via-else-sheet-gt-BYTES_TAKEN+else-book-gt-BYTES_TAKEN+then-steps-gt-BYTES_TAKEN w ↦
          long_steps _ _ _ w.if-sheet-gt-BYTES_TAKEN.false w.if-book-gt-BYTES_TAKEN.false w.if-steps-gt-BYTES_TAKEN.true
    ] in
    prints _ _ _ _ long c.write_refusal.ensures

pub returns-in_default : goal.returns-in_default
returns-in_default c =
    prints _ _ _ _
    (short_files _ _ _ c.if-sheet-gt-BYTES_TAKEN.false c.if-book-gt-BYTES_TAKEN.false c.if-steps-gt-BYTES_TAKEN.false
    ∙ book_stops _ _ _ (cause_is c.in_default.is c.cause.ensures ∙ c.read_database-stored.ensures.value))
    c.write_refusal-in_default.ensures

pub returns-in_default-read : goal.returns-in_default-read
returns-in_default-read c =
    prints _ _ _ _
    (short_files _ _ _ c.if-sheet-gt-BYTES_TAKEN.false c.if-book-gt-BYTES_TAKEN.false c.if-steps-gt-BYTES_TAKEN.false
    ∙ book_passes _ _ _ _ c.read_database-stored.ensures.store_after (sym c.in-Ok.is ∙ c.read_database-stored.ensures.value)
    ∙ sheet_stops _ _ _ _ (cause_is c.in_default-read.is c.cause-in_default-read.ensures ∙ c.read_query-read.ensures))
    c.write_refusal-in_default-read.ensures

pub returns-in_default-checked : goal.returns-in_default-checked
returns-in_default-checked c =
    prints _ _ _ _
    (short_files _ _ _ c.if-sheet-gt-BYTES_TAKEN.false c.if-book-gt-BYTES_TAKEN.false c.if-steps-gt-BYTES_TAKEN.false
    ∙ book_passes _ _ _ _ c.read_database-stored.ensures.store_after (sym c.in-Ok.is ∙ c.read_database-stored.ensures.value)
    ∙ sheet_passes _ _ _ _ (sym c.in-Ok-read.is ∙ c.read_query-read.ensures)
    ∙ check_stops _ _ _ _ c.check-checked.ensures (sym (cause_is c.in_default-checked.is c.cause-in_default-checked.ensures)))
    c.write_refusal-in_default-checked.ensures

pub returns-in_default-stepped : goal.returns-in_default-stepped
returns-in_default-stepped c =
    prints _ _ _ _
    (short_files _ _ _ c.if-sheet-gt-BYTES_TAKEN.false c.if-book-gt-BYTES_TAKEN.false c.if-steps-gt-BYTES_TAKEN.false
    ∙ book_passes _ _ _ _ c.read_database-stored.ensures.store_after (sym c.in-Ok.is ∙ c.read_database-stored.ensures.value)
    ∙ sheet_passes _ _ _ _ (sym c.in-Ok-read.is ∙ c.read_query-read.ensures)
    ∙ check_passes _ _ _ _ c.check-checked.ensures c.in-Ok-checked.is
    ∙ steps_stop _ _ _ _ (cause_is c.in_default-stepped.is c.cause-in_default-stepped.ensures ∙ c.apply_steps-stepped.ensures))
    c.write_refusal-in_default-stepped.ensures

pub returns-in_default-ended : goal.returns-in_default-ended
returns-in_default-ended c =
    prints _ _ _ _
    (short_files _ _ _ c.if-sheet-gt-BYTES_TAKEN.false c.if-book-gt-BYTES_TAKEN.false c.if-steps-gt-BYTES_TAKEN.false
    ∙ book_passes _ _ _ _ c.read_database-stored.ensures.store_after (sym c.in-Ok.is ∙ c.read_database-stored.ensures.value)
    ∙ sheet_passes _ _ _ _ (sym c.in-Ok-read.is ∙ c.read_query-read.ensures)
    ∙ check_passes _ _ _ _ c.check-checked.ensures c.in-Ok-checked.is
    ∙ steps_pass _ _ _ _ (sym c.in-Ok-stepped.is ∙ c.apply_steps-stepped.ensures)
    ∙ sym (roomy_run columns limits.nodes c.in-Ok-stepped.left c.in-Ok.database c.read_database-stored.new.store limits.rows taken.lines _ _ refl (omega arith) (omega arith))
    ∙ run_ended _ (cause_is c.in_default-ended.is c.cause-in_default-ended.ensures ∙ c.run-ended.ensures.value.0))
    c.write_refusal-in_default-ended.ensures

pub returns : goal.returns
returns c =
    let same = told_as
    (short_files _ _ _ c.if-sheet-gt-BYTES_TAKEN.false c.if-book-gt-BYTES_TAKEN.false c.if-steps-gt-BYTES_TAKEN.false
    ∙ book_passes _ _ _ _ c.read_database-stored.ensures.store_after (sym c.in-Ok.is ∙ c.read_database-stored.ensures.value)
    ∙ sheet_passes _ _ _ _ (sym c.in-Ok-read.is ∙ c.read_query-read.ensures)
    ∙ check_passes _ _ _ _ c.check-checked.ensures c.in-Ok-checked.is
    ∙ steps_pass _ _ _ _ (sym c.in-Ok-stepped.is ∙ c.apply_steps-stepped.ensures)
    ∙ sym (roomy_run columns limits.nodes c.in-Ok-stepped.left c.in-Ok.database c.read_database-stored.new.store limits.rows taken.lines _ _ refl (omega arith) (omega arith)))
    c.run-ended.result _ c.run-ended.new.answer (c.run-ended.ensures.value.0, c.run-ended.ensures.value.2) in
    let (text, room) = answer_told c.args.sheet.now c.args.book.now c.args.steps.now _ c.run-ended.new.answer c.in-Ok-ended.ran (sym c.in-Ok-ended.is ∙ same.0) same.1 in
    let (reply, slice, fits) = c.write_answer.ensures in (
      reply ∙ ap (λ y. write_reply y c.args.out.now) text,
      slice ∙ ap (λ y. slice_after y c.args.out.now) text,
      omega (arith, fits, room, ap length text),
    )
