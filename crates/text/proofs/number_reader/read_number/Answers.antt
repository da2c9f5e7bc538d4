use Rattle.std.proofs.Common.{List, ℕ, length, sym, ◌∙◌}
use borrow.Author.Tests.{eqb-true, eqb-false}
use Rattle.text.proofs.ReaderLawsNumbers.{number_empty, number_zero, number_short, number_long}
use Rattle.text.proofs.number_reader.read_number.Goals as goal
use Rattle.text.proofs.number_reader.read_number.Goals.{else-digits-gt1-via-then-digits-gt1+else-is_byte, else-digits-gt1-via-else-digits-gt1}

pub returns : goal.returns
returns c =
    let l : List ℕ = c.args.digits.now in
    let some = eqb-false (length l) 0 (sym c.is_empty.ensures ∙ c.if-is_empty.false) in
    c.read_digits.ensures
    ∙ elim c.else-digits-gt1.branch [
      | else-digits-gt1-via-then-digits-gt1+else-is_byte w ↦ sym (number_long l some (eqb-false _ 48 (sym w.is_byte.ensures ∙ w.if-is_byte.false)))
      | else-digits-gt1-via-else-digits-gt1 w ↦ sym (number_short l some w.if-digits-gt1.false)
    ]

pub returns-then-is_empty : goal.returns-then-is_empty
returns-then-is_empty c = sym (number_empty _ (eqb-true _ 0 (sym c.is_empty.ensures ∙ c.if-is_empty.true)))

pub returns-then-is_byte : goal.returns-then-is_byte
returns-then-is_byte c =
    sym (number_zero _ c.if-digits-gt1.true (eqb-true _ 48 (sym c.is_byte.ensures ∙ c.if-is_byte.true)))
