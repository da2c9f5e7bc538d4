-- `put_answer` meets its contract: the header, the columns, the row count, the rows and the lines run one behind the other.
use mathlib.Core.Path.{ap, sym, ◌∙◌}
use mathlib.Core.List.{◌++◌, map}
use Rattle.relation.specs.Rows.{columns as width, slot, cols_of}
use Rattle.text.specs.Numbers.{bytes, comma_digits, digits}
use Rattle.text.specs.Texts.{answer_text, rows_text, column_list, line_text}
use Rattle.relation.proofs.Entries.{rows_of_length}
use Rattle.output.proofs.Puts.{puts_then, puts_as}
use Rattle.writing.proofs.AnswerLines.{numbers_read}
use Rattle.writing.proofs.answers.put_answer.Goals as goal

pub returns : goal.returns
unfolding answer_text rows_text bytes
returns g c =
    let cs = column_list width (cols_of width c.args.columns) in
    puts_then c.put_bytes.ensures
    (puts_then
    (puts_then
    (puts_as (ap (λ l. line_text (bytes "cols=" ++ comma_digits l)) (ap (λ l. map (slot l) cs) c.column_numbers-numbers.ensures ∙ numbers_read width (cols_of width c.args.columns)))
    c.put_row.ensures)
    (puts_then (puts_as (ap (λ n. line_text (bytes "rows=" ++ digits n)) (sym (rows_of_length width c.args.count c.args.rows.now))) c.put_one.ensures) c.put_rows.ensures))
    c.put_one-2.ensures)
