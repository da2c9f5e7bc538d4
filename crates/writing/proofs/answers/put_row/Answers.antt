-- `put_row` meets its contract: the key, the values and byte 10 one behind the other.
use Rattle.output.proofs.Puts.{puts_byte, puts_then}
use Rattle.writing.proofs.answers.put_row.Goals as goal

pub returns : goal.returns
returns g c =
    puts_then (puts_then c.put_bytes.ensures c.put_values.ensures) (puts_byte c.put_byte.ensures)
