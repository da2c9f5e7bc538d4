-- `put_one` meets its contract: the key, the number and byte 10 one behind the other.
use Rattle.output.proofs.Puts.{puts_byte, puts_then}
use Rattle.output.proofs.put_one.Goals as goal

pub returns : goal.returns
returns g c = puts_then (puts_then c.put_bytes.ensures c.put_number.ensures) (puts_byte c.put_byte.ensures)
