-- `put_value` meets its contract: a comma stands before each number but the first.
use Rattle.output.proofs.Puts.{puts_byte, puts_then, puts_as}
use Rattle.writing.proofs.answers.put_value.Goals as goal

pub returns-then-first : goal.returns-then-first
returns-then-first g c = puts_as (rw c.if-first.true) c.put_number.ensures

pub returns : goal.returns
returns g c =
    puts_as (rw c.if-first.false) (puts_then (puts_byte c.put_byte.ensures) c.put_number-2.ensures)
