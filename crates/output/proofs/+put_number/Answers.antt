-- `put_number` meets its contract. The measure is the number: its tenth part is less.
use mathlib.Core.Path.{sym}
use Rattle.output.proofs.Puts.{puts_byte, puts_then, puts_as}
use Rattle.output.proofs.LastDigit.{digits_few, digits_more}
use Rattle.output.proofs.+put_number.Goals as goal

pub returns-then-n-lt10 : goal.returns-then-n-lt10
returns-then-n-lt10 g t c = puts_as (sym (digits_few _ c.if-n-lt10.true)) (puts_byte c.put_byte.ensures)

pub returns : goal.returns
returns g t c = puts_as (sym (digits_more _ c.if-n-lt10.false)) (puts_then c.put_number.ensures (puts_byte c.put_byte-2.ensures))
