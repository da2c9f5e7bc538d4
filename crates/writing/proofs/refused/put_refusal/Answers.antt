-- `put_refusal` meets its contract.
use native.Mathlib.Omega.{arith}
use Rattle.text.specs.Numbers.{bytes}
use Rattle.text.specs.Texts.{refusal_text}
use Rattle.output.proofs.Puts.{puts_as}
use Rattle.writing.proofs.Rooms.{refusal_room_lem}
use Rattle.writing.proofs.refused.put_refusal.Goals as goal

pub returns : goal.returns
unfolding refusal_text bytes
returns g c = (
  puts_as (rw (c.refusal_place-place.ensures, c.refusal_number-number.ensures)) c.put_two.ensures,
  refusal_room_lem c.args.r (omega (arith, c.refusal_place-place.type_inv, c.refusal_place-place.ensures)),
)
