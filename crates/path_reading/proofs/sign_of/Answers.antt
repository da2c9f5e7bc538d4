-- `sign_of`: a digit is told by its class.
use mathlib.Core.Path.{ap, sym, ◌∙◌}
use Rattle.byte_classes.proofs.Ranges.{inside}
use Rattle.byte_classes.proofs.Bytes.{digit_byte}
use Rattle.paths.specs.declared.Sign.TheVariants.{Digit}
use Rattle.paths.specs.Reader.{sign}
use Rattle.path_reading.proofs.sign_of.Goals as goal

pub returns-in-Digit : goal.returns-in-Digit
unfolding sign
returns-in-Digit c =
    let (h, (k, e)) = digit_byte c.args.b c.in-Digit.d (sym c.class_of.ensures ∙ c.in-Digit.is) in
    ap Digit e ∙ simp (inside 48 57 c.args.b h k)
