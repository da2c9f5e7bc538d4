-- `with_byte` looks at a digit, and passes over any other byte.
use mathlib.Core.Path.{◌≡◌, ap, sym, ◌∙◌}
use Prim.Native.Nat.{◌-◌}
use native.Mathlib.Omega.{arith}
use Rattle.byte_classes.proofs.Ranges.{inside}
use Rattle.byte_classes.proofs.Bytes.{digit_byte, no_digit}
use Rattle.relation.specs.Rows.{columns}
use Rattle.database.specs.Stored.{schema}
use Rattle.path_names.specs.Names.{digit_next}
use Rattle.path_names.proofs.with_byte.Goals as goal

pub returns-in-Digit : goal.returns-in-Digit
returns-in-Digit c =
    let (h, (k, e)) = digit_byte _ _ (sym c.class_of.ensures ∙ c.in-Digit.is) in
    let at : c.from.result ≡ c.args.b - 48 = omega (arith, e) in
    c.with_digit.ensures ∙ ap (digit_next (schema columns c.args.database) c.args.named c.args.named.digit) at ∙ simp (inside 48 57 c.args.b h k)

pub returns-in_default : goal.returns-in_default
returns-in_default c = simp (no_digit c.args.b _ c.class_of.ensures c.in_default.not-Digit)

pub with_digit-requires : goal.with_digit-requires
with_digit-requires c =
    let h = digit_byte c.args.b c.in-Digit.d (sym c.class_of.ensures ∙ c.in-Digit.is) in omega (arith, h)
