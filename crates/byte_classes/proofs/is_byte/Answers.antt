-- `is_byte`: two bytes with a code below `several` are the same exactly if their codes are.
use mathlib.Core.Path.{ap, subst, ◌∙◌}
use Prim.Native.Nat.{◌<◌}
use Rattle.byte_classes.specs.Codes.{several, code_of}
use Rattle.byte_classes.proofs.Coded.{same_code}
use Rattle.byte_classes.proofs.is_byte.Goals as goal

pub returns-then-code-lt-SEVERAL : goal.returns-then-code-lt-SEVERAL
returns-then-code-lt-SEVERAL c =
    let code = c.code_of-code.ensures ∙ ap code_of c.class_of.ensures in
    let code2 = c.code_of.ensures ∙ ap code_of c.class_of-then-code-lt-SEVERAL.ensures in
    rw (code, code2) (same_code c.args.b c.args.asked (subst (λ n. n < several) code c.if-code-lt-SEVERAL.true))
