-- `read_digits` meets its contract: the digits that are left, behind the value so far, have the value of them all.
use native.Mathlib.Omega.{arith}
use Prim.Native.Nat.{ℕ, ◌≤◌, ◌<◌, ◌-◌, ◌+◌, ◌*◌}
use mathlib.Core.Path.{◌≡◌, ap, sym, ◌∙◌}
use mathlib.Core.List.{List}
use lib.ListN.{length, drop, get_or, drop_of_length-le}
use Rattle.laws.proofs.Fronts.{drop_next}
use Rattle.byte_classes.specs.Classes.{class_of}
use Rattle.byte_classes.specs.declared.ByteClass.TheVariants.{Digit}
use Rattle.byte_classes.proofs.Ranges.{inside}
use Rattle.byte_classes.proofs.Bytes.{digit_byte, no_digit}
use Rattle.text.specs.Readings.{value_in}
use Rattle.text.proofs.ReaderLawsNumbers.{value_all, value_more, value_bad, value_over}
use Rattle.text.proofs.number_reader.read_digits.Goals as goal

-- the byte at hand is a digit
more : (v : ℕ) (l : List ℕ) (i d : ℕ) → i < length l → class_of (get_or l i 0) ≡ Digit d → value_in v (drop i l) ≡ value_in (v * 10 + d) (drop (i + 1) l)
more v l i d h e =
    let b : ℕ = get_or l i 0 in
    let known : (48 ≤ b) × ((b ≤ 57) × (d ≡ b - 48)) = digit_byte b d e in
    ap (value_in v) (drop_next l i 0 h)
    ∙ value_more v b (drop (i + 1) l) (inside 48 57 b known.0 known.1.0)
    ∙ ap (λ n. value_in (v * 10 + n) (drop (i + 1) l)) (sym known.1.1)

pub returns-in_default : goal.returns-in_default
returns-in_default c =
    let l : List ℕ = c.args.digits.now in
    sym (ap (value_in c.loop-i.value) (drop_next l c.loop-i.i 0 c.loop-i-test.true)
    ∙ value_bad c.loop-i.value (get_or l c.loop-i.i 0) _ (no_digit (get_or l c.loop-i.i 0) _ c.class_of.ensures c.in_default.not-Digit))
    ∙ c.loop-i.invariant.1

pub loop-i-preserved : goal.loop-i-preserved
loop-i-preserved c = (
  omega arith,
  ap (λ n. value_in (c.loop-i.value * 10 + n) (drop (c.loop-i.i + 1) c.args.digits.now)) c.from.ensures
      ∙ sym (more c.loop-i.value c.args.digits.now c.loop-i.i c.in-Digit.d c.loop-i-test.true (sym c.class_of.ensures ∙ c.in-Digit.is)) ∙ c.loop-i.invariant.1,
)

pub overflow_add-value : goal.overflow_add-value
overflow_add-value c =
    let h = digit_byte (get_or c.args.digits.now c.loop-i.i 0) c.in-Digit.d (sym c.class_of.ensures ∙ c.in-Digit.is) in
    omega (arith, h)

pub returns-then-value-gt4294967295 : goal.returns-then-value-gt4294967295
returns-then-value-gt4294967295 c =
    sym (more c.loop-i.value c.args.digits.now c.loop-i.i c.in-Digit.d c.loop-i-test.true (sym c.class_of.ensures ∙ c.in-Digit.is)
    ∙ value_over (c.loop-i.value * 10 + c.in-Digit.d) _ (omega arith))
    ∙ c.loop-i.invariant.1

pub returns : goal.returns
returns c = sym (ap (value_in c.loop-i.value) (drop_of_length-le c.args.digits.now c.loop-i-test.false) ∙ value_all c.loop-i.value c.loop-i.invariant.0) ∙ c.loop-i.invariant.1
