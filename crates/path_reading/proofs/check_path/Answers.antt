-- `check_path`: what is kept after i bytes is a state's, from which the rest of the text gives the reply.
use mathlib.Core.Path.{◌≡◌, refl, ap, sym, ◌∙◌}
use Prim.Native.Nat.{◌+◌}
use native.Mathlib.Omega.{arith}
use lib.ListN.{get_or}
use Rattle.std.proofs.Common.{rules, Err, Some, None}
use Rattle.database.specs.declared.Refusal.TheVariants.{PathForm}
use Rattle.database.specs.Refusals.{verdict}
use Rattle.paths.specs.Reader.{sign, start, path_limit}
use Rattle.path_reading.specs.Modes.{mode_next, depth_next}
use Rattle.path_reading.proofs.Modes.{in_turn, behind_all, depth_grows, kept_long, kept_bad, kept_more, kept_end, kept_open}
use Rattle.path_reading.proofs.check_path.Goals as goal

pub loop-i-init : goal.loop-i-init
loop-i-init c = (omega arith, omega arith, record { state = start; mode_is = refl; depth_is = refl; replies = refl })

pub returns-then-i-eq-PATH_BYTES : goal.returns-then-i-eq-PATH_BYTES
returns-then-i-eq-PATH_BYTES c =
    let k = in_turn path_limit c.args.text.now c.loop-i.invariant.2 c.loop-i-test.true in
    sym (ap verdict (kept_long k c.if-i-eq-PATH_BYTES.true))

pub returns-in_err-mode : goal.returns-in_err-mode
returns-in_err-mode c =
    let k = in_turn path_limit c.args.text.now c.loop-i.invariant.2 c.loop-i-test.true in
    let off : c.next_mode.result ≡ None = grind arith in
    let told : c.from_residual.result ≡ Err (PathForm (c.loop-i.i + 1)) = search rules in
    told ∙ sym (ap verdict (kept_bad k (omega arith) (sym (c.next_mode.ensures ∙ ap (mode_next c.loop-i.mode c.loop-i.depth) c.sign_of-sign.ensures) ∙ off)))

pub loop-i-preserved : goal.loop-i-preserved
loop-i-preserved c =
    let k = in_turn path_limit c.args.text.now c.loop-i.invariant.2 c.loop-i-test.true in
    let on : c.next_mode.result ≡ Some c.in_ok-mode.mode = grind arith in
    let deep : c.next_depth-depth.result ≡ depth_next c.loop-i.depth (sign (get_or c.args.text.now c.loop-i.i 0)) =
    c.next_depth-depth.ensures ∙ ap (depth_next c.loop-i.depth) c.sign_of-sign.ensures in (
      omega arith,
      rw deep (omega (arith, depth_grows c.loop-i.depth (sign (get_or c.args.text.now c.loop-i.i 0)))),
      rw deep (kept_more k (omega arith) (sym (c.next_mode.ensures ∙ ap (mode_next c.loop-i.mode c.loop-i.depth) c.sign_of-sign.ensures) ∙ on)),
    )

-- the text ends here
pub returns-then-finished : goal.returns-then-finished
returns-then-finished c =
    sym (kept_end (behind_all path_limit c.args.text.now (omega arith) c.loop-i.invariant.2) (sym c.finished.ensures ∙ c.if-finished.true))

pub returns : goal.returns
returns c =
    sym (kept_open (behind_all path_limit c.args.text.now (omega arith) c.loop-i.invariant.2) (sym c.finished.ensures ∙ c.if-finished.false))
