-- `put_bytes` meets its contract: after i turns the first i bytes are put.
use native.Mathlib.Omega.{arith}
use native.Mathlib.Numerals.{add-one}
use Prim.Native.Nat.{ℕ, ◌≤◌}
use mathlib.Core.Path.{sym, ap, ◌∙◌}
use mathlib.Core.List.{List}
use lib.ListN.{length, take}
use lib.Seq.{take-suc, take_all}
use Rattle.output.proofs.Puts.{puts_none, puts_then, puts_as, puts_byte}
use Rattle.output.proofs.put_bytes.Goals as goal

pub loop-b-init : goal.loop-b-init
loop-b-init g c = (omega arith, puts_none)

pub loop-b-preserved : goal.loop-b-preserved
loop-b-preserved g c =
    let text : List ℕ = c.args.text.now in
    let i : ℕ = c.loop-b.b-index in (
      omega arith,
      puts_as (sym (take-suc text i 0 (omega arith)) ∙ ap (λ k. take k text) (sym (add-one i))) (puts_then c.loop-b.invariant.1 (puts_byte c.put_byte.ensures)),
    )

pub returns : goal.returns
returns g c = let h : length c.args.text.now ≤ c.loop-b.b-index = omega arith in puts_as (take_all _ _ h) c.loop-b.invariant.1
