-- The columns below c have their numbers.
use native.Mathlib.Omega.{arith}
use Prim.Native.Nat.{ℕ}
use mathlib.Core.Path.{◌≡◌, refl, ap}
use mathlib.Core.List.{List}
use Rattle.laws.proofs.Indexed.{written_none, written_more, written_all}
use Rattle.relation.specs.Rows.{columns}
use Rattle.origins.proofs.line_origins.Goals as goal

pub loop-c-preserved : goal.loop-c-preserved
loop-c-preserved c =
    written_more c.loop-c.c c.origin_number.result c.loop-c.invariant c.loop-c-test.true c.origin_number.ensures

pub returns : goal.returns
returns c =
    let e : c.loop-c.c ≡ columns = omega arith in
    ap (λ (l : List ℕ). record { from = l }) (written_all (rw e at c.loop-c.invariant))

pub loop-c-init : goal.loop-c-init
loop-c-init c = written_none refl
