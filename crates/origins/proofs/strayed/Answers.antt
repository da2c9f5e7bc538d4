-- Of the columns below c those are marked whose number is another.
use native.Mathlib.Omega.{arith}
use mathlib.Core.Path.{◌≡◌, refl, ap}
use mathlib.Core.Bool.{Bool, not}
use mathlib.Core.List.{List}
use lib.Dec.{eqb}
use Rattle.laws.proofs.Indexed.{written_none, written_more, written_all}
use Rattle.relation.specs.Rows.{columns}
use Rattle.origins.proofs.strayed.Goals as goal

pub loop-c-preserved : goal.loop-c-preserved
loop-c-preserved c =
    written_more c.loop-c.c _ c.loop-c.invariant c.loop-c-test.true (ap (λ n. not (eqb n c.loop-c.c)) c.number_at.ensures)

pub returns : goal.returns
returns c =
    let e : c.loop-c.c ≡ columns = omega arith in
    ap (λ (l : List Bool). record { has = l }) (written_all (rw e at c.loop-c.invariant))

pub loop-c-init : goal.loop-c-init
loop-c-init c = written_none refl
