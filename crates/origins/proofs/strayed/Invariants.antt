use mathlib.Core.Bool.{false, not}
use lib.Dec.{eqb}
use Rattle.laws.proofs.Indexed.{Written}
use Rattle.relation.specs.Rows.{columns}
use Rattle.origins.specs.Origins.{number_at}
use Rattle.origins.proofs.strayed.Given as goal

abbrev pub invariant-loop-c : goal.invariant-loop-c
invariant-loop-c l = Written false (λ e. not (eqb (number_at l.held e) e)) columns l.found.has l.c
