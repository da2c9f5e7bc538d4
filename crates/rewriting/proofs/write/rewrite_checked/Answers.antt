-- What is found at the node fits its index.
use native.Mathlib.Omega.{arith}
use Prim.Native.Nat.{◌-◌}
use mathlib.Core.Path.{sym, subst}
use Rattle.std.specs.Prelude.{Option, IfSome}
use Rattle.matching.specs.declared.Found.{Found}
use Rattle.matching.specs.Found.{Fits}
use Rattle.matching.proofs.Fitting.{found_fits}
use Rattle.rewriting.proofs.write.rewrite_checked.Goals as goal

pub apply-requires : goal.apply-requires
apply-requires c =
    let (p, _) = c.requires in (
      omega arith,
      subst (λ (o : Option Found). IfSome o (Fits c.args.sheet.facts (c.args.node - 1))) (sym c.find.ensures) (found_fits c.args.sheet.query c.args.sheet.facts p c.args.kind (c.args.node - 1)),
      (p.fits, p.low),
    )
