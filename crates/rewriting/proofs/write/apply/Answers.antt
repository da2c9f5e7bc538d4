-- What is judged is what was found.
use mathlib.Core.Path.{sym, subst, ◌∙◌}
use Rattle.std.specs.Prelude.{Option, IfSome}
use Rattle.matching.specs.declared.Found.{Found}
use Rattle.matching.specs.Found.{Fits}
use Rattle.rewriting.proofs.Judged.{judged_found}
use Rattle.rewriting.proofs.write.apply.Goals as goal

pub written-requires : goal.written-requires
written-requires c =
    let (within, fits, sound) = c.requires in
    let found = judged_found c.args.sheet.query c.args.sheet.facts c.args.found (sym c.in-Ok.is ∙ c.judged.ensures) in
    (within, subst (λ (o : Option Found). IfSome o (Fits c.args.sheet.facts c.args.i)) found fits, sound)
