use mathlib.Core.Path.{ap, sym}
use Rattle.laws.proofs.Fronts.{more_drop}
use Rattle.database.specs.declared.Refusal.TheVariants.{DatabaseForm}
use Rattle.database.specs.Refusals.{require}
use Rattle.loading.specs.Loading.{text_or}
use Rattle.loading.proofs.database_reader.at_end.Goals as goal

pub returns-then-c-text : goal.returns-then-c-text
returns-then-c-text c = ap (λ b. text_or c.args.read (require b (DatabaseForm c.args.c.line))) (sym (more_drop c.args.text.now c.args.c.at 0 c.if-c-text.true))
