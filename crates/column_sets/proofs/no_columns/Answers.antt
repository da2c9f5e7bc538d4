-- All entries are false.
use mathlib.Core.Path.{refl}
use Rattle.laws.specs.Lists.{tabulate}
use Rattle.column_sets.proofs.no_columns.Goals as goal

pub returns : goal.returns
unfolding tabulate
returns c = refl
