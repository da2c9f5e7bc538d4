-- `entry` meets its contract: past the end `slot` is 0.
use mathlib.Core.Path.{sym}
use lib.ListN.{get_or-eq_default}
use Rattle.writing.proofs.answers.entry.Goals as goal

pub returns-else-c-values : goal.returns-else-c-values
returns-else-c-values c = sym (get_or-eq_default c.args.values.now 0 c.if-c-values.false)
