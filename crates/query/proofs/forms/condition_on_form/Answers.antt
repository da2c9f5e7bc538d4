-- `forms::condition_on_form` tests the columns that the condition names.
use Rattle.std.proofs.Common.{rules}
use Rattle.laws.specs.Lists.{every}
use Rattle.query.proofs.forms.condition_on_form.Goals as goal

pub returns-then-c-lt-COLUMNS : goal.returns-then-c-lt-COLUMNS
unfolding every
returns-then-c-lt-COLUMNS c = search rules

pub returns-else-c-lt-COLUMNS : goal.returns-else-c-lt-COLUMNS
unfolding every
returns-else-c-lt-COLUMNS c = search rules

pub returns-in-Eq : goal.returns-in-Eq
unfolding every
returns-in-Eq c = search rules
