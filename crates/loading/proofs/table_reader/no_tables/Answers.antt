use mathlib.Core.Path.{ap}
use lib.ListN.{replicate}
use Rattle.database.specs.Stored.{table_limit}
use Rattle.loading.proofs.table_reader.no_tables.Goals as goal

pub returns : goal.returns
returns c = ap (λ cs. record { tables = 0; columns = replicate table_limit cs; rows = replicate table_limit 0 }) c.no_columns-none.ensures
