-- Past the tables a list of that length has nothing, which reads as 0.
use native.Mathlib.Omega.{arith}
use mathlib.Core.Path.{sym}
use lib.ListN.{get_or-eq_default}
use Rattle.database.proofs.CodeStored.{rows_length}
use Rattle.database.proofs.form.row_count.Goals as goal

pub returns-else-t-lt-TABLES : goal.returns-else-t-lt-TABLES
returns-else-t-lt-TABLES c =
    sym (get_or-eq_default c.args.database.rows 0 (omega (arith, rows_length c.args.database _ c.well_formed.0)))
