use Rattle.relation.specs.Rows.{columns}
use Rattle.database.specs.Stored.{schema}
use Rattle.path_names.proofs.Tested.{Kept}
use Rattle.path_names.proofs.check_names.Given as goal

abbrev pub invariant-loop-b : goal.invariant-loop-b
invariant-loop-b l = Kept (schema columns l.database) l.path l.named l.b-index
