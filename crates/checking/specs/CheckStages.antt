-- The check from 3 on, and from 4 on: document 01's "Checking" of a query whose lines are on the form, with the split between them.
use Rattle.algebra.specs.Term.{Term}
use Rattle.algebra.specs.Columns.{Schema}
use Rattle.database.specs.Refusals.{Reply, accepted, no_fault, ◌>>=◌}
use Rattle.query.specs.declared.Query.{Query}
use Rattle.query.specs.Check.{faults}
use Rattle.splitting.specs.SplitValue.{split_reply}

-- the two passes, of what a split sheet reads to
abbrev pub pass_term : Schema → Reply Term → Reply Term
pass_term G r = do
  t ← r
  _ ← no_fault (faults G t)
  accepted t

abbrev pub check_term : Query → Schema → Reply Term
check_term q G = pass_term G (split_reply q)
