use Rattle.laws.proofs.Indexed.{Written}
use Rattle.relation.specs.Rows.{columns, cols_of}
use Rattle.origins.specs.Origins.{number_at, origin_number}
use Rattle.origins.proofs.line_origins.Given as goal

abbrev pub invariant-loop-c : goal.invariant-loop-c
invariant-loop-c l = Written 0 (origin_number l.node (cols_of columns l.own) (number_at l.last) (number_at l.first)) columns l.held.from l.c
