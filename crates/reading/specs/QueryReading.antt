-- The stages of reading a sheet's text. w is the number of columns.
use Rattle.std.specs.Prelude.{◌&&◌, List, ℕ, ◌+◌, min, leb, set}
use Rattle.laws.specs.Lists.{when◌then◌else◌}
use Rattle.database.specs.declared.Refusal.TheVariants.{QueryForm, NodeCount}
use Rattle.database.specs.Refusals.{Reply, accepted, require, ◌>>=◌}
use Rattle.query.specs.declared.Node.{Node}
use Rattle.query.specs.declared.Query.{Query}
use Rattle.query.specs.Lines.{line, node_limit}
use Rattle.text.specs.declared.line_reader.Cursor.{Cursor}
use Rattle.text.specs.Lines.{Rest, due, many, ended, node_line}
use Rattle.text.specs.Cursors.{rest_at}

-- a query with one more node, where there is room for it
abbrev pub stored : Query → Node → Query
stored q n = when leb node_limit q.count then q else record { count = q.count + 1; lines = set q.lines q.count (line n) }

-- behind the last due line: "nothing after the last", then the node count
abbrev pub end_test : Rest → ℕ → ℕ → Reply (Unit {0})
end_test s n limit = do
  _ ← ended QueryForm s
  require (leb 1 n && leb n (min limit node_limit)) (NodeCount 2)

-- n node lines from a cursor on, and what stands behind them
abbrev pub line_nodes : ℕ → List ℕ → Cursor → ℕ → ℕ → Reply (List Node)
line_nodes w text c n limit = do
  (ns, s) ← many (due QueryForm (node_line w)) n (rest_at text c)
  _ ← end_test s n limit
  accepted ns
