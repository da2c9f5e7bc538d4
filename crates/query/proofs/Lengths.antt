-- The arrays of the query's types have their lengths.
use mathlib.Core.Path.{◌≡◌, ◌∙◌}
use mathlib.Core.List.{List}
use Prim.Native.Nat.{◌≤◌}
use native.Mathlib.Omega.{arith}
use lib.ListN.{length, length-map, take}
use lib.Seq.{length-take-le}
use mir.Val.{Val}
use denote.Laws.{Is}
use denote.Struct.Declared.{row}
use Rattle.query.specs.declared.Query.{Query}
use Rattle.query.specs.Lines.{node_limit, nodes}
use Rattle.query.specs.contracts.Query.{the_type}

-- there is room for as many lines as a query may have
pub query_length : (q : Query) (vs : List Val) → Is (row the_type) q vs → length q.lines ≡ node_limit
query_length q vs h = h.1.1.1.0.1.0.1

pub nodes_length : (q : Query) (vs : List Val) → Is (row the_type) q vs → q.count ≤ node_limit → length (nodes q) ≡ q.count
nodes_length q vs h k =
    length-map (take q.count q.lines) _ ∙ length-take-le q.count q.lines (let e = query_length q vs h in omega arith)
