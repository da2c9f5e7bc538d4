-- The lines of a query that is made from lines.
use mathlib.Core.Path.{◌≡◌}
use mathlib.Core.List.{List}
use Prim.Native.Nat.{◌-◌}
use lib.ListN.{length, replicate}
use Rattle.query.specs.declared.Node.{Node}
use Rattle.query.specs.Lines.{node_limit, nodes, blank}
use Rattle.query.proofs.SplitSheet.{lines_first}
use Rattle.text.specs.Texts.{query_value}

pub nodes_value : (ns : List Node) → nodes (query_value ns) ≡ ns
nodes_value ns = lines_first ns (replicate (node_limit - length ns) blank)
