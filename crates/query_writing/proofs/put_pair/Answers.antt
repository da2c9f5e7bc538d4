-- `put_pair` meets its contract: each arm is a line of `node_text`.
use mathlib.Core.Path.{ap}
use Rattle.query.specs.declared.Node.TheVariants.{Pair}
use Rattle.text.specs.Numbers.{bytes}
use Rattle.text.specs.Lines.{node_text}
use Rattle.query_writing.proofs.QueryLines.{puts_node}
use Rattle.query_writing.proofs.put_pair.Goals as goal

pub returns-in-Union : goal.returns-in-Union
unfolding node_text bytes
returns-in-Union g c = puts_node (ap Pair c.in-Union.is) c.put_bytes.ensures

pub returns-in-Join : goal.returns-in-Join
unfolding node_text bytes
returns-in-Join g c = puts_node (ap Pair c.in-Join.is) c.put_bytes-in-Join.ensures

pub returns-in-Except : goal.returns-in-Except
unfolding node_text bytes
returns-in-Except g c = puts_node (ap Pair c.in-Except.is) c.put_bytes-in-Except.ensures
