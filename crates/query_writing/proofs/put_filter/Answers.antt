-- `put_filter` meets its contract: each arm is a line of `node_text`.
use mathlib.Core.Path.{ap}
use Rattle.query.specs.declared.Node.TheVariants.{Filter}
use Rattle.text.specs.Numbers.{bytes}
use Rattle.text.specs.Lines.{node_text}
use Rattle.query_writing.proofs.QueryLines.{puts_node}
use Rattle.query_writing.proofs.put_filter.Goals as goal

pub returns-in-Eq : goal.returns-in-Eq
unfolding node_text bytes
returns-in-Eq g c = puts_node (ap Filter c.in-Eq.is) c.put_two.ensures

pub returns-in-Ne : goal.returns-in-Ne
unfolding node_text bytes
returns-in-Ne g c = puts_node (ap Filter c.in-Ne.is) c.put_two-in-Ne.ensures

pub returns-in-Max : goal.returns-in-Max
unfolding node_text bytes
returns-in-Max g c = puts_node (ap Filter c.in-Max.is) c.put_two-in-Max.ensures

pub returns-in-Same : goal.returns-in-Same
unfolding node_text bytes
returns-in-Same g c = puts_node (ap Filter c.in-Same.is) c.put_two-in-Same.ensures
