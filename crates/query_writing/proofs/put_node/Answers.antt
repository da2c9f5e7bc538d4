-- `put_node` meets its contract: each arm is a line of `node_text`.
use Rattle.text.specs.Numbers.{bytes}
use Rattle.text.specs.Lines.{node_text}
use Rattle.query_writing.proofs.QueryLines.{puts_node}
use Rattle.query_writing.proofs.put_node.Goals as goal

pub returns-in-Table : goal.returns-in-Table
unfolding node_text bytes
returns-in-Table g c = puts_node c.in-Table.is c.put_one.ensures

pub returns-in-Var : goal.returns-in-Var
unfolding node_text bytes
returns-in-Var g c = puts_node c.in-Var.is c.put_one-in-Var.ensures

pub returns-in-Fact : goal.returns-in-Fact
unfolding node_text bytes
returns-in-Fact g c = puts_node c.in-Fact.is c.put_two.ensures

pub returns-in-Pair : goal.returns-in-Pair
unfolding node_text bytes
returns-in-Pair g c = puts_node c.in-Pair.is c.put_pair.ensures

pub returns-in-Filter : goal.returns-in-Filter
unfolding node_text bytes
returns-in-Filter g c = puts_node c.in-Filter.is c.put_filter.ensures

pub returns-in-Copy : goal.returns-in-Copy
unfolding node_text bytes
returns-in-Copy g c = puts_node c.in-Copy.is c.put_two-in-Copy.ensures

pub returns-in-Drop : goal.returns-in-Drop
unfolding node_text bytes
returns-in-Drop g c = puts_node c.in-Drop.is c.put_one-in-Drop.ensures

pub returns-in-Fix : goal.returns-in-Fix
unfolding node_text bytes
returns-in-Fix g c = puts_node c.in-Fix.is c.put_one-in-Fix.ensures

pub returns-in-Mu : goal.returns-in-Mu
unfolding node_text bytes
returns-in-Mu g c = puts_node c.in-Mu.is c.put_one-in-Mu.ensures

pub returns-in-Last : goal.returns-in-Last
unfolding node_text bytes
returns-in-Last g c = puts_node c.in-Last.is c.put_one-in-Last.ensures
