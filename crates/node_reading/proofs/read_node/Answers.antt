use mathlib.Core.Path.{sym, ◌∙◌}
use Rattle.text.specs.Lines.{node_line}
use Rattle.node_reading.proofs.read_node.Goals as goal

pub returns-in_err-n : goal.returns-in_err-n
unfolding node_line
returns-in_err-n c = rw (← c.in_err-n.ensures) c.from_residual.ensures

pub returns-then-on_form : goal.returns-then-on_form
unfolding node_line
returns-then-on_form c = rw (← c.in_ok-n.ensures, sym c.on_form.ensures ∙ c.if-on_form.true)

pub returns-else-on_form : goal.returns-else-on_form
unfolding node_line
returns-else-on_form c = rw (← c.in_ok-n.ensures, sym c.on_form.ensures ∙ c.if-on_form.false)
