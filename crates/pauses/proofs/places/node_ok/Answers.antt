-- `node_ok`: by the node's line.
use mathlib.Core.Path.{ap, sym, ◌∙◌}
use mathlib.Core.Bool.{not}
use Rattle.pauses.specs.Places.{node_ok}
use Rattle.pauses.proofs.places.node_ok.Goals as goal

pub returns-then-is_var : goal.returns-then-is_var
unfolding node_ok
returns-then-is_var c =
    let variable = sym c.is_var.ensures ∙ c.if-is_var.true in
    rw variable c.empty_ok.ensures

pub returns-else-register_ok : goal.returns-else-register_ok
unfolding node_ok
returns-else-register_ok c =
    let other = sym c.is_var.ensures ∙ c.if-is_var.false in
    let fails = sym c.register_ok.ensures ∙ c.if-register_ok.false in
    c.if-register_ok.false ∙ rw (other, fails)

pub returns-else-not-has_step : goal.returns-else-not-has_step
unfolding node_ok
returns-else-not-has_step c =
    let other = sym c.is_var.ensures ∙ c.if-is_var.false in
    let passes = sym c.register_ok.ensures ∙ c.if-register_ok.true in
    let step = sym c.has_step.ensures ∙ c.if-not-has_step.false in
    rw (other, passes, step) c.register_ok-else-not-has_step.ensures

pub returns-then-not-has_step : goal.returns-then-not-has_step
unfolding node_ok
returns-then-not-has_step c =
    let other = sym c.is_var.ensures ∙ c.if-is_var.false in
    let passes = sym c.register_ok.ensures ∙ c.if-register_ok.true in
    let bare = sym c.has_step.ensures ∙ c.if-not-has_step.true in
    ap not c.if-not-has_step.true ∙ rw (other, passes, bare)
