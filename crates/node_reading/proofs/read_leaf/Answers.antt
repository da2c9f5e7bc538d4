-- `read_leaf` meets its contract: each form is taken, or passed for the next one.
use mathlib.Core.Path.{sym, ◌∙◌}
use Rattle.query.specs.declared.Node.TheVariants.{Table, Var, Fact}
use Rattle.text.specs.Numbers.{bytes}
use Rattle.text.specs.Lines.{by_forms}
use Rattle.node_reading.specs.NodeReading.{leaf_forms}
use Rattle.node_reading.proofs.ReaderLawsNodes.{behind, one_passed, one_taken, two_passed, two_taken}
use Rattle.node_reading.proofs.read_leaf.Goals as goal

pub returns-in-Some : goal.returns-in-Some
unfolding bytes
returns-in-Some c =
    sym (one_taken "table=" Table _ _ _ c.in-Some.ensures)

pub returns-in-Some-read_one : goal.returns-in-Some-read_one
unfolding bytes
returns-in-Some-read_one c =
    sym
    (one_passed "table=" Table (behind leaf_forms) _ c.in_default.ensures
    ∙ one_taken "var=" Var _ _ _ c.in-Some-read_one.ensures)

pub returns-in_err-c : goal.returns-in_err-c
unfolding bytes by_forms
returns-in_err-c c =
    c.from_residual.ensures
    ∙ sym
    (one_passed "table=" Table (behind leaf_forms) _ c.in_default.ensures
    ∙ one_passed "var=" Var (behind (behind leaf_forms)) _ c.in_default-read_one.ensures
    ∙ two_passed "fact=" Fact (behind (behind (behind leaf_forms))) _ c.in_err-c.ensures)

pub returns : goal.returns
unfolding bytes
returns c =
    sym
    (one_passed "table=" Table (behind leaf_forms) _ c.in_default.ensures
    ∙ one_passed "var=" Var (behind (behind leaf_forms)) _ c.in_default-read_one.ensures
    ∙ two_taken "fact=" Fact _ _ _ _ c.in_ok-c.ensures)
