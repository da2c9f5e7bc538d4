-- `read_other` meets its contract: each form is taken, or passed for the next one.
use mathlib.Core.Path.{sym, ◌∙◌}
use Rattle.query.specs.declared.Node.TheVariants.{Copy, Drop, Fix, Mu, Last}
use Rattle.text.specs.Numbers.{bytes}
use Rattle.text.specs.Lines.{by_forms}
use Rattle.node_reading.specs.NodeReading.{other_forms}
use Rattle.node_reading.proofs.ReaderLawsNodes.{behind, one_passed, one_taken, two_passed, two_taken}
use Rattle.node_reading.proofs.read_other.Goals as goal

pub returns-in-Some : goal.returns-in-Some
unfolding bytes
returns-in-Some c =
    sym (two_taken "copy=" Copy _ _ _ _ c.in-Some.ensures)

pub returns-in-Some-read_one : goal.returns-in-Some-read_one
unfolding bytes
returns-in-Some-read_one c =
    sym
    (two_passed "copy=" Copy (behind other_forms) _ c.in_default.ensures
    ∙ one_taken "drop=" Drop _ _ _ c.in-Some-read_one.ensures)

pub returns-in-Some-read_one-2 : goal.returns-in-Some-read_one-2
unfolding bytes
returns-in-Some-read_one-2 c =
    sym
    (two_passed "copy=" Copy (behind other_forms) _ c.in_default.ensures
    ∙ one_passed "drop=" Drop (behind (behind other_forms)) _ c.in_default-read_one.ensures
    ∙ one_taken "fix=" Fix _ _ _ c.in-Some-read_one-2.ensures)

pub returns-in-Some-read_one-3 : goal.returns-in-Some-read_one-3
unfolding bytes
returns-in-Some-read_one-3 c =
    sym
    (two_passed "copy=" Copy (behind other_forms) _ c.in_default.ensures
    ∙ one_passed "drop=" Drop (behind (behind other_forms)) _ c.in_default-read_one.ensures
    ∙ one_passed "fix=" Fix (behind (behind (behind other_forms))) _ c.in_default-read_one-2.ensures
    ∙ one_taken "mu=" Mu _ _ _ c.in-Some-read_one-3.ensures)

pub returns-in_err-c : goal.returns-in_err-c
unfolding bytes by_forms
returns-in_err-c c =
    c.from_residual.ensures
    ∙ sym
    (two_passed "copy=" Copy (behind other_forms) _ c.in_default.ensures
    ∙ one_passed "drop=" Drop (behind (behind other_forms)) _ c.in_default-read_one.ensures
    ∙ one_passed "fix=" Fix (behind (behind (behind other_forms))) _ c.in_default-read_one-2.ensures
    ∙ one_passed "mu=" Mu (behind (behind (behind (behind other_forms)))) _ c.in_default-read_one-3.ensures
    ∙ one_passed "last=" Last (behind (behind (behind (behind (behind other_forms))))) _ c.in_err-c.ensures)

pub returns : goal.returns
unfolding bytes
returns c =
    sym
    (two_passed "copy=" Copy (behind other_forms) _ c.in_default.ensures
    ∙ one_passed "drop=" Drop (behind (behind other_forms)) _ c.in_default-read_one.ensures
    ∙ one_passed "fix=" Fix (behind (behind (behind other_forms))) _ c.in_default-read_one-2.ensures
    ∙ one_passed "mu=" Mu (behind (behind (behind (behind other_forms)))) _ c.in_default-read_one-3.ensures
    ∙ one_taken "last=" Last _ _ _ c.in_ok-c.ensures)
