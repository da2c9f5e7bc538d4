-- `read_filter` meets its contract: each form is taken, or passed for the next one.
use mathlib.Core.Path.{sym, ◌∙◌}
use Rattle.algebra.specs.declared.Condition.TheVariants.{Eq, Ne, Max, Same}
use Rattle.query.specs.declared.Node.TheVariants.{Filter}
use Rattle.text.specs.Numbers.{bytes}
use Rattle.text.specs.Lines.{by_forms}
use Rattle.node_reading.specs.NodeReading.{filter_forms}
use Rattle.node_reading.proofs.ReaderLawsNodes.{behind, two_passed, two_taken}
use Rattle.node_reading.proofs.read_filter.Goals as goal

pub returns-in-Some : goal.returns-in-Some
unfolding bytes
returns-in-Some c =
    sym (two_taken "eq=" (λ c x. Filter (Eq c x)) _ _ _ _ c.in-Some.ensures)

pub returns-in-Some-read_two : goal.returns-in-Some-read_two
unfolding bytes
returns-in-Some-read_two c =
    sym
    (two_passed "eq=" (λ c x. Filter (Eq c x)) (behind filter_forms) _ c.in_default.ensures
    ∙ two_taken "ne=" (λ c x. Filter (Ne c x)) _ _ _ _ c.in-Some-read_two.ensures)

pub returns-in-Some-read_two-2 : goal.returns-in-Some-read_two-2
unfolding bytes
returns-in-Some-read_two-2 c =
    sym
    (two_passed "eq=" (λ c x. Filter (Eq c x)) (behind filter_forms) _ c.in_default.ensures
    ∙ two_passed "ne=" (λ c x. Filter (Ne c x)) (behind (behind filter_forms)) _ c.in_default-read_two.ensures
    ∙ two_taken "max=" (λ c x. Filter (Max c x)) _ _ _ _ c.in-Some-read_two-2.ensures)

pub returns-in_err-c : goal.returns-in_err-c
unfolding bytes by_forms
returns-in_err-c c =
    c.from_residual.ensures
    ∙ sym
    (two_passed "eq=" (λ c x. Filter (Eq c x)) (behind filter_forms) _ c.in_default.ensures
    ∙ two_passed "ne=" (λ c x. Filter (Ne c x)) (behind (behind filter_forms)) _ c.in_default-read_two.ensures
    ∙ two_passed "max=" (λ c x. Filter (Max c x)) (behind (behind (behind filter_forms))) _ c.in_default-read_two-2.ensures
    ∙ two_passed "same=" (λ c d. Filter (Same c d)) (behind (behind (behind (behind filter_forms)))) _ c.in_err-c.ensures)

pub returns : goal.returns
unfolding bytes
returns c =
    sym
    (two_passed "eq=" (λ c x. Filter (Eq c x)) (behind filter_forms) _ c.in_default.ensures
    ∙ two_passed "ne=" (λ c x. Filter (Ne c x)) (behind (behind filter_forms)) _ c.in_default-read_two.ensures
    ∙ two_passed "max=" (λ c x. Filter (Max c x)) (behind (behind (behind filter_forms))) _ c.in_default-read_two-2.ensures
    ∙ two_taken "same=" (λ c d. Filter (Same c d)) _ _ _ _ c.in_ok-c.ensures)
