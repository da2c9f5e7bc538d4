-- `read_form` meets its contract: the table of lines, part by part.
use mathlib.Core.Path.{sym, ◌∙◌}
use Rattle.node_reading.specs.NodeReading.{leaf_forms, pair_forms, filter_forms, other_forms}
use mathlib.Core.List.{◌++◌}
use Rattle.node_reading.proofs.ReaderLawsNodes.{part_taken, part_passed}
use Rattle.node_reading.proofs.read_form.Goals as goal

pub returns-in-Some : goal.returns-in-Some
returns-in-Some c = sym (part_taken leaf_forms (pair_forms ++ (filter_forms ++ other_forms)) _ _ (sym c.in-Some.ensures))

pub returns-in-Some-read_pairing : goal.returns-in-Some-read_pairing
returns-in-Some-read_pairing c =
    sym
    (part_passed leaf_forms (pair_forms ++ (filter_forms ++ other_forms)) _ (sym c.in_default.ensures)
    ∙ part_taken pair_forms (filter_forms ++ other_forms) _ _ (sym c.in-Some-read_pairing.ensures))

pub returns-in-Some-read_filter : goal.returns-in-Some-read_filter
returns-in-Some-read_filter c =
    sym
    (part_passed leaf_forms (pair_forms ++ (filter_forms ++ other_forms)) _ (sym c.in_default.ensures)
    ∙ part_passed pair_forms (filter_forms ++ other_forms) _ (sym c.in_default-read_pairing.ensures)
    ∙ part_taken filter_forms other_forms _ _ (sym c.in-Some-read_filter.ensures))

pub returns : goal.returns
returns c =
    c.read_other.ensures
    ∙ sym
    (part_passed leaf_forms (pair_forms ++ (filter_forms ++ other_forms)) _ (sym c.in_default.ensures)
    ∙ part_passed pair_forms (filter_forms ++ other_forms) _ (sym c.in_default-read_pairing.ensures)
    ∙ part_passed filter_forms other_forms _ (sym c.in_default-read_filter.ensures))
