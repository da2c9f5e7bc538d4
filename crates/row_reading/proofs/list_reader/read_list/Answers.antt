use mathlib.Core.Path.{ap, sym, ◌∙◌}
use Rattle.laws.specs.Options.{mapped, ◌then◌}
use Rattle.relation.specs.Rows.{columns}
use Rattle.text.specs.Numbers.{numbers}
use Rattle.text.proofs.ReaderLawsLines.{after_rest, no_key, key_fits}
use Rattle.row_reading.specs.NumberArrays.{numbers_of, few}
use Rattle.row_reading.proofs.list_reader.read_list.Goals as goal

pub read_numbers-requires : goal.read_numbers-requires
read_numbers-requires c =
    key_fits c.args.key.now c.args.line.now (sym c.starts.ensures ∙ c.if-starts.true)

pub returns-then-starts : goal.returns-then-starts
returns-then-starts c =
    c.read_numbers.ensures
    ∙ ap (λ o. mapped numbers_of (few columns (o then numbers)))
    (sym (after_rest c.args.key.now c.args.line.now (sym c.starts.ensures ∙ c.if-starts.true)))

pub returns-else-starts : goal.returns-else-starts
returns-else-starts c =
    ap (λ o. mapped numbers_of (few columns (o then numbers)))
    (sym (no_key c.args.key.now c.args.line.now (sym c.starts.ensures ∙ c.if-starts.false)))
