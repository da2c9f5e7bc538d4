use mathlib.Core.Path.{ap, sym, ◌∙◌}
use Rattle.laws.specs.Options.{◌then◌}
use Rattle.text.specs.Numbers.{numbers}
use Rattle.text.specs.Lines.{if_two}
use Rattle.text.specs.Readings.{paired}
use Rattle.text.proofs.ReaderLawsLines.{after_rest, key_fits}
use Rattle.text.proofs.line_reader.read_two.Goals as goal

pub read_pair-requires : goal.read_pair-requires
read_pair-requires c =
    key_fits c.args.key.now c.args.line.now (sym c.starts.ensures ∙ c.if-starts.true)

pub returns-then-starts : goal.returns-then-starts
returns-then-starts c =
    c.read_pair.ensures
    ∙ ap (λ o. if_two paired (o then numbers)) (sym (after_rest c.args.key.now c.args.line.now (sym c.starts.ensures ∙ c.if-starts.true)))
