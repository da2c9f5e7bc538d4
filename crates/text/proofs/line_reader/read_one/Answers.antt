use native.Mathlib.Omega.{arith}
use Prim.Native.Nat.{ℕ}
use mathlib.Core.Path.{ap, sym, ◌∙◌}
use mathlib.Core.List.{List}
use lib.ListN.{length, drop}
use Rattle.laws.specs.Options.{◌then◌}
use Rattle.text.specs.Numbers.{number, numbers}
use Rattle.text.specs.Lines.{if_one}
use Rattle.text.proofs.ReaderLawsLines.{after_rest, key_fits, part_to_end}
use Rattle.text.proofs.ReaderLawsForms.{one_number}
use Rattle.text.proofs.line_reader.read_one.Goals as goal

pub returns-then-starts : goal.returns-then-starts
returns-then-starts c =
    let key : List ℕ = c.args.key.now in
    let l : List ℕ = c.args.line.now in
    c.read_number.ensures
    ∙ ap number (part_to_end l (length key))
    ∙ sym (one_number (drop (length key) l))
    ∙ ap (λ o. if_one (λ n. n) (o then numbers)) (sym (after_rest key l (sym c.starts.ensures ∙ c.if-starts.true)))

pub slice_bounds-read_number-count : goal.slice_bounds-read_number-count
slice_bounds-read_number-count c = omega (arith, key_fits c.args.key.now c.args.line.now (sym c.starts.ensures ∙ c.if-starts.true))

pub slice_bounds-read_number-start : goal.slice_bounds-read_number-start
slice_bounds-read_number-start c = omega (arith, key_fits c.args.key.now c.args.line.now (sym c.starts.ensures ∙ c.if-starts.true))
