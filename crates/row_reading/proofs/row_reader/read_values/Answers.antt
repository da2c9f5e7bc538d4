use borrow.Author.Rules.{rules}
use native.Mathlib.Omega.{arith}
use Prim.Native.Nat.{ℕ, ◌≤◌}
use mathlib.Core.Path.{◌≡◌, ap, sym, ◌∙◌}
use mathlib.Core.List.{List}
use lib.ListN.{length}
use lib.Seq.{length-take-le}
use Rattle.std.specs.Prelude.{Option, Some}
use Rattle.relation.specs.Rows.{columns}
use Rattle.text.specs.Numbers.{bytes}
use Rattle.text.specs.Readings.{numbers_behind}
use Rattle.text.proofs.ReaderLawsDue.{mapped_none}
use Rattle.row_reading.specs.declared.list_reader.Numbers.{Numbers}
use Rattle.row_reading.specs.NumberArrays.{numbers_of, listed, few}
use Rattle.row_reading.specs.RowReading.{as_row}
use Rattle.row_reading.proofs.LineReplies.{held, few_read, values_none, values_other, values_same, values_form}
use Rattle.row_reading.proofs.row_reader.read_values.Goals as goal

abbrev found : List ℕ → Option (List ℕ)
found line = numbers_behind (bytes "row=") line

long : (cols : Numbers) → cols.count ≤ columns → length cols.values ≡ columns → length (listed cols) ≡ cols.count
long cols h e = length-take-le cols.count cols.values (omega arith)

pub returns-in_err-values : goal.returns-in_err-values
unfolding bytes
returns-in_err-values c =
    let wide : length c.args.cols.values ≡ columns = search rules in
    let short = long c.args.cols c.requires wide in
    rw (
      values_form (listed c.args.cols) c.args.line.now,
      values_none columns (listed c.args.cols) (found c.args.line.now) (mapped_none numbers_of (few columns (found c.args.line.now)) c.in_err-values.ensures) (omega (arith, short, c.requires)),
    )
    c.from_residual.ensures

pub returns-then-values-cols : goal.returns-then-values-cols
unfolding bytes
returns-then-values-cols c =
    let wide : length c.args.cols.values ≡ columns = search rules in
    let short = long c.args.cols c.requires wide in
    let h = held (few columns (found c.args.line.now)) c.in_ok-values.values c.in_ok-values.ensures in
    rw (
      values_form (listed c.args.cols) c.args.line.now,
      (few_read columns (found c.args.line.now) _ h.read).0,
      values_other columns (listed c.args.cols) (listed c.in_ok-values.values) (λ e. c.if-values-cols.true (h.counted ∙ e ∙ short)),
    )

pub returns : goal.returns
unfolding bytes
returns c =
    let wide : length c.args.cols.values ≡ columns = search rules in
    let short = long c.args.cols c.requires wide in
    let h = held (few columns (found c.args.line.now)) c.in_ok-values.values c.in_ok-values.ensures in
    rw (
      values_form (listed c.args.cols) c.args.line.now,
      (few_read columns (found c.args.line.now) _ h.read).0,
      values_same columns (listed c.args.cols) (listed c.in_ok-values.values) (sym h.counted ∙ c.if-values-cols.false ∙ sym short),
    )
    (ap (λ s. Some (as_row s)) c.row_of.ensures)
