-- `put_rows` meets its contract: after i turns the lines of the first i rows are put.
use native.Mathlib.Omega.{arith}
use Prim.Native.Nat.{ℕ}
use mathlib.Core.Path.{◌≡◌, ap, sym, ◌∙◌}
use mathlib.Core.List.{List, ◌++◌, flat_map}
use Rattle.laws.proofs.FlatMaps.{flat_map_none}
use Rattle.relation.specs.Rows.{columns as width, cols_of, rows_of}
use Rattle.text.specs.Numbers.{bytes, comma_digits}
use Rattle.text.specs.Texts.{line_text}
use Rattle.output.proofs.Puts.{puts_none, puts_settled, puts_then, puts_as}
use Rattle.writing.proofs.AnswerRows.{more_rows, rows_behind, row_values}
use Rattle.writing.proofs.answers.put_rows.Invariants.{row_text_lem}
use Rattle.writing.proofs.answers.put_rows.Goals as goal

pub loop-r-init : goal.loop-r-init
unfolding rows_of
loop-r-init g c = (omega arith, omega arith, puts_as (sym (flat_map_none _)) puts_none)

-- once the sink is over the other rows change nothing
pub returns-then-is_over : goal.returns-then-is_over
returns-then-is_over g c =
    puts_as (rows_behind (row_text_lem c.args.columns) width c.loop-r.r c.args.rows.now c.args.count c.loop-r.invariant.0)
    (puts_then c.loop-r.invariant.2 (puts_settled (λ b. g.met.S.Sink.settled _ b (sym c.is_over.ensures ∙ c.if-is_over.true)) _))

pub loop-r-preserved : goal.loop-r-preserved
unfolding bytes
loop-r-preserved g c =
    let i : ℕ = c.loop-r.r in
    let rows : List ℕ = c.args.rows.now in
    let text = row_text_lem c.args.columns in
    let values = row_values width (cols_of width c.args.columns) i c.loop-r.from rows c.loop-r.invariant.1 in (
      omega arith,
      omega (arith, c.next_row-from.ensures),
      puts_as (ap (λ v. flat_map text (rows_of width i rows) ++ line_text (bytes "row=" ++ comma_digits v)) values ∙ more_rows text width i rows)
          (puts_then c.loop-r.invariant.2 c.put_row.ensures),
    )

pub returns : goal.returns
returns g c =
    let e : c.loop-r.r ≡ c.args.count = omega arith in
    puts_as (ap (λ n. flat_map (row_text_lem c.args.columns) (rows_of width n c.args.rows.now)) e) c.loop-r.invariant.2
