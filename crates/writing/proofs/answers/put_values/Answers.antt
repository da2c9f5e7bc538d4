-- `put_values` meets its contract: after c turns the values of the set's columns below c are put.
use borrow.Author.Rules.{rules}
use native.Mathlib.Omega.{arith}
use Prim.Native.Nat.{ℕ}
use mathlib.Core.Path.{◌≡◌, refl, ap, sym, ◌∙◌}
use mathlib.Core.List.{◌∷◌, ◌++◌, map}
use Rattle.laws.specs.Lists.{when◌then◌else◌, null, sift, tabulate}
use Rattle.relation.specs.Rows.{columns as width, slot, cols_of}
use Rattle.text.specs.Numbers.{comma, digits, comma_digits}
use Rattle.text.specs.Texts.{column_list}
use Rattle.output.proofs.Puts.{puts_none, puts_then, puts_as, puts_at}
use Rattle.writing.proofs.AnswerLines.{column_read, columns_without, value_there, not_first}
use Rattle.writing.proofs.answers.put_values.Goals as goal
use Rattle.writing.proofs.answers.put_values.Goals.{then-columns-c, else-columns-c}

pub loop-c-init : goal.loop-c-init
unfolding sift tabulate comma_digits
loop-c-init g c = (search rules, refl, puts_none)

pub loop-c-preserved : goal.loop-c-preserved
loop-c-preserved g c =
    let n : ℕ = c.loop-c.c in
    let f = slot c.args.values.now in
    let D = cols_of width c.args.columns in
    elim c.if-columns-c.branch [
      | then-columns-c w ↦
          let e = column_read width c.args.columns n (omega arith) w.if-columns-c.true in (
            omega arith,
            w.first-is ∙ not_first f D n c.loop-c.first e,
            puts_at w.sink-is (puts_as (ap (λ v. comma_digits (map f (column_list n D)) ++ (when c.loop-c.first then digits v else comma ∷ digits v)) w.entry-n.ensures
                ∙ value_there f D n c.loop-c.first e c.loop-c.invariant.1) (puts_then c.loop-c.invariant.2 w.put_value.ensures)),
          )
      | else-columns-c w ↦
          let e = columns_without D n (column_read width c.args.columns n (omega arith) w.if-columns-c.false) in
          (omega arith, w.first-is ∙ c.loop-c.invariant.1 ∙ ap null (sym e), puts_at w.sink-is (puts_as (ap (λ l. comma_digits (map f l)) (sym e)) c.loop-c.invariant.2))
    ]

pub returns : goal.returns
returns g c =
    let e : c.loop-c.c ≡ width = omega arith in
    puts_as (ap (λ n. comma_digits (map (slot c.args.values.now) (column_list n (cols_of width c.args.columns)))) e) c.loop-c.invariant.2
