-- `register_ok`: the count, the rows, what is behind them.
use borrow.Author.Tests.{le-leb, lt-leb}
use native.Mathlib.Omega.{arith}
use mathlib.Core.Path.{◌≡◌, sym, ◌∙◌}
use mathlib.Core.Bool.{true, false}
use Rattle.relation.specs.Rows.{columns, cols_of}
use Rattle.pauses.specs.Places.{count_at}
use Rattle.pauses.proofs.PlaceTests.{place_some}
use Rattle.pauses.proofs.places.register_ok.Goals as goal
use Rattle.pauses.proofs.places.register_ok.Goals.{then-count-limit, else-count-limit}

pub returns-then-rows_ok : goal.returns-then-rows_ok
returns-then-rows_ok c = elim c.if-count-limit.branch [
  | then-count-limit w ↦
      let few = le-leb (count_at columns c.args.limit c.args.ws.now c.args.i) c.args.limit w.if-count-limit.true in
      let passes = sym w.rows_ok.ensures ∙ sym w.value-is ∙ c.if-rows_ok.true in
      c.zeros.ensures ∙ sym (place_some columns c.args.limit c.args.ws.now c.args.i (cols_of columns c.args.set) ∙ rw (few, passes))
  | else-count-limit w ↦
      let over = lt-leb (count_at columns c.args.limit c.args.ws.now c.args.i) c.args.limit (omega (arith, w.if-count-limit.false)) in
      let z : true ≡ false = sym c.if-rows_ok.true ∙ w.value-is ∙ over in cc
]

pub returns-else-rows_ok : goal.returns-else-rows_ok
returns-else-rows_ok c = elim c.if-count-limit.branch [
  | then-count-limit w ↦
      let few = le-leb (count_at columns c.args.limit c.args.ws.now c.args.i) c.args.limit w.if-count-limit.true in
      let fails = sym w.rows_ok.ensures ∙ sym w.value-is ∙ c.if-rows_ok.false in
      c.if-rows_ok.false ∙ sym (place_some columns c.args.limit c.args.ws.now c.args.i (cols_of columns c.args.set) ∙ rw (few, fails))
  | else-count-limit w ↦
      let over = lt-leb (count_at columns c.args.limit c.args.ws.now c.args.i) c.args.limit (omega (arith, w.if-count-limit.false)) in
      c.if-rows_ok.false ∙ sym (place_some columns c.args.limit c.args.ws.now c.args.i (cols_of columns c.args.set) ∙ rw over)
]
