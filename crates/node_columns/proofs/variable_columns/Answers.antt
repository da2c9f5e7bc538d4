-- `node_columns::variable_columns`: no fix passed so far holds the node in its step.
use native.Mathlib.Omega.{arith}
use Prim.Native.Nat.{◌-◌}
use mathlib.Core.Path.{ap, sym, ◌∙◌}
use mathlib.Core.Bool.{◌&&◌}
use mathlib.Core.List.{List, []}
use lib.Dec.{leb}
use lib.ListN.{get_or, drop_of_length-le}
use Rattle.algebra.specs.Columns.{no_cols}
use Rattle.relation.specs.Rows.{columns, columns_of}
use Rattle.query.specs.declared.Node.{Node}
use Rattle.query.specs.Facts.{Visit}
use Rattle.query.specs.Shape.{has_step}
use Rattle.query.specs.Passes.{visits_of}
use Rattle.query.proofs.Contexts.{context}
use Rattle.query.proofs.ShapedNodes.{visits_count}
use Rattle.node_columns.proofs.ColumnNodes.{variable_first, variable_more, variable_found}
use Rattle.node_columns.proofs.variable_columns.Goals as goal

pub loop-g-init : goal.loop-g-init
loop-g-init c = (omega arith, omega (arith, c.requires.1), λ G. variable_first c.args.query c.args.start c.requires.0 G c.args.i c.requires.1)

pub returns-then-holds : goal.returns-then-holds
returns-then-holds c = λ G is.
    let tested = sym (c.holds.ensures ∙ ap (λ (n : Node). has_step n && leb (get_or c.args.start (c.loop-g.g - 1) 0) c.args.i) c.node_at.ensures) in
    variable_found c.args.query c.args.start c.requires.0 G c.args.i c.loop-g.g c.requires.1 (omega arith) (tested ∙ c.if-holds.true)
    c.args.held is c.preceding.result c.preceding.ensures
    ∙ ap (columns_of columns) (sym (c.loop-g.invariant.2 G))

pub loop-g-preserved : goal.loop-g-preserved
loop-g-preserved c = (
  omega arith,
  omega arith,
  λ G.
      let tested = sym (c.holds.ensures ∙ ap (λ (n : Node). has_step n && leb (get_or c.args.start (c.loop-g.g - 1) 0) c.args.i) c.node_at.ensures) in
      c.loop-g.invariant.2 G ∙ variable_more c.args.query c.args.start c.requires.0 G c.args.i c.loop-g.g (omega arith) (tested ∙ c.if-holds.false),
)

pub returns : goal.returns
unfolding context
returns c = λ G is.
    c.no_columns.ensures
    ∙ ap (columns_of columns) (sym (c.loop-g.invariant.2 G ∙ ap (λ (m : List Visit). (context G c.args.i m (record { variable = no_cols; around = [] })).variable)
    (drop_of_length-le (visits_of G c.args.query) {i = c.loop-g.g} (omega (arith, visits_count c.args.query c.args.start c.requires.0 G)))))

pub node_at-requires : goal.node_at-requires
node_at-requires c = (omega arith, c.requires.0.fits)

pub offset_bounds-start-g : goal.offset_bounds-start-g
offset_bounds-start-g c = omega (arith, c.requires.0.fits)

pub bounds-start-g : goal.bounds-start-g
bounds-start-g c = omega (arith, c.requires.0.fits)
