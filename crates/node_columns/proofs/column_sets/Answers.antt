-- `node_columns::column_sets`: the array holds the columns of the nodes passed so far.
use borrow.Author.Rules.{rules}
use native.Mathlib.Omega.{arith}
use Prim.Native.Nat.{◌<◌}
use mathlib.Core.Path.{ap, ◌∙◌}
use lib.ListN.{replicate}
use Rattle.algebra.specs.Columns.{no_cols}
use Rattle.relation.specs.Rows.{columns, columns_of}
use Rattle.database.specs.Stored.{schema}
use Rattle.query.specs.Lines.{node_limit}
use Rattle.node_columns.specs.NodeColumns.{node_columns}
use Rattle.query.proofs.ShapedNodes.{held_more, held_all}
use Rattle.node_columns.proofs.column_sets.Goals as goal

pub loop-i-init : goal.loop-i-init
loop-i-init c = (search rules, ap (replicate node_limit) c.no_columns-held.ensures)

pub loop-i-preserved : goal.loop-i-preserved
loop-i-preserved c =
    let G = schema columns c.args.database in
    let h : c.loop-i.i < c.args.query.count = omega arith in (
      omega arith,
      held_more c.args.query c.args.start c.requires G c.loop-i.i h (columns_of columns no_cols) (columns_of columns no_cols) (node_columns G)
          c.loop-i.held c.loop-i.invariant.1 c.columns_at.result c.columns_at.ensures,
    )

pub returns : goal.returns
returns c =
    let G = schema columns c.args.database in
    c.loop-i.invariant.1 ∙ held_all c.args.query c.args.start c.requires G (columns_of columns no_cols) (node_columns G) c.loop-i.i (omega arith)

pub no_columns-held-requires : goal.no_columns-held-requires
no_columns-held-requires c = tt

pub columns_at-requires : goal.columns_at-requires
columns_at-requires c = (c.requires, omega arith, c.loop-i.invariant.1)

pub offset_bounds-held-i : goal.offset_bounds-held-i
offset_bounds-held-i c = omega (arith, c.requires.fits)

pub bounds-held-i : goal.bounds-held-i
bounds-held-i c = omega (arith, c.requires.fits)
