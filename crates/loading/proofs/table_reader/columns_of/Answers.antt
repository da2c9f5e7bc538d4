-- The columns below c are written.
use native.Mathlib.Omega.{arith}
use mathlib.Core.Path.{◌≡◌, ap, ◌∙◌}
use lib.ListN.{length}
use Rattle.laws.proofs.Tabulated.{length_tabulate}
use Rattle.laws.proofs.Indexed.{written_none, written_more, written_all}
use Rattle.algebra.specs.Columns.{no_cols}
use Rattle.relation.specs.declared.Columns.{Columns}
use Rattle.relation.specs.Rows.{columns}
use Rattle.loading.proofs.table_reader.columns_of.Goals as goal

pub loop-c-init : goal.loop-c-init
loop-c-init c = (omega arith, written_none (ap (λ (s : Columns). length s.has) c.no_columns-set.ensures ∙ length_tabulate no_cols columns))

pub loop-c-preserved : goal.loop-c-preserved
loop-c-preserved c =
    (omega arith, written_more c.loop-c.c _ c.loop-c.invariant.1 c.loop-c-test.true c.lists.ensures)

pub returns : goal.returns
returns c =
    let e : c.loop-c.c ≡ columns = omega arith in
    ap (λ h. record { has = h }) (written_all (rw e at c.loop-c.invariant.1))

pub lists-requires : goal.lists-requires
lists-requires c = c.requires
