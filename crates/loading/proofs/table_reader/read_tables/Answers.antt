-- A turn of the loop is one table more.
use native.Mathlib.Omega.{arith}
use mathlib.Core.Path.{ap, sym, ◌∙◌, subst}
use lib.ListN.{length}
use Rattle.text.specs.Cursors.{rest_at}
use Rattle.text.proofs.ReplyLaws.{handed_on}
use Rattle.loading.specs.Loading.{Reads, table_stored, GoodTables}
use Rattle.loading.proofs.Stores.{stores_off}
use Rattle.loading.proofs.TableWalks.{table_read, tables_read, table_size, table_none, table_held, table_length, table_may, table_more, table_stops, table_kept, tables_passed, tables_stored_lem}
use Rattle.loading.proofs.table_reader.read_tables.Goals as goal

pub loop-i-init : goal.loop-i-init
loop-i-init c = table_none c.args.text.now c.args.first c.args.count c.args.write c.args.store.now c.requires.0 _ c.no_tables-database.ensures

pub read_table-requires : goal.read_table-requires
read_table-requires c = (
  c.loop-i.invariant.walk.placed,
  (let spot = c.loop-i.invariant.spot in let few = c.loop-i.invariant.walk.few in omega (arith, spot, c.requires.1, c.loop-i-test.true)),
  table_may c.args.text.now c.args.first c.args.count c.args.write c.args.store.now c.loop-i.store c.loop-i.database c.loop-i.c c.loop-i.at c.loop-i.i c.loop-i.invariant c.requires.2 c.loop-i-test.true,
)

pub returns-in_err-table : goal.returns-in_err-table
returns-in_err-table c = record {
  walks =
      subst (λ w. Reads c.args.text.now w (tables_read c.args.text.now c.args.first c.args.count c.args.write c.args.store.now) GoodTables) (sym (handed_on c.from_residual.result _ c.from_residual.ensures.1))
      (table_stops c.args.text.now c.args.first c.args.count c.args.write c.args.store.now c.loop-i.store c.loop-i.database c.loop-i.c c.loop-i.at c.loop-i.i c.loop-i.invariant c.requires.2 c.loop-i-test.true _ c.in_err-table.ensures.walks);
  store_after =
      c.in_err-table.ensures.store_after
      ∙ sym (stores_off table_stored c.args.write c.loop-i.at c.loop-i.store (table_read c.args.text.now c.loop-i.c) _ c.in_err-table.ensures.walks)
      ∙ table_kept c.args.text.now c.args.first c.args.count c.args.write c.args.store.now c.loop-i.store c.loop-i.database c.loop-i.c c.loop-i.at c.loop-i.i c.loop-i.invariant c.requires.2 c.loop-i-test.true _ c.in_err-table.ensures.walks;
}

pub with_table-database-requires : goal.with_table-database-requires
with_table-database-requires c = table_held c.args.text.now c.args.first c.args.count c.args.write c.args.store.now c.loop-i.store c.loop-i.database c.loop-i.c c.loop-i.at c.loop-i.i c.loop-i.invariant c.requires.1 c.loop-i-test.true

pub overflow_mul-at : goal.overflow_mul-at
overflow_mul-at c =
    let p = c.in_ok-table.ensures.walks in
    let size = table_size (rest_at c.args.text.now c.loop-i.c) (rest_at c.args.text.now c.in_ok-table.next) p.value p.read in
    omega (arith, p.good.rows, size.1)

pub overflow_add-at : goal.overflow_add-at
overflow_add-at c =
    let p = c.in_ok-table.ensures.walks in
    let size = table_size (rest_at c.args.text.now c.loop-i.c) (rest_at c.args.text.now c.in_ok-table.next) p.value p.read in
    let spot = c.loop-i.invariant.spot in
    omega (arith, p.good.rows, size.1, spot, c.requires.1, c.loop-i-test.true)

pub loop-i-preserved : goal.loop-i-preserved
loop-i-preserved c =
    rw (c.with_table-database.ensures, c.in_ok-table.ensures.store_after)
    (table_more c.args.text.now c.args.first c.args.count c.args.write c.args.store.now c.loop-i.store c.loop-i.database c.loop-i.c c.loop-i.at c.loop-i.i c.loop-i.invariant c.requires.2 c.loop-i-test.true c.requires.1 c.in_ok-table.next c.in_ok-table.table c.in_ok-table.ensures.walks)

pub returns : goal.returns
returns c = record {
  walks = tables_passed c.args.text.now c.args.first c.args.count c.args.write c.args.store.now c.loop-i.store c.loop-i.database c.loop-i.c c.loop-i.at c.loop-i.i c.loop-i.invariant c.loop-i-test.false;
  store_after = tables_stored_lem c.args.text.now c.args.first c.args.count c.args.write c.args.store.now c.loop-i.store c.loop-i.database c.loop-i.c c.loop-i.at c.loop-i.i c.loop-i.invariant c.loop-i-test.false;
}

pub shape_of-store-in_err-table : goal.shape_of-store-in_err-table
shape_of-store-in_err-table c =
    ap length
    (c.in_err-table.ensures.store_after
    ∙ sym (stores_off table_stored c.args.write c.loop-i.at c.loop-i.store (table_read c.args.text.now c.loop-i.c) _ c.in_err-table.ensures.walks))
    ∙ table_length c.args.text.now c.args.first c.args.count c.args.write c.args.store.now c.loop-i.store c.loop-i.database c.loop-i.c c.loop-i.at c.loop-i.i c.loop-i.invariant c.requires.2

pub shape_of-store : goal.shape_of-store
shape_of-store c = table_length c.args.text.now c.args.first c.args.count c.args.write c.args.store.now c.loop-i.store c.loop-i.database c.loop-i.c c.loop-i.at c.loop-i.i c.loop-i.invariant c.requires.2
