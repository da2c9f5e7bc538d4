-- A turn of the loop is one row more.
use borrow.Author.Rules.{rules}
use native.Mathlib.Omega.{arith}
use mathlib.Core.Path.{◌≡◌}
use lib.ListN.{length}
use Rattle.relation.specs.Rows.{columns}
use Rattle.text.specs.Lines.{row_line}
use Rattle.text.specs.Cursors.{due_line}
use Rattle.text.proofs.ReaderLawsDue.{mapped_none}
use Rattle.row_reading.specs.NumberArrays.{listed}
use Rattle.row_reading.specs.RowReading.{as_row, above_of}
use Rattle.loading.proofs.RowWalks.{due_row_next, row_none, row_length, row_room_lem, row_more, row_stops, row_kept, rows_passed, rows_stored}
use Rattle.loading.proofs.table_reader.read_rows.Goals as goal

pub loop-i-init : goal.loop-i-init
loop-i-init c = row_none (listed c.args.cols) c.args.text.now c.args.first c.args.count c.args.write c.args.from c.args.store.now c.requires.0

pub due_row-requires : goal.due_row-requires
due_row-requires c = (c.loop-i.invariant.walk.placed, c.requires.1)

pub returns-in_default : goal.returns-in_default
returns-in_default c =
    let e = (mapped_none (λ p. (as_row p.0, p.1)) (due_line (row_line columns (listed c.args.cols) (above_of c.loop-i.above)) c.args.text.now c.loop-i.c) c.in_default.ensures) in
    record {
      walks = row_stops (listed c.args.cols) c.args.text.now c.args.first c.args.count c.args.write c.args.from c.args.store.now c.loop-i.store c.loop-i.c c.loop-i.above c.loop-i.at c.loop-i.i c.loop-i.invariant c.requires.4 c.loop-i-test.true e;
      store_after = row_kept (listed c.args.cols) c.args.text.now c.args.first c.args.count c.args.write c.args.from c.args.store.now c.loop-i.store c.loop-i.c c.loop-i.above c.loop-i.at c.loop-i.i c.loop-i.invariant c.requires.4 c.loop-i-test.true e;
    }

pub store_row-requires : goal.store_row-requires
store_row-requires c w =
    let wide : length c.in-Some.row.slots ≡ columns = search rules in
    omega (
      arith,
      wide,
      row_room_lem (listed c.args.cols) c.args.text.now c.args.first c.args.count c.args.write c.args.from c.args.store.now c.loop-i.store c.loop-i.c c.loop-i.above c.loop-i.at c.loop-i.i c.loop-i.invariant c.requires.4 c.loop-i-test.true
          c.in-Some.row.slots c.in-Some.next (due_row_next (due_line (row_line columns (listed c.args.cols) (above_of c.loop-i.above)) c.args.text.now c.loop-i.c) c.in-Some.row c.in-Some.next c.in-Some.ensures) w,
    )

pub overflow_add-at : goal.overflow_add-at
overflow_add-at c =
    let spot = c.loop-i.invariant.spot in
    omega (arith, spot, c.requires.2, c.requires.3, c.loop-i-test.true)

pub loop-i-preserved : goal.loop-i-preserved
loop-i-preserved c =
    let wide : length c.in-Some.row.slots ≡ columns = search rules in
    rw c.store_row.ensures
    (row_more (listed c.args.cols) c.args.text.now c.args.first c.args.count c.args.write c.args.from c.args.store.now c.loop-i.store c.loop-i.c c.loop-i.above c.loop-i.at c.loop-i.i c.loop-i.invariant c.requires.4 c.loop-i-test.true
    c.in-Some.row.slots c.in-Some.next wide (due_row_next (due_line (row_line columns (listed c.args.cols) (above_of c.loop-i.above)) c.args.text.now c.loop-i.c) c.in-Some.row c.in-Some.next c.in-Some.ensures))

pub returns : goal.returns
returns c = record {
  walks = rows_passed (listed c.args.cols) c.args.text.now c.args.first c.args.count c.args.write c.args.from c.args.store.now c.loop-i.store c.loop-i.c c.loop-i.above c.loop-i.at c.loop-i.i c.loop-i.invariant c.loop-i-test.false;
  store_after = rows_stored (listed c.args.cols) c.args.text.now c.args.first c.args.count c.args.write c.args.from c.args.store.now c.loop-i.store c.loop-i.c c.loop-i.above c.loop-i.at c.loop-i.i c.loop-i.invariant c.loop-i-test.false;
}

pub shape_of-store-in_default : goal.shape_of-store-in_default
shape_of-store-in_default c = row_length (listed c.args.cols) c.args.text.now c.args.first c.args.count c.args.write c.args.from c.args.store.now c.loop-i.store c.loop-i.c c.loop-i.above c.loop-i.at c.loop-i.i c.loop-i.invariant c.requires.4

pub shape_of-store : goal.shape_of-store
shape_of-store c = row_length (listed c.args.cols) c.args.text.now c.args.first c.args.count c.args.write c.args.from c.args.store.now c.loop-i.store c.loop-i.c c.loop-i.above c.loop-i.at c.loop-i.i c.loop-i.invariant c.requires.4
