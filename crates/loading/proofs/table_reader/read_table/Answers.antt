use native.Mathlib.Omega.{arith}
use Prim.Native.Nat.{◌+◌}
use mathlib.Core.Path.{refl, sym, ◌∙◌, subst}
use Rattle.relation.specs.Rows.{columns}
use Rattle.database.specs.declared.Refusal.TheVariants.{DatabaseForm}
use Rattle.database.specs.Stored.{rows_limit}
use Rattle.text.specs.Numbers.{bytes}
use Rattle.text.specs.Lines.{cols_line}
use Rattle.text.specs.Cursors.{due_line, count_form, unnumbered}
use Rattle.text.proofs.ReplyLaws.{handed_on}
use Rattle.text.proofs.ReaderLawsDue.{due_placed, due_number, mapped_none, count_next}
use Rattle.row_reading.specs.NumberArrays.{numbers_of, listed}
use Rattle.loading.specs.Loading.{Reads, table_stored, GoodTable}
use Rattle.loading.proofs.Stores.{stores_off}
use Rattle.loading.proofs.TableWalks.{due_cols_next, cols_bound, count_bound, table_read, table_off, table_uncounted, rows_may, table_stored_lem, table_passed, table_refused}
use Rattle.loading.proofs.table_reader.read_table.Goals as goal

pub returns-in_default : goal.returns-in_default
returns-in_default c =
    let e = table_off c.args.text.now c.args.c (mapped_none (λ p. (numbers_of p.0, p.1)) (due_line (cols_line columns) c.args.text.now c.args.c) c.in_default.ensures) in
    record { walks = e; store_after = stores_off table_stored c.args.write c.args.from c.args.store.now (table_read c.args.text.now c.args.c) (DatabaseForm c.args.c.line) e }

pub returns-in_default-due_count : goal.returns-in_default-due_count
unfolding bytes
returns-in_default-due_count c =
    let read = (due_cols_next (due_line (cols_line columns) c.args.text.now c.args.c) c.in-Some.cols c.in-Some.second c.in-Some.ensures) in
    let e =
    table_uncounted c.args.text.now c.args.c (listed c.in-Some.cols) c.in-Some.second read.0
    (mapped_none unnumbered (due_line (count_form (bytes "rows=") rows_limit) c.args.text.now c.in-Some.second) (c.in_default-due_count.ensures c.in-Some.second.line)) in
    record { walks = e; store_after = stores_off table_stored c.args.write c.args.from c.args.store.now (table_read c.args.text.now c.args.c) (DatabaseForm c.in-Some.second.line) e }

pub overflow_add-first : goal.overflow_add-first
unfolding bytes
overflow_add-first c =
    let read = (due_cols_next (due_line (cols_line columns) c.args.text.now c.args.c) c.in-Some.cols c.in-Some.second c.in-Some.ensures) in
    omega (arith, due_number (count_form (bytes "rows=") rows_limit) c.args.text.now c.in-Some.second _ (count_next (count_form (bytes "rows=") rows_limit) c.args.text.now c.in-Some.second c.in-Some-due_count.count c.in-Some-due_count.at (c.in-Some-due_count.ensures c.in-Some.second.line)) (due_placed (cols_line columns) c.args.text.now c.args.c (listed c.in-Some.cols, c.in-Some.second) read.0 c.requires.0))

pub read_rows-requires : goal.read_rows-requires
unfolding bytes
read_rows-requires c =
    let read = (due_cols_next (due_line (cols_line columns) c.args.text.now c.args.c) c.in-Some.cols c.in-Some.second c.in-Some.ensures) in
    let counted = (count_next (count_form (bytes "rows=") rows_limit) c.args.text.now c.in-Some.second c.in-Some-due_count.count c.in-Some-due_count.at (c.in-Some-due_count.ensures c.in-Some.second.line)) in (
      due_placed (count_form (bytes "rows=") rows_limit) c.args.text.now c.in-Some.second (c.in-Some-due_count.count, (record { at = c.in-Some-due_count.at; line = c.in-Some.second.line + 1 })) counted (due_placed (cols_line columns) c.args.text.now c.args.c (listed c.in-Some.cols, c.in-Some.second) read.0 c.requires.0),
      omega (arith, read.1, cols_bound columns c.args.text.now c.args.c c.in-Some.second (listed c.in-Some.cols) read.0),
      c.requires.1,
      count_bound (bytes "rows=") rows_limit c.args.text.now c.in-Some.second (record { at = c.in-Some-due_count.at; line = c.in-Some.second.line + 1 }) c.in-Some-due_count.count counted,
      rows_may c.args.text.now c.args.c (listed c.in-Some.cols) c.in-Some.second read.0 c.in-Some-due_count.count (record { at = c.in-Some-due_count.at; line = c.in-Some.second.line + 1 }) counted c.args.write c.args.from c.args.store.now c.requires.2,
    )

pub returns-in_err-next : goal.returns-in_err-next
unfolding bytes
returns-in_err-next c =
    let read = (due_cols_next (due_line (cols_line columns) c.args.text.now c.args.c) c.in-Some.cols c.in-Some.second c.in-Some.ensures) in
    let counted = (count_next (count_form (bytes "rows=") rows_limit) c.args.text.now c.in-Some.second c.in-Some-due_count.count c.in-Some-due_count.at (c.in-Some-due_count.ensures c.in-Some.second.line)) in
    record {
      walks =
          subst (λ w. Reads c.args.text.now w (table_read c.args.text.now c.args.c) GoodTable) (sym (handed_on c.from_residual.result _ c.from_residual.ensures.1))
          (table_refused c.args.text.now c.args.c (listed c.in-Some.cols) c.in-Some.second read.0 c.in-Some-due_count.count (record { at = c.in-Some-due_count.at; line = c.in-Some.second.line + 1 }) counted _ c.in_err-next.ensures.walks);
      store_after = c.in_err-next.ensures.store_after ∙ table_stored_lem c.args.text.now c.args.c (listed c.in-Some.cols) c.in-Some.second read.0 c.in-Some-due_count.count (record { at = c.in-Some-due_count.at; line = c.in-Some.second.line + 1 }) counted c.args.write c.args.from c.args.store.now c.requires.2;
    }

pub columns_of-requires : goal.columns_of-requires
columns_of-requires c =
    let read = (due_cols_next (due_line (cols_line columns) c.args.text.now c.args.c) c.in-Some.cols c.in-Some.second c.in-Some.ensures) in
    omega (arith, read.1, cols_bound columns c.args.text.now c.args.c c.in-Some.second (listed c.in-Some.cols) read.0)

pub returns : goal.returns
unfolding bytes
returns c =
    let read = (due_cols_next (due_line (cols_line columns) c.args.text.now c.args.c) c.in-Some.cols c.in-Some.second c.in-Some.ensures) in
    let counted = (count_next (count_form (bytes "rows=") rows_limit) c.args.text.now c.in-Some.second c.in-Some-due_count.count c.in-Some-due_count.at (c.in-Some-due_count.ensures c.in-Some.second.line)) in
    record {
      walks =
          table_passed c.args.text.now c.args.c (listed c.in-Some.cols) c.in-Some.second read.0 c.in-Some-due_count.count (record { at = c.in-Some-due_count.at; line = c.in-Some.second.line + 1 }) counted c.in_ok-next.next c.in_ok-next.ensures.walks
          (record { columns = c.columns_of.result; rows = c.in-Some-due_count.count }) c.columns_of.ensures refl;
      store_after = c.in_ok-next.ensures.store_after ∙ table_stored_lem c.args.text.now c.args.c (listed c.in-Some.cols) c.in-Some.second read.0 c.in-Some-due_count.count (record { at = c.in-Some-due_count.at; line = c.in-Some.second.line + 1 }) counted c.args.write c.args.from c.args.store.now c.requires.2;
    }
