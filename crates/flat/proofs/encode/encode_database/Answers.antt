-- The tables below t are written; the count comes last.
use borrow.Author.Rules.{rules}
use native.Mathlib.Omega.{arith}
use native.Mathlib.Nat.{min-eq_left, min-le_right}
use Prim.Native.Nat.{ℕ, ◌≤◌, ◌<◌, ◌+◌, ◌*◌, min}
use mathlib.Core.Path.{◌≡◌, ap, sym, ◌∙◌}
use mathlib.Core.List.{List, [], ◌∷◌}
use lib.ListN.{length, get_or, set}
use lib.Seq.{sets}
use Rattle.laws.proofs.Tabulated.{length_tabulate, get_d_tabulate}
use Rattle.relation.specs.Rows.{columns, columns_of}
use Rattle.database.specs.Stored.{table_limit, table_cols}
use Rattle.flat.specs.Flat.{table_of, table_numbers, table_width, bits_of, entry, entry_limit}
use Rattle.flat.proofs.Blocks.{begun_none, begun_more, begun_all}
use Rattle.flat.proofs.encode.encode_database.Invariants.{table_size}
use Rattle.flat.proofs.encode.encode_database.Lts as lts
use Rattle.flat.proofs.encode.encode_database.Reads as reads
use Rattle.flat.proofs.encode.encode_database.Tie as tie
use Rattle.flat.proofs.encode.encode_database.Goals as goal

abbrev After-min-count : Type 0
After-min-count = lts.After-min tie.the-claims reads.Pre reads.Post goal.the-invariant-loop-t goal.the-decreases-loop-t

-- the count is that of the tables, and at most their limit
counted : (c : After-min-count) → c.min-count.result ≡ length (table_numbers c.args.database)
counted c = c.min-count.ensures ∙ sym (length_tabulate (λ t. t) (min c.args.database.tables table_limit))

few : (c : After-min-count) → c.min-count.result ≤ table_limit
few c = omega (arith, c.min-count.ensures, min-le_right c.args.database.tables table_limit)

pub loop-t-init : goal.loop-t-init
loop-t-init c =
    (search rules, begun_none (table_of c.args.database) table_width (table_size c.args.database) (table_numbers c.args.database) c.args.out.now (omega arith))

pub loop-t-preserved : goal.loop-t-preserved
loop-t-preserved c =
    let n = counted c.before.before.before.before.before.before.before.before.before.before.before in
    let m = few c.before.before.before.before.before.before.before.before.before.before.before in
    let h : c.loop-t.t < length (table_numbers c.args.database) = omega arith in
    let i : c.loop-t.t < min c.args.database.tables table_limit = omega (arith, c.min-count.ensures) in (
      omega arith,
      c.put_table.ensures
          ∙ ap (λ x. sets c.loop-t.out (1 + table_width * c.loop-t.t) (x ∷ (c.entry-rows.result ∷ []))) (c.bits_of-bits.ensures ∙ ap bits_of c.table_columns.ensures)
          ∙ ap (λ x. sets c.loop-t.out (1 + table_width * c.loop-t.t) (bits_of (columns_of columns (table_cols columns c.args.database c.loop-t.t)) ∷ (x ∷ [])))
          (c.entry-rows.ensures ∙ ap entry c.row_count.ensures)
          ∙ ap (λ x. sets c.loop-t.out (1 + table_width * c.loop-t.t) (table_of c.args.database x)) (sym (get_d_tabulate (λ t. t) (min c.args.database.tables table_limit) c.loop-t.t 0 i))
          ∙ ap (λ (o : List ℕ). sets o (1 + table_width * c.loop-t.t) (table_of c.args.database (get_or (table_numbers c.args.database) c.loop-t.t 0))) c.loop-t.invariant.1
          ∙ begun_more (table_of c.args.database) table_width (table_size c.args.database) (table_numbers c.args.database) c.args.out.now (get_or c.args.out.now 0 0) c.loop-t.t 0 h (omega arith),
    )

pub returns : goal.returns
returns c =
    let n = counted c.before.before.before in
    let m = few c.before.before.before in
    let e : c.entry.result ≡ length (table_numbers c.args.database) = c.entry.ensures ∙ min-eq_left {n = c.min-count.result} {m = entry_limit} (omega arith) ∙ n in
    ap (λ v. set c.loop-t.out 0 v) e ∙ ap (λ (o : List ℕ). set o 0 (length (table_numbers c.args.database))) c.loop-t.invariant.1
    ∙ begun_all (table_of c.args.database) table_width (table_size c.args.database) (table_numbers c.args.database) c.args.out.now (get_or c.args.out.now 0 0) c.loop-t.t
    (length (table_numbers c.args.database)) (omega arith)
