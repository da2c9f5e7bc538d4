-- The entries of the tables below u are summed; they are no more than those below t.
use native.Mathlib.Omega.{arith}
use Prim.Native.Nat.{◌+◌, ◌*◌, ◌^◌, ◌<◌}
use mathlib.Core.Path.{◌≡◌, ap, sym, ◌∙◌}
use Rattle.relation.specs.Rows.{columns}
use Rattle.database.specs.Stored.{table_start}
use Rattle.database.proofs.CodeStored.{start_none, start_more, start_before}
use Rattle.database.proofs.form.table_start.Lts as lts
use Rattle.database.proofs.form.table_start.Reads as reads
use Rattle.database.proofs.form.table_start.Tie as tie
use Rattle.database.proofs.form.table_start.Goals as goal

abbrev After-row_count : Type 0
After-row_count = lts.After-row_count tie.the-claims reads.Pre reads.Post goal.the-invariant-loop-u goal.the-decreases-loop-u

next : (c : After-row_count) → (c.loop-u.start + columns * c.row_count.result ≡ table_start columns c.args.database (c.loop-u.u + 1))
    × (c.loop-u.start + columns * c.row_count.result < 2 ^ 64)
next c =
    let e = start_more columns c.args.database c.loop-u.u in
    let h = start_before columns c.args.database (c.loop-u.u + 1) c.args.t (omega arith) in
    (omega (arith, c.row_count.ensures), omega (arith, c.row_count.ensures, c.requires))

pub returns : goal.returns
returns c =
    let e : c.loop-u.u ≡ c.args.t = omega arith in
    c.loop-u.invariant.1 ∙ ap (table_start columns c.args.database) e

pub loop-u-init : goal.loop-u-init
loop-u-init c = (omega arith, sym (start_none columns _))

pub overflow_mul-start : goal.overflow_mul-start
overflow_mul-start c = omega (arith, (next c).1)

pub overflow_add-start : goal.overflow_add-start
overflow_add-start c = omega (arith, (next c).1)

pub loop-u-preserved : goal.loop-u-preserved
loop-u-preserved c = (omega arith, (next c).0)
