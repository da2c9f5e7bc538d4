-- The tables below t are on the form, so that start is where table t begins and does not pass the store's end.
use borrow.Author.Count.{below_none, below_more}
use native.Mathlib.Omega.{arith}
use Prim.Native.Nat.{◌≤◌, ◌+◌, ◌*◌}
use mathlib.Core.Path.{◌≡◌, refl, ap, sym, ◌∙◌}
use mathlib.Core.Bool.{true}
use mathlib.Core.Logic.{inl, inr}
use lib.ListN.{length}
use Rattle.relation.specs.Rows.{columns}
use Rattle.database.specs.Refusals.{verdict}
use Rattle.database.specs.Stored.{table_limit, row_count, table_ok}
use Rattle.database.proofs.Tested.{table_facts}
use Rattle.database.proofs.Stored.{check_database_iff, check_database_refused}
use Rattle.database.proofs.CodeStored.{start_none, start_more}
use Rattle.database.proofs.form.check_database.Lts as lts
use Rattle.database.proofs.form.check_database.Reads as reads
use Rattle.database.proofs.form.check_database.Tie as tie
use Rattle.database.proofs.form.check_database.Goals as goal

abbrev Else-not-table_ok : Type 0
Else-not-table_ok = lts.Else2 tie.the-claims reads.Pre reads.Post goal.the-invariant-loop-t goal.the-decreases-loop-t

pub returns-then-database-gt-TABLES : goal.returns-then-database-gt-TABLES
returns-then-database-gt-TABLES c =
    sym (ap verdict ((check_database_refused columns c.args.database c.args.store.now _).1 (inl (c.if-database-gt-TABLES.true, refl))))

pub loop-t-init : goal.loop-t-init
loop-t-init c = (sym (start_none columns _), (omega arith, below_none _))

pub returns-then-not-table_ok : goal.returns-then-not-table_ok
returns-then-not-table_ok c =
    let few : c.args.database.tables ≤ table_limit = c.if-database-gt-TABLES.false in
    let fails = sym c.table_ok.ensures ∙ c.if-not-table_ok.true in
    sym (ap verdict (
    (check_database_refused columns c.args.database c.args.store.now _).1
    (inr (c.loop-t.t, few, c.loop-t-test.true, fails, c.loop-t.invariant.1.1, refl))
    ))

-- table t has passed, and has all its entries
passed : (c : Else-not-table_ok) → table_ok columns c.args.database
    c.args.store.now c.loop-t.t ≡ true
passed c = sym c.table_ok.ensures ∙ c.if-not-table_ok.false

room : (c : Else-not-table_ok) → c.loop-t.start
    + columns * row_count columns c.args.database c.loop-t.t
    ≤ length c.args.store.now
room c =
    omega (arith, (table_facts columns c.args.database c.args.store.now c.loop-t.t (passed c)).0)

pub loop-t-preserved : goal.loop-t-preserved
loop-t-preserved c =
    let e = start_more columns c.args.database c.loop-t.t in
    let h = room c.before.before in (
      omega (arith, c.row_count.ensures),
      (omega (arith, c.row_count.ensures), below_more _ c.loop-t.t c.loop-t.invariant.1.1 (passed c.before.before)),
    )

pub returns : goal.returns
returns c =
    let few : c.args.database.tables ≤ table_limit = c.if-database-gt-TABLES.false in
    sym (ap verdict ((check_database_iff columns c.args.database c.args.store.now).1 (few, λ u h. c.loop-t.invariant.1.1 u (omega arith))))

pub overflow_mul-start : goal.overflow_mul-start
overflow_mul-start c = omega (arith, room c.before.before, c.row_count.ensures)

pub overflow_add-start : goal.overflow_add-start
overflow_add-start c = omega (arith, room c.before.before, c.row_count.ensures)
