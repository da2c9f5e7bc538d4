-- A run with room: where the lent slices hold whatever such a run may need, it is the check and then the plan's run.
use mathlib.Core.Path.{◌≡◌, refl}
use mathlib.Core.Bool.{true, ◌&&◌}
use mathlib.Core.List.{List}
use Prim.Native.Nat.{ℕ, ◌+◌, ◌*◌, ◌≤◌}
use native.Mathlib.Nat.{mul-le-mul_left, mul-le-mul_right}
use native.Mathlib.Omega.{arith}
use lib.Dec.{leb}
use lib.ListN.{length}
use borrow.Author.Tests.{le-leb}
use Rattle.algebra.specs.Term.{Term}
use Rattle.relation.specs.declared.Columns.{Columns}
use Rattle.relation.specs.Rows.{Rows}
use Rattle.database.specs.declared.Database.{Database}
use Rattle.database.specs.declared.Refusal.TheVariants.{ShortSlice}
use Rattle.database.specs.Stored.{rows_limit, schema, table_rows}
use Rattle.database.specs.Refusals.{Reply, refused, accepted, require, ◌>>=◌}
use Rattle.query.specs.declared.Query.{Query}
use Rattle.query.specs.Check.{check_over}
use Rattle.query.proofs.CheckedOver.{check_over_iff}
use Rattle.query.proofs.NodeLimits.{few_checked}
use Rattle.plan.proofs.FixCount.{closed_fixes}
use Rattle.machine.specs.Run.{Answer, execute, space_for, begin, run_query}
use Rattle.run.proofs.Meaning.{Ended, executed}
use Rattle.answering.proofs.FewRows.{few_answer}

module _ (w limit : ℕ) (q : Query) (d : Database) (store : List ℕ) where
  space_enough : (L : ℕ) (t : Term) → check_over w limit q d store ≡ accepted t → space_for w L t ≤ (limit + limit) * (1 + w * L)
  space_enough L t e =
      let closed = ((check_over_iff w limit q d store t).0 e).1.well_formed.closed in
      mul-le-mul_right (1 + w * L) (omega (arith, few_checked w limit q d store t e, closed_fixes closed))

  module _ (L budget : ℕ) (workspace answer : List ℕ) (limited : leb 1 L && leb L rows_limit ≡ true)
      (space : (limit + limit) * (1 + w * L) ≤ length workspace) (room : w * L ≤ length answer) where
    pub roomy_run : run_query w limit q d store L budget workspace answer
        ≡ (check_over w limit q d store >>= (λ t. execute (schema w d) (table_rows w d store) L budget t))
    unfolding run_query begin
    roomy_run = checks (check_over w limit q d store) refl
      where
        ends : (t : Term) (x : Reply Answer) → execute (schema w d) (table_rows w d store) L budget t ≡ x
            → (x >>= (λ a. require (leb (w * length a.rows) (length answer)) ShortSlice >>= (λ _. accepted a))) ≡ x
        ends t (refused r) e = refl
        ends t (accepted a) e =
            let few = few_answer L (schema w d) (table_rows w d store) budget t a e in
            let fits : w * length a.rows ≤ w * L = mul-le-mul_left w few in
            rw (le-leb (w * length a.rows) (length answer) (omega arith))

        checks : (x : Reply Term) → check_over w limit q d store ≡ x → run_query w limit q d store L budget workspace answer
            ≡ (x >>= (λ t. execute (schema w d) (table_rows w d store) L budget t))
        checks (refused r) e = rw (run_query, begin, e)
        checks (accepted t) e =
            let enough = space_enough L t e in
            rw (run_query, begin, e, limited, le-leb (space_for w L t) (length workspace) (omega arith))
            (ends t (execute (schema w d) (table_rows w d store) L budget t) refl)

  -- a finished run's rows are within the row limit
  pub few_ended : (L budget : ℕ) (workspace answer : List ℕ) {set : Columns} {rows : Rows} {n ran : ℕ}
      → Ended (run_query w limit q d store L budget workspace answer) set rows n ran → n ≤ L
  few_ended L budget workspace answer e =
      let (t, _, ran) = executed w limit q d store L budget workspace answer e.answer e.accepts in
      let few = few_answer L (schema w d) (table_rows w d store) budget t e.answer ran in
      omega (arith, e.count)
