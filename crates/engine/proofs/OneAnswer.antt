-- A finished run hangs neither on the node limit, nor on the row limit, nor on the budget, nor on the lent slices: they decide only whether it finishes.
use mathlib.Core.Path.{◌≡◌, subst}
use mathlib.Core.List.{List}
use Prim.Native.Nat.{ℕ}
use Rattle.algebra.specs.Term.{Term}
use Rattle.database.specs.declared.Database.{Database}
use Rattle.database.specs.Stored.{schema, table_rows}
use Rattle.database.specs.Refusals.{accepted}
use Rattle.query.specs.declared.Query.{Query}
use Rattle.query.proofs.CheckedOver.{check_over_iff}
use Rattle.query.proofs.NodeLimits.{one_term}
use Rattle.machine.specs.Limits.{Limits}
use Rattle.machine.specs.Run.{Answer, execute, run_query}
use Rattle.machine.proofs.OneEnd.{one_execution}
use Rattle.run.proofs.Meaning.{executed}

-- one query over one stored book, within any two limits and budgets, with any slices: wherever both finish, columns, rows and lines run are equal
pub one_answer : (w : ℕ) (l l' : Limits) (q : Query) (d : Database) (store : List ℕ) (budget budget' : ℕ) (workspace workspace' answer answer' : List ℕ) (a b : Answer)
    → run_query w l.nodes q d store l.rows budget workspace answer ≡ accepted a
    → run_query w l'.nodes q d store l'.rows budget' workspace' answer' ≡ accepted b
    → a ≡ b
one_answer w l l' q d store budget budget' workspace workspace' answer answer' a b e f =
    let (t, checked, ran) = executed w l.nodes q d store l.rows budget workspace answer a e in
    let (u, checked', ran') = executed w l'.nodes q d store l'.rows budget' workspace' answer' b f in
    let same = one_term q t u ((check_over_iff w l.nodes q d store t).0 checked).1 ((check_over_iff w l'.nodes q d store u).0 checked').1 in
    one_execution (schema w d) (table_rows w d store) l.rows l'.rows budget budget' u a b
    (subst (λ (x : Term). execute (schema w d) (table_rows w d store) l.rows budget x ≡ accepted a) same ran) ran'
