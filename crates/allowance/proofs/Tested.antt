-- What the tests before 17 hand on, read off their value: a refusal, or the split sheet of a query that passes, which then passes too.
use mathlib.Core.Path.{◌≡◌, refl, ap, sym, ◌∙◌}
use mathlib.Core.List.{List}
use Prim.Native.Nat.{ℕ}
use native.Mathlib.Omega.{arith}
use Rattle.algebra.specs.Term.{Term}
use Rattle.relation.specs.Rows.{columns}
use Rattle.database.specs.declared.Database.{Database}
use Rattle.database.specs.declared.Refusal.{Refusal}
use Rattle.std.specs.Prelude.{Result, Ok, Err}
use Rattle.database.specs.Stored.{schema}
use Rattle.database.specs.Refusals.{Reply, refused, accepted}
use Rattle.query.specs.declared.Query.{Query}
use Rattle.query.specs.declared.Checked.{Checked}
use Rattle.query.specs.Facts.{checked_value}
use Rattle.checking.proofs.Handed.{Handed, sheet_handed}
use Rattle.machine.specs.Run.{runnable}
use Rattle.machine.proofs.Passed.{passed, passes, passes_as}

-- of a query that passes
pub record Tested (limit : ℕ) (q : Query) (d : Database) (store : List ℕ) (L : ℕ) (x : Checked) : Type 0 where
  pub handed : Handed limit q d store x
  pub tested : runnable columns limit q d store L ≡ accepted handed.term
  -- the split sheet passes as the query does
  pub over : runnable columns limit x.query d store L ≡ runnable columns limit q d store L

module _ (limit : ℕ) (q : Query) (d : Database) (store : List ℕ) (L : ℕ) {x : Result Checked Refusal}
    (is : x ≡ checked_value (schema columns d) q (runnable columns limit q d store L)) where
  abbrev reply : Reply Term
  reply = runnable columns limit q d store L

  pub refusal_tested : {c : Refusal} → x ≡ Err c → reply ≡ refused c
  refusal_tested {c} e = by_reply reply (sym e ∙ is)
    where
      by_reply : (r : Reply Term) → Err c ≡ checked_value (schema columns d) q r → r ≡ refused c
      by_reply (refused r) e = cc
      by_reply (accepted t) e = let z : ◌≡◌ {A = ℕ} 0 1 = cc in absurd (omega arith)

  pub sheet_tested : {y : Checked} → x ≡ Ok y → Tested limit q d store L y
  sheet_tested {y} e =
      let (t, accepts) = by_reply reply (sym e ∙ is) in
      let p = passed columns limit q d store L accepts in
      let h = sheet_handed limit q d store (is ∙ ap (checked_value (schema columns d) q) (accepts ∙ sym p.checked)) e in
      record {
        handed = h;
        tested = passes columns limit q d store L h.checked p.some p.few;
        over = passes_as columns limit q d store L y.query (h.over ∙ sym h.checked);
      }
    where
      by_reply : (r : Reply Term) → Ok y ≡ checked_value (schema columns d) q r → (t : Term) × (r ≡ accepted t)
      by_reply (refused r) e = let z : ◌≡◌ {A = ℕ} 0 1 = cc in absurd (omega arith)
      by_reply (accepted t) e = (t, refl)
