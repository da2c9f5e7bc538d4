-- What a check hands on, read off its value: a refusal, or the split sheet, whose own lines are the checked term's, with the facts of its nodes.
use mathlib.Core.Path.{◌≡◌, refl, ap, sym, ◌∙◌, subst}
use mathlib.Core.List.{List, []}
use Prim.Native.Nat.{ℕ}
use native.Mathlib.Omega.{arith}
use lib.ListN.{length}
use Rattle.algebra.specs.Term.{Term}
use Rattle.algebra.specs.Columns.{no_cols, Schema}
use Rattle.relation.specs.Rows.{columns}
use Rattle.database.specs.declared.Database.{Database}
use Rattle.database.specs.declared.Refusal.{Refusal}
use Rattle.std.specs.Prelude.{Result, Ok, Err}
use Rattle.database.specs.Stored.{schema}
use Rattle.database.specs.Refusals.{Reply, refused, accepted}
use Rattle.query.specs.declared.Query.{Query}
use Rattle.query.specs.declared.Checked.{Checked}
use Rattle.query.specs.Lines.{nodes, lines}
use Rattle.query.specs.Check.{split_sheet, check_over}
use Rattle.query.specs.Facts.{visits, facts_of, checked_value}
use Rattle.query.proofs.SplitSheet.{lines_back, split_checked}

-- of an accepted query
pub record Handed (limit : ℕ) (q : Query) (d : Database) (store : List ℕ) (x : Checked) : Type 0 where
  pub term : Term
  pub checked : check_over columns limit q d store ≡ accepted term
  pub sheet : x.query ≡ split_sheet q term
  -- the split sheet is checked as the query is
  pub over : check_over columns limit x.query d store ≡ accepted term
  pub own : nodes x.query ≡ lines term
  pub counted : length (nodes x.query) ≡ x.query.count
  pub told : x.facts ≡ facts_of (schema columns d) (visits (schema columns d) no_cols [] 0 term)

module _ (limit : ℕ) (q : Query) (d : Database) (store : List ℕ) {x : Result Checked Refusal}
    (is : x ≡ checked_value (schema columns d) q (check_over columns limit q d store)) where
  abbrev reply : Reply Term
  reply = check_over columns limit q d store

  abbrev G : Schema
  G = schema columns d

  pub refusal_handed : {c : Refusal} → x ≡ Err c → reply ≡ refused c
  refusal_handed {c} e = by_reply reply (sym e ∙ is)
    where
      by_reply : (r : Reply Term) → Err c ≡ checked_value G q r → r ≡ refused c
      by_reply (refused r) e = cc
      by_reply (accepted t) e = let z : ◌≡◌ {A = ℕ} 0 1 = cc in absurd (omega arith)

  handed : (r : Reply Term) {y : Checked} → Ok y ≡ checked_value G q r
      → (t : Term) × (r ≡ accepted t) × (y ≡ record { query = split_sheet q t; facts = facts_of G (visits G no_cols [] 0 t) })
  handed (refused r) e = let z : ◌≡◌ {A = ℕ} 0 1 = cc in absurd (omega arith)
  handed (accepted t) e = (t, refl, cc)

  pub sheet_handed : {y : Checked} → x ≡ Ok y → Handed limit q d store y
  sheet_handed {y} e =
      let (t, accepts, told) = handed reply (sym e ∙ is) in
      let sheet : y.query ≡ split_sheet q t = ap (λ (z : Checked). z.query) told in
      let own : nodes y.query ≡ lines t = ap nodes sheet ∙ lines_back q (lines t) in
      record {
        term = t;
        checked = accepts;
        sheet = sheet;
        over = subst (λ (p : Query). check_over columns limit p d store ≡ accepted t) (sym sheet) (split_checked columns limit q d store t accepts);
        own = own;
        counted = ap length own ∙ ap (λ (p : Query). p.count) (sym sheet);
        told = ap (λ (z : Checked). z.facts) told;
      }
