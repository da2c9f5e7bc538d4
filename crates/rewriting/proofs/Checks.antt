-- What the check's reply says of the step behind it.
use mathlib.Core.Path.{◌≡◌, ap, sym, ◌∙◌, subst}
use mathlib.Core.List.{List}
use Prim.Native.Nat.{ℕ, ◌≤◌, min}
use native.Mathlib.Omega.{arith}
use Rattle.relation.specs.Rows.{columns}
use Rattle.database.specs.declared.Database.{Database}
use Rattle.database.specs.declared.Refusal.{Refusal}
use Rattle.std.specs.Prelude.{Result, Ok, Err}
use Rattle.database.specs.Stored.{schema}
use Rattle.database.specs.Refusals.{refused}
use Rattle.query.specs.declared.Query.{Query}
use Rattle.query.specs.declared.Facts.{Facts}
use Rattle.query.specs.declared.Checked.{Checked}
use Rattle.query.specs.Lines.{node_limit}
use Rattle.query.specs.Facts.{checked_value}
use Rattle.query.specs.Check.{check_over}
use Rattle.query.proofs.CheckedOver.{check_over_iff}
use Rattle.checking.proofs.Handed.{Handed, refusal_handed, sheet_handed}
use Rattle.rewrite.specs.declared.Unchanged.{Unchanged}
use Rattle.rewrite.specs.Rewrite.{rewrite, rewritten}
use Rattle.rewrite.proofs.SplitSheet.{split_rewrites}
use Rattle.matching.specs.Found.{Placed}
use Rattle.matching.proofs.NodeReply.{checked_placed}
use Rattle.rewriting.specs.Steps.{step_reply}
use Rattle.rewriting.proofs.StepExact.{step_exact}
use Rattle.rewriting.proofs.Handing.{as_given}

module _ (limit : ℕ) (q : Query) (d : Database) (store : List ℕ) {x : Result Checked Refusal}
    (e : x ≡ checked_value (schema columns d) q (check_over columns (min limit node_limit) q d store)) (k n : ℕ) where
  abbrev most : ℕ
  most = min limit node_limit

  refused_too : (c : Refusal) → x ≡ Err c → refused c ≡ rewrite columns most q d store k n
  unfolding rewrite
  refused_too c f = rw (refusal_handed most q d store e f)

  -- what is told of a refused check
  pub step_refused : {y : Result Query Unchanged} → (c : Refusal) × (x ≡ Err c) × (y ≡ Err (record { query = q; refusal = c }))
      → y ≡ rewritten q (rewrite columns most q d store k n)
  step_refused (c, f, g) = g ∙ ap (rewritten q) (refused_too c f)

  module _ {y : Checked} (f : x ≡ Ok y) where
    handed : Handed most q d store y
    handed = sheet_handed most q d store e f

    fits : y.query.count ≤ node_limit
    fits = let r = ((check_over_iff columns most y.query d store handed.term).0 handed.over).1.in_range_lem in omega arith

    pub step_placed : Placed y.query y.facts
    step_placed =
        subst (Placed y.query) (sym handed.told) (checked_placed most y.query d store handed.term handed.over handed.own handed.counted fits)

    -- a step of the split sheet is a step of the query as given
    accepted : step_reply most y.query y.facts k n ≡ rewrite columns most q d store k n
    accepted =
        ap (λ (g : Facts). step_reply most y.query g k n) handed.told
        ∙ step_exact most y.query d store handed.term handed.over handed.own handed.counted fits k n
        ∙ ap (λ (p : Query). rewrite columns most p d store k n) handed.sheet ∙ split_rewrites columns most q d store handed.term handed.checked k n

    pub step_handed : (m : ℕ) → m ≡ most → (s t : Result Query Unchanged) → s ≡ rewritten y.query (step_reply m y.query y.facts k n)
        → ((p : Query) → s ≡ Ok p → t ≡ Ok p) → ((u : Unchanged) → s ≡ Err u → t ≡ Err (record { query = q; refusal = u.refusal }))
        → t ≡ rewritten q (rewrite columns most q d store k n)
    step_handed m g s t h same back =
        as_given y.query q s t same back (step_reply m y.query y.facts k n) h
        ∙ ap (rewritten q) (ap (λ (j : ℕ). step_reply j y.query y.facts k n) g ∙ accepted)
