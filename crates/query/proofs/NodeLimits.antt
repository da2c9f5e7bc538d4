-- The node limit decides number 2 and nothing else: to a query within two limits the check replies the same under either.
use mathlib.Core.Path.{◌≡◌, ap, sym, ◌∙◌}
use mathlib.Core.List.{List}
use Prim.Native.Nat.{ℕ, ◌≤◌}
use native.Mathlib.Omega.{arith}
use lib.Dec.{leb}
use borrow.Author.Tests.{le-leb}
use Rattle.algebra.specs.Term.{Term}
use Rattle.algebra.specs.Columns.{Schema, size}
use Rattle.algebra.specs.Split.{split}
use Rattle.database.specs.declared.Database.{Database}
use Rattle.database.specs.Stored.{schema}
use Rattle.database.specs.Refusals.{accepted}
use Rattle.database.proofs.Replies.{accepted_same}
use Rattle.query.specs.declared.Query.{Query}
use Rattle.query.specs.Lines.{nodes, check_form}
use Rattle.query.specs.Check.{check_query, check_over}
use Rattle.query.proofs.TermLines.{term_lines}
use Rattle.query.proofs.CheckReply.{CheckedSplit}
use Rattle.query.proofs.CheckedTerms.{term_few}
use Rattle.query.proofs.CheckedOver.{check_over_iff}

-- what a query's check says under one limit, under any that is no lower than its count
pub checked_within : {limit : ℕ} (limit' : ℕ) {q : Query} {G : Schema} {t : Term} → CheckedSplit limit q G t → q.count ≤ limit' → CheckedSplit limit' q G t
checked_within limit' c h = record { in_range_lem = (c.in_range_lem.0, h); on_form_lem = c.on_form_lem; typed = c.typed; written = c.written; is_split = c.is_split; well_formed = c.well_formed }

-- a query has one checked term, whatever the limits
pub one_term : {limit limit' : ℕ} (q : Query) {G : Schema} (t u : Term) → CheckedSplit limit q G t → CheckedSplit limit' q G u → t ≡ u
one_term q t u c e =
    let same : c.typed ≡ e.typed = accepted_same (sym ((term_lines (nodes q) c.typed).1 c.written) ∙ (term_lines (nodes q) e.typed).1 e.written) in
    sym c.is_split ∙ ap split same ∙ e.is_split

module _ (w limit : ℕ) (q : Query) (d : Database) (store : List ℕ) (t : Term) (checked : check_over w limit q d store ≡ accepted t) where
  -- an accepted query is within the limit, and so is its term
  pub accepted_within : q.count ≤ limit
  accepted_within = ((check_over_iff w limit q d store t).0 checked).1.in_range_lem.1

  pub few_checked : size t ≤ limit
  few_checked = omega (arith, accepted_within, term_few ((check_over_iff w limit q d store t).0 checked).1)

pub both_within : (n limit limit' : ℕ) → n ≤ limit → n ≤ limit' → leb n limit ≡ leb n limit'
both_within n limit limit' h h' = le-leb n limit h ∙ sym (le-leb n limit' h')

-- or is within neither
module _ (q : Query) (limit limit' : ℕ) (e : leb q.count limit ≡ leb q.count limit') where
  form_agree : (w : ℕ) → check_form w limit q ≡ check_form w limit' q
  unfolding check_form
  form_agree w = rw e

  check_query_agree : (G : Schema) → check_query limit q G ≡ check_query limit' q G
  unfolding check_query
  check_query_agree G = rw (form_agree G.width)

  pub check_over_agree : (w : ℕ) (d : Database) (store : List ℕ) → check_over w limit q d store ≡ check_over w limit' q d store
  unfolding check_over
  check_over_agree w d store = rw (check_query_agree (schema w d))

pub check_over_limits : (q : Query) (limit limit' : ℕ) → q.count ≤ limit → q.count ≤ limit'
    → (w : ℕ) (d : Database) (store : List ℕ) → check_over w limit q d store ≡ check_over w limit' q d store
check_over_limits q limit limit' h h' = check_over_agree q limit limit' (both_within q.count limit limit' h h')
