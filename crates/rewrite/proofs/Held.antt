-- What a list of steps keeps: the held sheet is checked over the first book's columns, and its term may be put for the first sheet's.
use mathlib.Core.Path.{◌≡◌, refl, ap, sym, ◌∙◌, subst}
use mathlib.Core.List.{List, [], ◌∷◌}
use Prim.Native.Nat.{ℕ, ◌+◌, ◌≤◌}
use native.Mathlib.Omega.{arith}
use Rattle.laws.proofs.EachMember.{Each}
use Rattle.algebra.specs.Term.{Term}
use Rattle.algebra.specs.Columns.{no_cols, Schema, size}
use Rattle.algebra.proofs.Swap.{Swap, swap_trans}
use Rattle.database.specs.declared.Database.{Database}
use Rattle.database.specs.Stored.{schema}
use Rattle.database.specs.Refusals.{Reply, refused, accepted}
use Rattle.database.proofs.Replies.{accepted_then}
use Rattle.query.specs.declared.Query.{Query}
use Rattle.query.specs.Check.{check_over}
use Rattle.query.proofs.CheckReply.{CheckedSplit}
use Rattle.query.proofs.CheckedOver.{check_over_iff}
use Rattle.query.proofs.NodeLimits.{checked_within, one_term}
use Rattle.rewrite.specs.Rewrite.{rewrite, handed_back, Step, replied, held}
use Rattle.rewrite.proofs.RewriteExact.{Accepted, accepted_iff}
use Rattle.rewrite.proofs.Inside.{puts, found_inside}
use Rattle.rewrite.proofs.AfterStep.{added, step_swap, step_length, step_checked}

-- an accepted step was given a checked sheet
pub checked_first : (w limit : ℕ) (q : Query) (d : Database) (store : List ℕ) (k n : ℕ) (p : Query) → rewrite w limit q d store k n ≡ accepted p
    → (t : Term) × (check_over w limit q d store ≡ accepted t)
unfolding rewrite
checked_first w limit q d store k n p e = let (t, h, _) = accepted_then (check_over w limit q d store) _ e in (t, h)

-- the query p is checked, and its term may be put for t; under which limits it is checked hangs on its count alone
pub record Kept (G : Schema) (t : Term) (p : Query) : Type 1 where
  pub term : Term
  pub checked : CheckedSplit p.count p G term
  pub swap : Swap G no_cols t term

module _ (w limit : ℕ) (q : Query) (d : Database) (store : List ℕ) (t : Term) (over : check_over w limit q d store ≡ accepted t) (k n : ℕ)
    (p : Query) (x : Accepted w limit q d store t over k n p) where
  step_leaves : CheckedSplit limit p (schema w d) (puts (found_inside t n x.node x.ends) x.writes)
  step_leaves =
      subst (λ (r : Query). CheckedSplit limit r (schema w d) (puts (found_inside t n x.node x.ends) x.writes)) (sym x.hands)
      (step_checked w limit q d store t over k n x.node x.ends x.writes x.allows)

  -- "Node count never changes", by kinds 1 to 6 and 8 to 11; "Kind 7 adds a node"
  pub node_count_lem : p.count ≡ size t + added k
  node_count_lem = ap (λ (r : Query). r.count) x.hands ∙ step_length w limit q d store t over k n x.node x.ends x.writes x.allows

  -- an accepted step leaves a sheet within its limit
  pub step_within : p.count ≤ limit
  step_within = step_leaves.in_range_lem.1

  pub step_kept : Kept (schema w d) t p
  step_kept = record {
    term = puts (found_inside t n x.node x.ends) x.writes;
    checked = checked_within p.count step_leaves (omega arith);
    swap = step_swap w limit q d store t over k n x.node x.ends x.writes x.allows;
  }

-- one step, over a book with the columns G
module _ (w : ℕ) (G : Schema) (t : Term) where
  kept_then : {q p : Query} (c : Kept G t q) (e : Kept G c.term p) → Kept G t p
  kept_then c e = record { term = e.term; checked = e.checked; swap = swap_trans c.swap e.swap }

  kept_step : (q : Query) → Kept G t q → (s : Step) → schema w s.database ≡ G → Kept G t (handed_back q (replied w q s))
  kept_step q c s same = by_reply (replied w q s) refl
    where
      by_reply : (r : Reply Query) → replied w q s ≡ r → Kept G t (handed_back q r)
      by_reply (refused _) e = c
      by_reply (accepted p) e =
          let (u, over) = checked_first w s.limit q s.database s.store s.kind s.node p e in
          let x = (accepted_iff w s.limit q s.database s.store u over s.kind s.node p).0 e in
          let k : Kept G u p = subst (λ (H : Schema). Kept H u p) same (step_kept w s.limit q s.database s.store u over s.kind s.node p x) in
          let i : u ≡ c.term = one_term q u c.term (subst (λ (H : Schema). CheckedSplit s.limit q H u) same ((check_over_iff w s.limit q s.database s.store u).0 over).1) c.checked in
          kept_then c (subst (λ (v : Term). Kept G v p) i k)

  pub kept_all : (q : Query) → Kept G t q → (steps : List Step) → Each (λ (s : Step). schema w s.database ≡ G) steps → Kept G t (held w q steps)
  unfolding held
  kept_all q c [] h = c
  kept_all q c (s ∷ steps) (e, h) = kept_all (handed_back q (replied w q s)) (kept_step q c s e) steps h
