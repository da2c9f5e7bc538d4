-- The test of each node's form (1), and what the test of a query's form (2, 1) says.
use mathlib.Core.Path.{◌≡◌, refl}
use mathlib.Core.Bool.{Bool, true, false, ◌&&◌}
use Rattle.std.specs.Prelude.{Option, Some, None}
use Prim.Native.Nat.{ℕ, ◌+◌, ◌≤◌, ◌<◌}
use native.Mathlib.Omega.{arith}
use lib.Dec.{leb}
use borrow.Author.Tests.{le-leb, lt-leb, leb-true}
use lib.ListN.{get_or}
use Rattle.laws.specs.Lists.{lowest}
use Rattle.laws.proofs.Tests.{and_true_left, and_true_right}
use Rattle.laws.proofs.Tabulated.{lowest_none, lowest_some}
use Rattle.database.specs.declared.Refusal.TheVariants.{QueryForm, NodeCount}
use Rattle.database.specs.Refusals.{Reply, refused, accepted, require, ◌>>=◌}
use Rattle.query.specs.declared.Node.TheVariants.{Table}
use Rattle.query.specs.declared.Query.{Query}
use Rattle.query.specs.Lines.{nodes, on_form, check_form}
use Rattle.query.specs.Shape.{check_nodes}

-- the node of an index is on the form
abbrev pub formed : ℕ → Query → ℕ → Bool
formed w q i = on_form w (get_or (nodes q) i (Table 0))

by_lowest : Option ℕ → Reply (Unit {0})
by_lowest None = accepted tt
by_lowest (Some i) = refused (QueryForm (i + 1))

module _ (w : ℕ) (q : Query) where
  pub all_formed : ((i : ℕ) → i < q.count → formed w q i ≡ true) → check_nodes w q ≡ accepted tt
  unfolding check_nodes
  all_formed h = rw (check_nodes, (lowest_none (formed w q) q.count).1 h)

  pub one_unformed : (i : ℕ) → i < q.count → formed w q i ≡ false → ((k : ℕ) → k < i → formed w q k ≡ true) → check_nodes w q ≡ refused (QueryForm (i + 1))
  unfolding check_nodes
  one_unformed i h e f = rw (check_nodes, (lowest_some (formed w q) q.count i).1 (h, e, f))

  pub nodes_formed : check_nodes w q ≡ accepted tt → (i : ℕ) → i < q.count → formed w q i ≡ true
  unfolding check_nodes by_lowest
  nodes_formed e = by_lowest_lem (lowest (formed w q) q.count) refl e
    where
      by_lowest_lem : (o : Option ℕ) → lowest (formed w q) q.count ≡ o → by_lowest o ≡ accepted tt
          → (i : ℕ) → i < q.count → formed w q i ≡ true
      by_lowest_lem None f e = (lowest_none (formed w q) q.count).0 f
      by_lowest_lem (Some j) f e = let z : ◌≡◌ {A = ℕ} 0 1 = cc in absurd (omega arith)

  module _ (limit : ℕ) where
    -- 2 comes first
    pub form_counted : 1 ≤ q.count → q.count ≤ limit → check_form w limit q ≡ check_nodes w q
    unfolding check_form check_nodes
    form_counted h k = rw (le-leb 1 q.count h, le-leb q.count limit k)

    pub form_empty : q.count < 1 → check_form w limit q ≡ refused (NodeCount 0)
    unfolding check_form
    form_empty h = rw (lt-leb 1 q.count h)

    pub form_over : limit < q.count → check_form w limit q ≡ refused (NodeCount 0)
    unfolding check_form check_nodes
    form_over h = by_test (leb 1 q.count) (lt-leb q.count limit h)
      where
        by_test : (b : Bool) {c : Bool} → c ≡ false → (require (b && c) (NodeCount 0) >>= λ _. check_nodes w q) ≡ refused (NodeCount 0)
        by_test true e = rw e
        by_test false e = refl

    -- what an accepted form says
    pub form_accepted : check_form w limit q ≡ accepted tt → (1 ≤ q.count) × (q.count ≤ limit) × (check_nodes w q ≡ accepted tt)
    unfolding check_form check_nodes
    form_accepted e = by_test (leb 1 q.count && leb q.count limit) refl e
      where
        by_test : (b : Bool) → leb 1 q.count && leb q.count limit ≡ b → (require b (NodeCount 0) >>= λ _. check_nodes w q) ≡ accepted tt
            → (1 ≤ q.count) × (q.count ≤ limit) × (check_nodes w q ≡ accepted tt)
        by_test true f e = (leb-true _ _ (and_true_left _ _ f), leb-true _ _ (and_true_right (leb 1 q.count) _ f), e)
        by_test false f e = let z : ◌≡◌ {A = ℕ} 0 1 = cc in absurd (omega arith)
