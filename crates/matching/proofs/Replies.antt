-- What a step replies, test by test.
use mathlib.Core.Path.{◌≡◌, ap, sym, ◌∙◌}
use mathlib.Core.Bool.{Bool}
use Prim.Native.Nat.{ℕ, ◌-◌, ◌≤◌, ◌<◌}
use lib.Dec.{leb}
use borrow.Author.Tests.{eq-eqb, ne_eqb, le-leb, lt-leb}
use Rattle.laws.specs.Lists.{when◌then◌else◌}
use Rattle.database.specs.declared.Refusal.TheVariants.{NoMatch}
use Rattle.database.specs.Refusals.{Reply, refused}
use Rattle.query.specs.declared.Query.{Query}
use Rattle.matching.specs.Found.{at_node}

-- the reply at node n: none before the first, none past the last
module _ (q : Query) (reply : ℕ → Reply Query) (n : ℕ) where
  abbrev within : Bool → Reply Query
  within b = when b then reply (n - 1) else refused NoMatch

  pub no_node : n ≡ 0 → refused NoMatch ≡ at_node q reply n
  no_node e = ap (λ (b : Bool). when b then refused NoMatch else within (leb n q.count)) (sym (eq-eqb n 0 e))

  some_node : (n ≡ 0 → ⊥) → within (leb n q.count) ≡ at_node q reply n
  some_node h = ap (λ (b : Bool). when b then refused NoMatch else within (leb n q.count)) (sym (ne_eqb n 0 h))

  pub past_node_lem : (n ≡ 0 → ⊥) → q.count < n → refused NoMatch ≡ at_node q reply n
  past_node_lem h i = ap within (sym (lt-leb n q.count i)) ∙ some_node h

  pub at_node_lem : (n ≡ 0 → ⊥) → n ≤ q.count → reply (n - 1) ≡ at_node q reply n
  at_node_lem h i = ap within (sym (le-leb n q.count i)) ∙ some_node h
