-- "A body must mean the least fixpoint of itself": the meaning of a mu that is split into a checked fix is the least relation closed under its body.
use mathlib.Core.Logic.{inl, inr}
use Prim.Native.Nat.{ℕ}
use Rattle.algebra.specs.Mapping.{Relation}
use Rattle.algebra.specs.Term.{Term, fix, mu, empty, Environment, bind, meaning}
use Rattle.algebra.specs.Columns.{Schema}
use Rattle.algebra.specs.WellFormed.{Closed}
use Rattle.algebra.specs.Split.{split}
use Rattle.algebra.proofs.Mappings.{Equal}
use Rattle.algebra.proofs.LeastFixpoint.{Least, least_fixpoint}
use Rattle.algebra.proofs.Alike.{alike, bind_equal}
use Rattle.algebra.proofs.SplitBodies.{Parted, SplitCase, stays, becomes, split_case, split_parted}
use Rattle.algebra.proofs.SplitMeaning.{split_meaning}

-- the least relation that holds the seed and is closed under the step is the least closed under a body that gives both
least_parted : {s : Relation} {f g : Relation → Relation} {R R' : Relation} → Parted s g f → Equal R R' → Least s g R' → Least empty f R
least_parted h e l = record {
  holds_seed = λ m z. absurd z;
  step_closed = λ m r. (e m).1 (elim ((h _ _ e m).0 r) [ inl z ↦ l.holds_seed m z | inr z ↦ l.step_closed m z ]);
  below_all = λ S _ k m r.
      let same : Equal S S = λ x. ((λ z. z), λ z. z) in
      l.below_all S (λ x z. k x ((h S S same x).1 (inl z))) (λ x z. k x ((h S S same x).1 (inr z))) m ((e m).0 r);
}

pub mu_least : {G : Schema} (v : ℕ) (a : Term) → Closed G (split (mu v a)) → (T ρ : Environment)
    → Least empty (λ S. meaning T a (bind ρ v S)) (meaning T (mu v a) ρ)
unfolding split
mu_least {G} v a p T ρ = by_case (split_case v (split a)) p ((split_meaning (mu v a)).means ρ ρ same)
  where
    same : (u : ℕ) → Equal (ρ u) (ρ u)
    same u m = ((λ r. r), λ r. r)

    -- the body as typed gives what the split body gives
    typed : {s : Relation} {g : Relation → Relation} → Parted s g (λ S. meaning T (split a) (bind ρ v S)) → Parted s g (λ S. meaning T a (bind ρ v S))
    typed h S S' e m =
        let i = (split_meaning {T = T} a).means (bind ρ v S) (bind ρ v S) (bind_equal ρ ρ v S S same (λ x. ((λ r. r), λ r. r))) m in
        let k = h S S' e m in
        ((λ r. k.0 (i.0 r)), λ r. i.1 (k.1 r))

    by_case : {b : Term} → SplitCase v (split a) b → Closed G b → Equal (meaning T (mu v a) ρ) (meaning T b ρ)
        → Least empty (λ S. meaning T a (bind ρ v S)) (meaning T (mu v a) ρ)
    by_case (stays _) c e = elim c [ ]
    by_case (becomes _ i) c e = least_parted (typed (split_parted T i v ρ ρ same)) e (least_fixpoint c T ρ)
