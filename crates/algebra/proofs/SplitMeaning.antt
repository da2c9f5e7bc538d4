-- The split term means what the term means as typed, over all tables and in all environments, whatever the term. "A body must mean the least
-- fixpoint of itself, and everything known of fixes then covers it."
use Prim.Native.Nat.{ℕ}
use Rattle.algebra.specs.Term.{Term, table, var, fact, pair, filter, copy, drop, last, fix, mu, Environment}
use Rattle.algebra.specs.Split.{split, split_mu}
use Rattle.algebra.proofs.Alike.{Alike, alike, alike_trans, alike_pair, alike_filter, alike_copy, alike_drop, alike_last, alike_fix, alike_mu}
use Rattle.algebra.proofs.SplitBodies.{SplitCase, stays, becomes, split_case, split_alike}

mu_alike : {T : Environment} (v : ℕ) (a : Term) → Alike T (mu v a) (split_mu v a)
mu_alike {T} v a = by_case (split_case v a)
  where
    by_case : {b : Term} → SplitCase v a b → Alike T (mu v a) b
    by_case (stays _) = alike (mu v a)
    by_case (becomes _ i) = split_alike v i

pub split_meaning : {T : Environment} (t : Term) → Alike T t (split t)
unfolding split
split_meaning (table t) = alike (table t)
split_meaning (var v) = alike (var v)
split_meaning (fact c w) = alike (fact c w)
split_meaning (pair o a b) = alike_pair o (split_meaning a) (split_meaning b)
split_meaning (filter f a) = alike_filter f (split_meaning a)
split_meaning (copy c d a) = alike_copy c d (split_meaning a)
split_meaning (drop c a) = alike_drop c (split_meaning a)
split_meaning (last c a) = alike_last c (split_meaning a)
split_meaning (fix v a b) = alike_fix v (split_meaning a) (split_meaning b)
split_meaning (mu v a) = alike_trans (alike_mu v (split_meaning a)) (mu_alike v (split a))
