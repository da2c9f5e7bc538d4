-- What 13 to 15 ask by the indices is what they ask of the match.
use mathlib.Core.Path.{◌≡◌, refl, ap, ap₂, ◌∙◌}
use mathlib.Core.Bool.{Bool, true, not, ◌&&◌}
use mathlib.Core.List.{List, [], ◌∷◌}
use Prim.Native.Nat.{ℕ, ◌≤◌, ◌<◌}
use lib.Dec.{ltb}
use lib.ListN.{length}
use borrow.Author.Tests.{ltb-true}
use Rattle.laws.specs.Lists.{every}
use Rattle.laws.proofs.Tests.{and_true_left, and_true_right, not_not}
use Rattle.laws.proofs.Passes.{every_split}
use Rattle.algebra.specs.declared.Condition.{Condition}
use Rattle.algebra.specs.Term.{Term, filter, drop}
use Rattle.algebra.specs.Columns.{Cols, no_cols, Schema, cols, named}
use Rattle.algebra.specs.Rules.{Match, filter_fix, fix_join, join_fix, fix_except, drop_fix, fix_fix, stable_enough, unused_enough, closed_enough}
use Rattle.algebra.proofs.Redex.{fix_of, redex}
use Rattle.relation.specs.Rows.{columns}
use Rattle.database.specs.declared.Database.{Database}
use Rattle.database.specs.Stored.{schema}
use Rattle.query.specs.declared.Query.{Query}
use Rattle.query.specs.declared.Facts.{Facts}
use Rattle.query.specs.Lines.{node_limit, nodes, on_form, lines}
use Rattle.query.specs.Facts.{visits, facts_of}
use Rattle.query.proofs.CheckReply.{Checked}
use Rattle.matching.specs.Found.{stable_at, unused_at, closed_at}
use Rattle.matching.proofs.Standing.{Here, pair_left, pair_right, filter_down, drop_down}
use Rattle.matching.proofs.Loops.{here_formed, here_closed, unstable_is, used_is, shared_is, others_is}
use Rattle.matching.proofs.Matched.{found_of}

-- tests that agree on each column below n
pub every_same : (p r : ℕ → Bool) (n : ℕ) (l : List ℕ) → every (λ c. ltb c n) l ≡ true → ((c : ℕ) → c < n → p c ≡ r c) → every p l ≡ every r l
unfolding every
every_same p r n [] e h = refl
every_same p r n (c ∷ l) e h =
    ap₂ ◌&&◌ (h c (ltb-true c n (and_true_left (ltb c n) _ e))) (every_same p r n l (and_true_right (ltb c n) _ e) h)

pub filter_formed : (f : Condition) (a : Term) → every (on_form columns) (lines (filter f a)) ≡ true → every (λ c. ltb c columns) (named f) ≡ true
unfolding lines every
filter_formed f a e = and_true_left (every (λ c. ltb c columns) (named f)) true (every_split (on_form columns) (lines a) _ e).1

drop_formed : (c : ℕ) (a : Term) → every (on_form columns) (lines (drop c a)) ≡ true → c < columns
unfolding lines every
drop_formed c a e = ltb-true c columns (and_true_left (ltb c columns) true (every_split (on_form columns) (lines a) _ e).1)

module _ (d : Database) (limit : ℕ) (q : Query) (t : Term) (checked : Checked limit q (schema columns d) t) (counted : length (nodes q) ≡ q.count) (fits : q.count ≤ node_limit) where
  abbrev G : Schema
  G = schema columns d

  abbrev facts : Facts
  facts = facts_of G (visits G no_cols [] 0 t)

  module _ {C : Cols} {s : ℕ} where
    pub stable_is : (m : Match) → Here d q t checked.written C s (redex m) → stable_at q facts (found_of s m) ≡ stable_enough G C m
    unfolding stable_enough cols
    stable_is (filter_fix f x) h =
        every_same _ _ columns (named f) (filter_formed f (fix_of x) (here_formed d limit q t checked counted fits h))
        (λ c k. ap not (unstable_is d limit q t checked counted fits x (filter_down d q t checked.written h) c k) ∙ not_not _)
    stable_is (fix_join x o) h =
        shared_is d limit q t checked counted fits x (pair_left d q t checked.written h) (pair_right d q t checked.written h) (cols G C o) (λ c. refl)
    stable_is (join_fix o x) h =
        shared_is d limit q t checked counted fits x (pair_right d q t checked.written h) (pair_left d q t checked.written h) (cols G C o) (λ c. refl)
    stable_is (fix_except x o) h =
        shared_is d limit q t checked counted fits x (pair_left d q t checked.written h) (pair_right d q t checked.written h) (cols G C o) (λ c. refl)
    stable_is (drop_fix c x) h = refl
    stable_is (fix_fix x y) h =
        let l = pair_left d q t checked.written h in
        let r = pair_right d q t checked.written h in
        ap₂ ◌&&◌ (shared_is d limit q t checked counted fits x l r (cols G C y.seed) (λ c. refl)) (shared_is d limit q t checked counted fits y r l (cols G C x.seed) (λ c. refl))

    pub unused_is : (m : Match) → Here d q t checked.written C s (redex m) → unused_at q facts (found_of s m) ≡ unused_enough G C m
    unfolding unused_enough cols
    unused_is (filter_fix f x) h = refl
    unused_is (fix_join x o) h =
        others_is d limit q t checked counted fits x (pair_left d q t checked.written h) (pair_right d q t checked.written h) (cols G C o) (λ c. refl)
    unused_is (join_fix o x) h =
        others_is d limit q t checked counted fits x (pair_right d q t checked.written h) (pair_left d q t checked.written h) (cols G C o) (λ c. refl)
    unused_is (fix_except x o) h = refl
    unused_is (drop_fix c x) h =
        ap not (used_is d limit q t checked counted fits x (drop_down d q t checked.written h) c (drop_formed c (fix_of x) (here_formed d limit q t checked counted fits h)))
    unused_is (fix_fix x y) h =
        let l = pair_left d q t checked.written h in
        let r = pair_right d q t checked.written h in
        ap₂ ◌&&◌ (others_is d limit q t checked counted fits x l r (cols G C y.seed) (λ c. refl)) (others_is d limit q t checked counted fits y r l (cols G C x.seed) (λ c. refl))

    pub closed_is : (m : Match) → Here d q t checked.written C s (redex m) → closed_at facts (found_of s m) ≡ closed_enough m
    unfolding closed_enough
    closed_is (filter_fix f x) h = refl
    closed_is (fix_join x o) h = here_closed d limit q t checked counted fits (pair_right d q t checked.written h)
    closed_is (join_fix o x) h = here_closed d limit q t checked counted fits (pair_left d q t checked.written h)
    closed_is (fix_except x o) h = here_closed d limit q t checked counted fits (pair_right d q t checked.written h)
    closed_is (drop_fix c x) h = refl
    closed_is (fix_fix x y) h = refl
