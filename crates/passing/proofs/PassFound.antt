-- What a kind from 7 to 11 finds at a node by its line is what its rule finds in the node's term.
use mathlib.Core.Path.{◌≡◌, refl, ap, ◌∙◌}
use Rattle.std.specs.Prelude.{Option, Some, None}
use Prim.Native.Nat.{ℕ, ◌≤◌}
use native.Mathlib.Omega.{arith}
use lib.Dec.{eqb}
use lib.ListN.{length}
use Rattle.laws.proofs.Options.{if_map}
use Rattle.algebra.specs.declared.Pairing.TheVariants.{Union, Join, Except}
use Rattle.algebra.specs.declared.Condition.{Condition}
use Rattle.algebra.specs.Term.{Term, table, var, fact, pair, filter, copy, drop, last as latest, fix, mu}
use Rattle.algebra.specs.Columns.{Cols, size}
use Rattle.algebra.specs.Past.{Past, past_union, past_left, past_right, past_except, past_filter, past_pair, under_filter, find_past}
use Rattle.relation.specs.Rows.{columns}
use Rattle.database.specs.declared.Database.{Database}
use Rattle.database.specs.Stored.{schema}
use Rattle.query.specs.declared.Query.{Query}
use Rattle.query.specs.Lines.{node_limit, nodes}
use Rattle.query.specs.Shape.{root}
use Rattle.query.proofs.CheckReply.{Checked}
use Rattle.rewrite.specs.Places.{line_at, last}
use Rattle.matching.specs.Found.{right_of}
use Rattle.matching.proofs.Standing.{Here, filter_down}
use Rattle.matching.proofs.Loops.{here_told}
use Rattle.passing.specs.declared.Passed.{Passed}
use Rattle.passing.specs.declared.Passed.TheVariants.{PastUnion, PastLeft, PastRight, PastExcept, PastFilter}
use Rattle.passing.specs.Passing.{under_passed, line_passed, passed_at}

abbrev pub passed_of : Past → Passed
passed_of (past_union f a b) = PastUnion f
passed_of (past_left f a b) = PastLeft f
passed_of (past_right f a b) = PastRight f
passed_of (past_except f a b) = PastExcept
passed_of (past_filter f g a) = PastFilter

abbrev pub passed : Option Past → Option Passed
passed None = None
passed (Some m) = Some (passed_of m)

under_is : (k : ℕ) (f : Condition) (a : Term) → under_passed k f (root a) ≡ passed (under_filter k f a)
unfolding under_filter past_pair
under_is k f (table x) = refl
under_is k f (var x) = refl
under_is k f (fact c x) = refl
under_is k f (pair Union a b) = if_map passed (eqb k 7) (Some (past_union f a b)) None refl refl
under_is k f (pair Join a b) = if_map passed (eqb k 8) (Some (past_left f a b)) _ refl (if_map passed (eqb k 9) (Some (past_right f a b)) None refl refl)
under_is k f (pair Except a b) = if_map passed (eqb k 10) (Some (past_except f a b)) None refl refl
under_is k f (filter g a) = if_map passed (eqb k 11) (Some (past_filter f g a)) None refl refl
under_is k f (copy c x a) = refl
under_is k f (drop c a) = refl
under_is k f (latest c a) = refl
under_is k f (fix v a b) = refl
under_is k f (mu v a) = refl

module _ (d : Database) (limit : ℕ) (q : Query) (t : Term) (checked : Checked limit q (schema columns d) t) (counted : length (nodes q) ≡ q.count) (fits : q.count ≤ node_limit) (k : ℕ) where
  abbrev At : Cols → ℕ → Term → Type 0
  At C n a = Here d q t checked.written C n a

  line : {C : Cols} {n : ℕ} {a : Term} → At C n a → line_at q (last n a) ≡ root a
  line h = (here_told d limit q t checked counted fits h).line

  pub passed_at_lem : {C : Cols} {s : ℕ} (a : Term) → At C s a → passed_at q k (last s a) ≡ passed (find_past k a)
  unfolding find_past size
  passed_at_lem {s = s} (table x) h = ap (line_passed q k (last s (table x))) (line h)
  passed_at_lem {s = s} (var x) h = ap (line_passed q k (last s (var x))) (line h)
  passed_at_lem {s = s} (fact c x) h = ap (line_passed q k (last s (fact c x))) (line h)
  passed_at_lem {s = s} (pair o a b) h = ap (line_passed q k (last s (pair o a b))) (line h)
  passed_at_lem {s = s} (filter f a) h =
      let e : right_of (last s (filter f a)) ≡ last s a = omega arith in
      ap (line_passed q k (last s (filter f a))) (line h)
      ∙ ap (under_passed k f) (ap (line_at q) e ∙ line (filter_down d q t checked.written h)) ∙ under_is k f a
  passed_at_lem {s = s} (copy c x a) h = ap (line_passed q k (last s (copy c x a))) (line h)
  passed_at_lem {s = s} (drop c a) h = ap (line_passed q k (last s (drop c a))) (line h)
  passed_at_lem {s = s} (latest c a) h = ap (line_passed q k (last s (latest c a))) (line h)
  passed_at_lem {s = s} (fix v a b) h = ap (line_passed q k (last s (fix v a b))) (line h)
  passed_at_lem {s = s} (mu v a) h = ap (line_passed q k (last s (mu v a))) (line h)
