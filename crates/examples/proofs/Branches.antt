-- The examples of two editors hold: the hypotheses of `steps_commute` can be met, and without them it fails.
use mathlib.Core.Path.{◌≡◌, refl, ap, sym, ◌∙◌}
use Rattle.std.specs.Prelude.{Some}
use mathlib.Core.List.{[], ◌∷◌, map}
use Prim.Native.Nat.{ℕ, ◌≤◌}
use native.Mathlib.Omega.{arith}
use Rattle.laws.specs.Lists.{every, any, sift, all, lowest, tabulate}
use Rattle.laws.proofs.Options.{some_inj}
use Rattle.algebra.specs.declared.Pairing.TheVariants.{Join}
use Rattle.algebra.specs.declared.Condition.TheVariants.{Eq}
use Rattle.algebra.specs.Term.{Term}
use Rattle.algebra.specs.Term as T
use Rattle.algebra.specs.Columns.{with, without, both, pair_cols, cols, free, size, fixes, fix_numbers, pair_origin, origin, used}
use Rattle.algebra.specs.Split.{branches, united_from, split}
use Rattle.algebra.specs.Rules.{loop_of, over, over_both, pair_match, match, shared_stable, others_unused, stable_enough, unused_enough, closed_enough, rename, written}
use Rattle.relation.specs.Rows.{columns, ordered, ascend, rows_of, entries}
use Rattle.database.specs.Stored.{table_start, table_ok, check_database}
use Rattle.database.proofs.Verdicts.{accepted_not_refused}
use Rattle.query.specs.declared.Node.TheVariants.{Filter}
use Rattle.query.specs.declared.Query.{Query}
use Rattle.query.specs.Lines.{node_limit, check_form, lines, push, read, term_of}
use Rattle.query.specs.Check.{split_faults, split_term, unless, first_pass, second_pass, faults, check_query, check_over}
use Rattle.text.specs.Lines.{filled}
use Rattle.text.specs.Texts.{query_value}
use Rattle.rewrite.specs.Rewrite.{around, rule, ended_at, rewrite, held}
use Rattle.branches.specs.Branches.{split_lines, Under, Apart, Given, Commute, OnBranch, nothing, from_first, from_second}
use Rattle.branches.proofs.StepsCommute.{steps_commute}
use Rattle.branches.proofs.Interleavings.{interleavings_agree}
use Rattle.machine.specs.Limits.{panel_limits}
use Rattle.examples.specs.Branches.{book, store, made, Turns, orders, turns, nested, halves, filters, only_desk}

pub turns_hold : map orders turns ≡ map (λ (x : Turns). x.expected) turns
unfolding every any sift all lowest tabulate with without both pair_cols cols free size fixes fix_numbers pair_origin origin used branches united_from split loop_of over over_both pair_match match shared_stable others_unused stable_enough unused_enough closed_enough rename written ordered ascend rows_of entries table_start table_ok check_database check_form lines push read term_of split_faults split_term unless first_pass second_pass faults check_query check_over filled around rule ended_at rewrite mathlib.Core.List.flat_map
turns_hold = refl

pub nested_hold : map orders nested ≡ map (λ (x : Turns). x.expected) nested
unfolding every any sift all lowest tabulate with without both pair_cols cols free size fixes fix_numbers pair_origin origin used branches united_from split loop_of over over_both pair_match match shared_stable others_unused stable_enough unused_enough closed_enough rename written ordered ascend rows_of entries table_start table_ok check_database check_form lines push read term_of split_faults split_term unless first_pass second_pass faults check_query check_over filled around rule ended_at rewrite mathlib.Core.List.flat_map
nested_hold = refl

-- a filter over each half
abbrev query : Query
query = query_value (halves (Filter (Eq 0 1)) (Filter (Eq 0 1)))

-- the right half
abbrev right : Term
right =
    T.filter (Eq 0 1) (T.fix 2 (T.table 1) (T.drop 2 (T.pair Join (T.drop 3 (T.copy 3 2 (T.var 2))) (T.drop 0 (T.copy 0 2 (T.table 1))))))

right_ends : ended_at (split_lines query) 22 ≡ Some right
unfolding every any size free branches united_from split lines push read term_of split_faults split_term unless ended_at mathlib.Core.List.flat_map
right_ends = refl

right_size : size right ≡ 11
unfolding size
right_size = refl

pub halves_apart : Apart query 11 22
halves_apart = record {
  different = λ e. absurd (omega arith);
  not_under = λ u.
      let i : size u.among.node ≡ 11 = ap size (some_inj (sym u.among.ends ∙ right_ends)) ∙ right_size in
      let h = u.among.from in
      omega arith;
  not_over = λ u. let h = u.among.to in omega arith;
}

-- the sheet is taken with this limit, as it is at the desk
given : (limit : ℕ) (s : ℕ × ℕ) → 23 ≤ limit → Given node_limit book store query (made limit s)
given limit s h = record { same_database = refl; same_store = refl; taken = ((λ _. omega arith), (λ _. h)) }

-- one step at the desk, the other at the panel
pub halves_commute : Commute columns query (made node_limit (1, 11)) (made panel_limits.nodes (1, 22))
halves_commute =
    steps_commute columns node_limit book store query (made node_limit (1, 11)) (made panel_limits.nodes (1, 22))
    (given node_limit (1, 11) (omega arith)) (given panel_limits.nodes (1, 22) (omega arith)) (omega arith) (omega arith) halves_apart

-- the left half
abbrev left : Term
left =
    T.filter (Eq 0 1) (T.fix 1 (T.table 0) (T.drop 2 (T.pair Join (T.drop 1 (T.copy 1 2 (T.var 1))) (T.drop 0 (T.copy 0 2 (T.table 0))))))

left_ends : ended_at (split_lines query) 11 ≡ Some left
unfolding every any size free branches united_from split lines push read term_of split_faults split_term unless ended_at mathlib.Core.List.flat_map
left_ends = refl

left_size : size left ≡ 11
unfolding size
left_size = refl

on_left : (n : ℕ) → 1 ≤ n → n ≤ 11 → OnBranch query 11 (made node_limit (1, n))
on_left n h k = record { kind = omega arith; node = record { node = left; ends = left_ends; from = omega (arith, left_size); to = k } }

-- on the left a step under the half's node and one at it, on the right one: the right editor's step between the others, or behind them
pub halves_interleave : held columns query (made node_limit (1, 10) ∷ made panel_limits.nodes (1, 22) ∷ made node_limit (1, 11) ∷ [])
    ≡ held columns query (made node_limit (1, 10) ∷ made node_limit (1, 11) ∷ made panel_limits.nodes (1, 22) ∷ [])
halves_interleave =
    interleavings_agree columns node_limit book store query 11 22 halves_apart
    (made node_limit (1, 10) ∷ made node_limit (1, 11) ∷ []) (made panel_limits.nodes (1, 22) ∷ [])
    ((given node_limit (1, 10) (omega arith), on_left 10 (omega arith) (omega arith)), ((given node_limit (1, 11) (omega arith), on_left 11 (omega arith) (omega arith)), tt))
    ((given panel_limits.nodes (1, 22) (omega arith), record { kind = omega arith; node = record { node = right; ends = right_ends; from = omega (arith, right_size); to = omega arith } }), tt)
    _ _ (from_first (from_second (from_first nothing))) (from_first (from_first (from_second nothing)))

-- one filter over the other
abbrev two_filters : Query
two_filters = query_value filters

abbrev upper : Term
upper =
    T.filter (Eq 0 2) (T.filter (Eq 0 1) (T.fix 1 (T.table 0) (T.drop 2 (T.pair Join (T.drop 1 (T.copy 1 2 (T.var 1))) (T.drop 0 (T.copy 0 2 (T.table 0)))))))

upper_ends : ended_at (split_lines two_filters) 12 ≡ Some upper
unfolding every any size free branches united_from split lines push read term_of split_faults split_term unless ended_at mathlib.Core.List.flat_map
upper_ends = refl

upper_size : size upper ≡ 12
unfolding size
upper_size = refl

pub filters_under : Under two_filters 11 12
filters_under = record {
  other = λ e. absurd (omega arith);
  among = record { node = upper; ends = upper_ends; from = omega (arith, upper_size); to = omega arith };
}

pub filters_fail : Commute columns two_filters (made node_limit (1, 11)) (made node_limit (1, 12)) → ⊥
unfolding every any sift all lowest tabulate with without both pair_cols cols free size fixes fix_numbers pair_origin origin used branches united_from split loop_of over over_both pair_match match shared_stable others_unused stable_enough unused_enough closed_enough rename written ordered ascend rows_of entries table_start table_ok check_database check_form lines push read term_of split_faults split_term unless first_pass second_pass faults check_query check_over filled around rule ended_at rewrite mathlib.Core.List.flat_map
filters_fail c = accepted_not_refused c.second_after_lem

-- a sheet that the desk takes and the panel does not
pub limits_fail : Commute columns (query_value only_desk) (made node_limit (1, 11)) (made panel_limits.nodes (1, 22)) → ⊥
unfolding every any sift all lowest tabulate with without both pair_cols cols free size fixes fix_numbers pair_origin origin used branches united_from split loop_of over over_both pair_match match shared_stable others_unused stable_enough unused_enough closed_enough rename written ordered ascend rows_of entries table_start table_ok check_database check_form lines push read term_of split_faults split_term unless first_pass second_pass faults check_query check_over filled around rule ended_at rewrite mathlib.Core.List.flat_map
limits_fail c = accepted_not_refused c.second_after_lem
