-- The examples hold: what the definitions reply to values is what is expected.
use mathlib.Core.Path.{◌≡◌, refl}
use mathlib.Core.List.{List, [], ◌∷◌, map}
use Rattle.laws.specs.Lists.{every, any, sift, all, lowest, tabulate}
use Rattle.algebra.specs.Columns.{with, without, both, pair_cols, cols, free, size, fixes, fix_numbers, pair_origin, origin, used}
use Rattle.algebra.specs.Split.{branches, united_from, split}
use Rattle.algebra.specs.Rules.{loop_of, over, over_both, pair_match, match, shared_stable, others_unused, stable_enough, unused_enough, closed_enough, rename, written}
use Rattle.relation.specs.Rows.{ordered, ascend, rows_of, entries}
use Rattle.relation.specs.Operators.{insert, insert_all, compatible, combined, join_rows, except_rows}
use Rattle.database.specs.Stored.{table_start, table_ok, check_database}
use Rattle.query.specs.Lines.{check_form, lines, push, read, term_of}
use Rattle.query.specs.Check.{split_faults, split_term, unless, first_pass, second_pass, faults, check_query, check_over}
use Rattle.text.specs.Lines.{filled}
use Rattle.rewrite.specs.Rewrite.{around, rule, ended_at, rewrite}
use Rattle.plan.specs.Plan.{source, own_line, loop, path_lines, closed_lines, beside_lines, plan_lines}
use Rattle.machine.specs.Machine.{effect_of, step, go_on, run}
use Rattle.machine.specs.Run.{execute, begin, run_query}
use Rattle.examples.specs.Values.{Rewriting, rewrites, rewritings, Expected, runs, runnings}

pub rewritings_hold : map rewrites rewritings ≡ map (λ (x : Rewriting). x.expected) rewritings
unfolding every any sift all lowest tabulate with without both pair_cols cols free size fixes fix_numbers pair_origin origin used loop_of over over_both pair_match match shared_stable others_unused stable_enough unused_enough closed_enough rename written ordered ascend rows_of entries insert insert_all compatible combined join_rows except_rows table_start table_ok check_database check_form lines push read term_of branches united_from split split_faults split_term unless first_pass second_pass faults check_query check_over filled around rule ended_at rewrite source own_line loop path_lines closed_lines beside_lines plan_lines effect_of step go_on run execute begin run_query mathlib.Core.List.flat_map
rewritings_hold = refl

pub runnings_hold : map (λ (x : Expected). runs x.running) runnings ≡ map (λ (x : Expected). x.ending) runnings
unfolding every any sift all lowest tabulate with without both pair_cols cols free size fixes fix_numbers pair_origin origin used loop_of over over_both pair_match match shared_stable others_unused stable_enough unused_enough closed_enough rename written ordered ascend rows_of entries insert insert_all compatible combined join_rows except_rows table_start table_ok check_database check_form lines push read term_of branches united_from split split_faults split_term unless first_pass second_pass faults check_query check_over filled around rule ended_at rewrite source own_line loop path_lines closed_lines beside_lines plan_lines effect_of step go_on run execute begin run_query mathlib.Core.List.flat_map
runnings_hold = refl
