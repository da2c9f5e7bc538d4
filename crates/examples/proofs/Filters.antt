-- The examples hold: kinds 7 to 11 hand back what is expected, with the node limits given, and a list that brings one filter into two recursions, through
-- `rewrites_invisible`: its run finishes, so its rows are those of the FIRST sheet's meaning.
use mathlib.Core.Path.{◌≡◌, refl}
use mathlib.Core.List.{List, [], ◌∷◌, map}
use Prim.Native.Nat.{ℕ}
use lib.Dec.{ltb}
use lib.ListN.{replicate}
use Rattle.laws.specs.Lists.{every, any, sift, all, lowest, tabulate}
use Rattle.algebra.specs.declared.Pairing.TheVariants.{Union, Join}
use Rattle.algebra.specs.declared.Condition.TheVariants.{Eq}
use Rattle.algebra.specs.Term.{Term}
use Rattle.algebra.specs.Term as T
use Rattle.algebra.specs.Columns.{with, without, both, pair_cols, cols, free, size, fixes, fix_numbers, pair_origin, origin, used}
use Rattle.algebra.specs.Split.{branches, united_from, split}
use Rattle.algebra.specs.Rules.{loop_of, over, over_both, pair_match, match, shared_stable, others_unused, stable_enough, unused_enough, closed_enough, rename, written}
use Rattle.algebra.specs.Past.{past_pair, under_filter, find_past, adds_node, side_has, moved}
use Rattle.relation.specs.Rows.{columns, columns_of, ordered, ascend, rows_of, entries}
use Rattle.relation.specs.Operators.{insert, insert_all, compatible, combined, join_rows, except_rows, outdone, last_rows}
use Rattle.database.specs.Stored.{SameColumns, table_start, table_ok, check_database}
use Rattle.database.specs.Refusals.{accepted}
use Rattle.query.specs.declared.Query.{Query}
use Rattle.query.specs.Lines.{node_limit, check_form, lines, push, read, term_of}
use Rattle.query.specs.Check.{split_faults, split_term, unless, first_pass, second_pass, faults, check_query, check_over}
use Rattle.text.specs.Lines.{filled, after, numbers_after, by_form, by_forms, node_line, ascending, row_line, first_line, due, many}
use Rattle.text.specs.Texts.{query_value, read_nodes, read_rows, read_table, read_tables, read_database, rows_text, answer_text, refusal_text}
use Rattle.rewrite.specs.Rewrite.{around, rule, past_rule, ended_at, rewrite, held}
use Rattle.plan.specs.Plan.{source, own_line, loop, path_lines, closed_lines, beside_lines, plan_lines}
use Rattle.machine.specs.Limits.{panel_limits}
use Rattle.machine.specs.Machine.{effect_of, step, go_on, run}
use Rattle.machine.specs.Run.{Answer, execute, begin, run_query}
use Rattle.engine.specs.Starred.{row}
use Rattle.engine.specs.Demands.{Answers}
use Rattle.engine.proofs.RewritesInvisible.{OverColumns, rewrites_invisible}
use Rattle.text.specs.Numbers.{bytes, value_from, number, digits_before, parts, read_all, comma_digits}
use Rattle.text.specs.Replies.{load_tables}
use Rattle.answering.specs.Answer.{apply_steps, answer, answer_bytes}
use Rattle.examples.specs.Texts.{Example}
use Rattle.examples.specs.Values.{Rewriting, rewrites}
use Rattle.examples.specs.Filters.{passed, Limited, within, limited, printed, book, store, tour, in_both, steps}

pub passed_hold : map rewrites passed ≡ map (λ (x : Rewriting). x.expected) passed
unfolding every any sift all lowest tabulate with without both pair_cols cols free size fixes fix_numbers pair_origin origin used loop_of over over_both pair_match match shared_stable others_unused stable_enough unused_enough closed_enough rename written past_pair under_filter find_past adds_node side_has moved ordered ascend rows_of entries insert insert_all compatible combined join_rows except_rows table_start table_ok check_database check_form lines push read term_of branches united_from split split_faults split_term unless first_pass second_pass faults check_query check_over filled around rule past_rule ended_at rewrite source own_line loop path_lines closed_lines beside_lines plan_lines effect_of step go_on run execute begin run_query mathlib.Core.List.flat_map
passed_hold = refl

pub limited_hold : map within limited ≡ map (λ (x : Limited). x.rewriting.expected) limited
unfolding every any sift all lowest tabulate with without both pair_cols cols free size fixes fix_numbers pair_origin origin used loop_of over over_both pair_match match shared_stable others_unused stable_enough unused_enough closed_enough rename written past_pair under_filter find_past adds_node side_has moved ordered ascend rows_of entries insert insert_all compatible combined join_rows except_rows table_start table_ok check_database check_form lines push read term_of branches united_from split split_faults split_term unless first_pass second_pass faults check_query check_over filled around rule past_rule ended_at rewrite source own_line loop path_lines closed_lines beside_lines plan_lines effect_of step go_on run execute begin run_query mathlib.Core.List.flat_map
limited_hold = refl

pub filters_hold : map (λ (e : Example). answer_bytes e.sheet e.book e.steps) printed ≡ map (λ (e : Example). e.printed) printed
unfolding every any sift all lowest tabulate with without both pair_cols cols free size fixes fix_numbers pair_origin origin used loop_of over over_both pair_match match shared_stable others_unused stable_enough unused_enough closed_enough rename written past_pair under_filter find_past adds_node side_has moved ordered ascend rows_of entries insert insert_all compatible combined join_rows except_rows outdone last_rows table_start table_ok check_database check_form lines push read term_of branches united_from split split_faults split_term unless first_pass second_pass faults check_query check_over filled around rule past_rule ended_at rewrite source own_line loop path_lines closed_lines beside_lines plan_lines effect_of step go_on run execute bytes value_from number digits_before parts read_all comma_digits after numbers_after by_form by_forms node_line ascending row_line first_line due many read_nodes read_rows read_table read_tables read_database rows_text answer_text refusal_text load_tables apply_steps answer mathlib.Core.List.flat_map
filters_hold = refl

abbrev reached : ℕ → Term
reached v = T.fix v (T.table 0) (T.drop 2 (T.pair Join (T.drop 1 (T.copy 1 2 (T.var v))) (T.drop 0 (T.copy 0 2 (T.table 0)))))

abbrev term : Term
term = T.filter (Eq 0 1) (T.pair Union (T.pair Join (reached 1) (T.drop 1 (T.table 0))) (reached 2))

abbrev query : Query
query = query_value tour

same_book : SameColumns columns book book
same_book = record { count = refl; columns = λ t h c. refl }

over_book : OverColumns columns book steps
over_book = (same_book, (same_book, (same_book, (same_book, (same_book, tt)))))

checked : check_over columns node_limit query book store ≡ accepted term
unfolding every any sift all lowest tabulate with without both pair_cols cols free size fixes fix_numbers pair_origin origin used loop_of over over_both pair_match match shared_stable others_unused stable_enough unused_enough closed_enough rename written past_pair under_filter find_past adds_node side_has moved ordered ascend rows_of entries insert insert_all compatible combined join_rows except_rows table_start table_ok check_database check_form lines push read term_of branches united_from split split_faults split_term unless first_pass second_pass faults check_query check_over filled around rule past_rule ended_at rewrite source own_line loop path_lines closed_lines beside_lines plan_lines effect_of step go_on run execute begin run_query mathlib.Core.List.flat_map
checked = refl

-- 7, 8, 1 and 1 are accepted
pub brought : held columns query steps ≡ query_value in_both
unfolding every any sift all lowest tabulate with without both pair_cols cols free size fixes fix_numbers pair_origin origin used loop_of over over_both pair_match match shared_stable others_unused stable_enough unused_enough closed_enough rename written past_pair under_filter find_past adds_node side_has moved ordered ascend rows_of entries insert insert_all compatible combined join_rows except_rows table_start table_ok check_database check_form lines push read term_of branches united_from split split_faults split_term unless first_pass second_pass faults check_query check_over filled around rule past_rule ended_at rewrite source own_line loop path_lines closed_lines beside_lines plan_lines effect_of step go_on run execute begin run_query mathlib.Core.List.flat_map held
brought = refl

abbrev expected : Answer
expected = record { columns = columns_of columns (λ c. ltb c 2); rows = row 1 2 ∷ (row 1 3 ∷ []); ran = 36 }

finishes : run_query columns panel_limits.nodes (held columns query steps) book store 24 1000000 (replicate 6000 7) (replicate 200 7) ≡ accepted expected
unfolding every any sift all lowest tabulate with without both pair_cols cols free size fixes fix_numbers pair_origin origin used loop_of over over_both pair_match match shared_stable others_unused stable_enough unused_enough closed_enough rename written past_pair under_filter find_past adds_node side_has moved ordered ascend rows_of entries insert insert_all compatible combined join_rows except_rows table_start table_ok check_database check_form lines push read term_of branches united_from split split_faults split_term unless first_pass second_pass faults check_query check_over filled around rule past_rule ended_at rewrite source own_line loop path_lines closed_lines beside_lines plan_lines effect_of step go_on run execute begin run_query mathlib.Core.List.flat_map held
finishes = refl

pub tour_answers : Answers columns book store query term expected
tour_answers =
    rewrites_invisible columns node_limit query book store term checked book store same_book steps over_book panel_limits.nodes 24 1000000 (replicate 6000 7) (replicate 200 7) expected
    finishes
