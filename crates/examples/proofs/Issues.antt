-- The examples hold: sheets with a `last` print what is expected.
use mathlib.Core.Path.{◌≡◌, refl}
use mathlib.Core.List.{List, [], ◌∷◌, map}
use Rattle.laws.specs.Lists.{every, any, sift, all, lowest, tabulate}
use Rattle.algebra.specs.Columns.{with, without, both, pair_cols, cols, free, size, fixes, fix_numbers, pair_origin, origin, used}
use Rattle.algebra.specs.Split.{branches, united_from, split}
use Rattle.algebra.specs.Rules.{loop_of, over, over_both, pair_match, match, shared_stable, others_unused, stable_enough, unused_enough, closed_enough, rename, written}
use Rattle.relation.specs.Rows.{ordered, ascend, rows_of, entries}
use Rattle.relation.specs.Operators.{insert, insert_all, compatible, combined, join_rows, except_rows, outdone, last_rows}
use Rattle.database.specs.Stored.{table_start, table_ok, check_database}
use Rattle.query.specs.Lines.{check_form, lines, push, read, term_of}
use Rattle.query.specs.Check.{split_faults, split_term, unless, first_pass, second_pass, faults, check_query, check_over}
use Rattle.rewrite.specs.Rewrite.{around, rule, ended_at, rewrite}
use Rattle.plan.specs.Plan.{source, own_line, loop, path_lines, closed_lines, beside_lines, plan_lines}
use Rattle.machine.specs.Machine.{effect_of, step, go_on, run}
use Rattle.machine.specs.Run.{execute}
use Rattle.text.specs.Numbers.{bytes, value_from, number, digits_before, parts, read_all, comma_digits}
use Rattle.text.specs.Lines.{after, numbers_after, by_form, by_forms, node_line, ascending, filled, row_line, first_line, due, many}
use Rattle.text.specs.Texts.{read_nodes, read_rows, read_table, read_tables, read_database, rows_text, answer_text, refusal_text}
use Rattle.text.specs.Replies.{load_tables}
use Rattle.answering.specs.Answer.{apply_steps, answer, answer_bytes}
use Rattle.examples.specs.Texts.{Example}
use Rattle.examples.specs.Issues.{printed}

pub issues_hold : map (λ (e : Example). answer_bytes e.sheet e.book e.steps) printed ≡ map (λ (e : Example). e.printed) printed
unfolding every any sift all lowest tabulate with without both pair_cols cols free size fixes fix_numbers pair_origin origin used loop_of over over_both pair_match match shared_stable others_unused stable_enough unused_enough closed_enough rename written ordered ascend rows_of entries insert insert_all compatible combined join_rows except_rows outdone last_rows table_start table_ok check_database check_form lines push read term_of branches united_from split split_faults split_term unless first_pass second_pass faults check_query check_over filled around rule ended_at rewrite source own_line loop path_lines closed_lines beside_lines plan_lines effect_of step go_on run execute bytes value_from number digits_before parts read_all comma_digits after numbers_after by_form by_forms node_line ascending row_line first_line due many read_nodes read_rows read_table read_tables read_database rows_text answer_text refusal_text load_tables apply_steps answer mathlib.Core.List.flat_map
issues_hold = refl
