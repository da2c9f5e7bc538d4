-- The examples hold: what the definitions give at the limits of desk and panel is what is expected.
use mathlib.Core.Path.{◌≡◌, refl}
use mathlib.Core.List.{List, [], ◌∷◌, map}
use Prim.Native.Nat.{ℕ}
use Rattle.laws.specs.Lists.{every, any, sift, all, lowest, tabulate}
use Rattle.algebra.specs.Columns.{with, without, both, pair_cols, cols, free, size, fixes, fix_numbers}
use Rattle.algebra.specs.Split.{branches, united_from, split}
use Rattle.relation.specs.Rows.{ordered, ascend, rows_of, entries}
use Rattle.relation.specs.Operators.{insert, insert_all}
use Rattle.database.specs.Stored.{table_start, table_ok, check_database}
use Rattle.query.specs.Lines.{check_form, lines, push, read, term_of}
use Rattle.query.specs.Check.{split_faults, split_term, unless, first_pass, second_pass, faults, check_query, check_over}
use Rattle.plan.specs.Plan.{source, own_line, loop, path_lines, closed_lines, beside_lines, plan_lines}
use Rattle.machine.specs.Limits.{Limits, desk_limits, panel_limits}
use Rattle.machine.specs.Machine.{effect_of, step, go_on, run}
use Rattle.machine.specs.Run.{execute, begin, run_query}
use Rattle.text.specs.Numbers.{bytes, value_from, number, digits_before, parts, read_all, comma_digits}
use Rattle.text.specs.Lines.{after, numbers_after, by_form, by_forms, node_line, ascending, filled, row_line, first_line, due, many}
use Rattle.text.specs.Texts.{read_nodes, read_rows, read_table, read_tables, read_database, rows_text, answer_text, refusal_text}
use Rattle.examples.specs.Panel.{Places, prints_at, places, Counted, checks_at, counts}

abbrev printed : Limits → Places → List ℕ
printed l e = prints_at l e.sheet e.book

pub desk_prints : map (printed (desk_limits 65)) places ≡ map (λ (e : Places). e.desk) places
unfolding every any sift all lowest tabulate with without both pair_cols cols free size fixes fix_numbers ordered ascend rows_of entries insert insert_all table_start table_ok check_database check_form lines push read term_of branches united_from split split_faults split_term unless first_pass second_pass faults check_query check_over filled source own_line loop path_lines closed_lines beside_lines plan_lines effect_of step go_on run execute begin run_query bytes value_from number digits_before parts read_all comma_digits after numbers_after by_form by_forms node_line ascending row_line first_line due many read_nodes read_rows read_table read_tables read_database rows_text answer_text refusal_text mathlib.Core.List.flat_map
desk_prints = refl

pub panel_prints : map (printed panel_limits) places ≡ map (λ (e : Places). e.panel) places
unfolding every any sift all lowest tabulate with without both pair_cols cols free size fixes fix_numbers ordered ascend rows_of entries insert insert_all table_start table_ok check_database check_form lines push read term_of branches united_from split split_faults split_term unless first_pass second_pass faults check_query check_over filled source own_line loop path_lines closed_lines beside_lines plan_lines effect_of step go_on run execute begin run_query bytes value_from number digits_before parts read_all comma_digits after numbers_after by_form by_forms node_line ascending row_line first_line due many read_nodes read_rows read_table read_tables read_database rows_text answer_text refusal_text mathlib.Core.List.flat_map
panel_prints = refl

pub desk_checks : map (λ (c : Counted). checks_at (desk_limits 1) c.count) counts ≡ map (λ (c : Counted). c.desk) counts
unfolding every any sift all lowest tabulate table_start table_ok check_database check_form push read term_of branches united_from split split_faults split_term unless first_pass second_pass faults check_query check_over
desk_checks = refl

pub panel_checks : map (λ (c : Counted). checks_at panel_limits c.count) counts ≡ map (λ (c : Counted). c.panel) counts
unfolding every any sift all lowest tabulate table_start table_ok check_database check_form push read term_of branches united_from split split_faults split_term unless first_pass second_pass faults check_query check_over
panel_checks = refl
