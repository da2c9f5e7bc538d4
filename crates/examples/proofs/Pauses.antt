-- The examples hold: Reach, broken off before each of its lines and gone on with, answers as in one part; a pause that was changed is refused with 23, or
-- goes on from the state that it tells.
use mathlib.Core.Path.{◌≡◌, refl}
use mathlib.Core.List.{map}
use Rattle.laws.specs.Lists.{every, any, sift, all, lowest, tabulate}
use Rattle.algebra.specs.Columns.{with, without, both, pair_cols, cols, free, size, fixes, fix_numbers}
use Rattle.algebra.specs.Split.{branches, united_from, split}
use Rattle.relation.specs.Rows.{ordered, ascend, rows_of, entries}
use Rattle.relation.specs.Operators.{insert, insert_all, compatible, combined, join_rows}
use Rattle.relation.specs.Registers.{encode, workspace_of}
use Rattle.database.specs.Stored.{table_start, table_ok, check_database}
use Rattle.query.specs.Lines.{check_form, lines, push, read, term_of}
use Rattle.query.specs.Check.{split_faults, split_term, unless, first_pass, second_pass, faults, check_query, check_over}
use Rattle.query.specs.Facts.{visits}
use Rattle.text.specs.Lines.{filled}
use Rattle.plan.specs.Plan.{source, own_line, loop, path_lines, closed_lines, beside_lines, plan_lines}
use Rattle.machine.specs.Machine.{effect_of, step, go_on}
use Rattle.machine.specs.Run.{begin}
use Rattle.machine.specs.Pauses.{held_in, node_columns, delta_columns, register_columns, same_entries, pause_ok, proceed, begin_run, begin_again, resume, resume_each}
use Rattle.examples.specs.Pauses.{Session, tells, sessions}

pub sessions_hold : map tells sessions ≡ map (λ (x : Session). x.expected) sessions
unfolding every any sift all lowest tabulate with without both pair_cols cols free size fixes fix_numbers ordered ascend rows_of entries insert insert_all compatible combined join_rows encode workspace_of table_start table_ok check_database check_form lines push read term_of branches united_from split split_faults split_term unless first_pass second_pass faults check_query check_over visits filled source own_line loop path_lines closed_lines beside_lines plan_lines effect_of step go_on begin held_in node_columns delta_columns register_columns same_entries pause_ok proceed begin_run begin_again resume resume_each mathlib.Core.List.flat_map
sessions_hold = refl
