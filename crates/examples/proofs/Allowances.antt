-- The examples hold: the product is what is expected, and so is the number of lines that a run with it runs. At Reach and a row limit of 3 that is half of
-- the product, and there are sheets that come nearer, and to all of it.
use mathlib.Core.Path.{◌≡◌, refl}
use mathlib.Core.List.{map}
use Rattle.laws.specs.Lists.{every, any, sift, all, lowest, tabulate}
use Rattle.algebra.specs.Columns.{with, without, both, pair_cols, cols, free, size, fixes, fix_numbers}
use Rattle.algebra.specs.Split.{branches, united_from, split}
use Rattle.relation.specs.Rows.{ordered, ascend, rows_of, entries}
use Rattle.relation.specs.Operators.{insert, insert_all, compatible, combined, join_rows}
use Rattle.database.specs.Stored.{table_start, table_ok, check_database}
use Rattle.query.specs.Lines.{check_form, lines, push, read, term_of}
use Rattle.query.specs.Check.{split_faults, split_term, unless, first_pass, second_pass, faults, check_query, check_over}
use Rattle.text.specs.Lines.{filled}
use Rattle.plan.specs.Plan.{source, own_line, loop, path_lines, closed_lines, beside_lines, plan_lines}
use Rattle.machine.specs.Machine.{effect_of, step, go_on}
use Rattle.machine.specs.Run.{allowance}
use Rattle.examples.specs.Allowances.{Asking, tells, askings}

pub askings_hold : map tells askings ≡ map (λ (x : Asking). x.expected) askings
unfolding every any sift all lowest tabulate with without both pair_cols cols free size fixes fix_numbers ordered ascend rows_of entries insert insert_all compatible combined join_rows table_start table_ok check_database check_form lines push read term_of branches united_from split split_faults split_term unless first_pass second_pass faults check_query check_over filled source own_line loop path_lines closed_lines beside_lines plan_lines effect_of step go_on allowance mathlib.Core.List.flat_map
askings_hold = refl
