-- The theorems at Reach: their hypotheses can be met. `eq=0,1` stands over Reach as node 11. A first step of kind 1 at node 11, made at the desk, is
-- accepted, a second one, made at the panel, of kind 1 at the node of a table, is refused. The run of the held sheet at the panel's node limit finishes,
-- so its two rows are those of the first sheet's meaning.
use mathlib.Core.Path.{◌≡◌, refl}
use mathlib.Core.List.{List, [], ◌∷◌, ◌++◌}
use Prim.Native.Nat.{ℕ}
use lib.ListN.{replicate}
use Rattle.laws.specs.Lists.{every, any, sift, all, lowest, tabulate}
use Rattle.algebra.specs.Columns.{with, without, both, pair_cols, cols, free, size, fixes, fix_numbers, pair_origin, origin, used}
use Rattle.algebra.specs.Rules.{loop_of, over, over_both, pair_match, match, shared_stable, others_unused, stable_enough, unused_enough, closed_enough, rename, written}
use Rattle.algebra.specs.Split.{branches, united_from, split}
use Rattle.relation.specs.Rows.{ordered, ascend, rows_of, entries}
use Rattle.relation.specs.Operators.{insert, insert_all, compatible, combined, join_rows, except_rows}
use Rattle.database.specs.Stored.{table_start, table_ok, check_database}
use Rattle.query.specs.Lines.{check_form, lines, push, read, term_of}
use Rattle.query.specs.Check.{split_faults, split_term, unless, first_pass, second_pass, faults, check_query, check_over}
use Rattle.text.specs.Lines.{filled}
use Rattle.rewrite.specs.Rewrite.{around, rule, ended_at, rewrite}
use Rattle.plan.specs.Plan.{source, own_line, loop, path_lines, closed_lines, beside_lines, plan_lines}
use Rattle.machine.specs.Machine.{effect_of, step, go_on, run}
use Rattle.machine.specs.Run.{execute, begin, run_query}
use Rattle.algebra.specs.declared.Pairing.TheVariants.{Join}
use Rattle.algebra.specs.declared.Condition.TheVariants.{Eq}
use Rattle.algebra.specs.Term.{Term}
use Rattle.algebra.specs.Term as T
use Rattle.relation.specs.Rows.{columns, columns_of}
use Rattle.database.specs.declared.Database.{Database}
use Rattle.database.specs.Stored.{SameColumns}
use Rattle.database.specs.Refusals.{accepted}
use Rattle.query.specs.declared.Node.TheVariants.{Table, Filter}
use Rattle.query.specs.declared.Query.{Query}
use Rattle.query.specs.Lines.{node_limit}
use Rattle.text.specs.Texts.{query_value, database_value, table_entries}
use Rattle.rewrite.specs.Rewrite.{Step, held}
use Rattle.machine.specs.Limits.{panel_limits}
use Rattle.machine.specs.Run.{Answer}
use Rattle.engine.specs.Starred.{row, doors, reach, reach_step}
use Rattle.engine.specs.Demands.{Answers}
use Rattle.engine.proofs.RewritesInvisible.{OverColumns, rewrites_invisible}

abbrev query : Query
query = query_value (reach ++ (Filter (Eq 0 1) ∷ []))

abbrev book : Database
book = database_value columns doors

abbrev store : List ℕ
store = table_entries doors

abbrev term : Term
term =
    T.filter (Eq 0 1) (T.fix 1 (T.table 0)
    (T.drop 2 (T.pair Join (T.drop 1 (T.copy 1 2 (T.var 1))) (T.drop 0 (T.copy 0 2 (T.table 0))))))

abbrev steps : List Step
steps =
    record { limit = node_limit; database = book; store = store; kind = 1; node = 11 }
    ∷ (record { limit = panel_limits.nodes; database = book; store = store; kind = 1; node = 1 } ∷ [])

same_book : SameColumns columns book book
same_book = record { count = refl; columns = λ t h c. refl }

over_book : OverColumns columns book steps
over_book = (same_book, (same_book, tt))

checked : check_over columns node_limit query book store ≡ accepted term
unfolding every any sift all lowest tabulate with without both pair_cols cols free size fixes fix_numbers pair_origin origin used loop_of over over_both pair_match match shared_stable others_unused stable_enough unused_enough closed_enough rename written ordered ascend rows_of entries insert insert_all compatible combined join_rows except_rows table_start table_ok check_database check_form lines push read term_of branches united_from split split_faults split_term unless first_pass second_pass faults check_query check_over filled around rule ended_at rewrite source own_line loop path_lines closed_lines beside_lines plan_lines effect_of step go_on run execute begin run_query mathlib.Core.List.flat_map
checked = refl

-- the first step's sheet is held, for the second is refused
moved : held columns query steps ≡ query_value (Table 0 ∷ (Filter (Eq 0 1) ∷ reach_step))
unfolding every any sift all lowest tabulate with without both pair_cols cols free size fixes fix_numbers pair_origin origin used loop_of over over_both pair_match match shared_stable others_unused stable_enough unused_enough closed_enough rename written ordered ascend rows_of entries insert insert_all compatible combined join_rows except_rows table_start table_ok check_database check_form lines push read term_of branches united_from split split_faults split_term unless first_pass second_pass faults check_query check_over filled around rule ended_at rewrite source own_line loop path_lines closed_lines beside_lines plan_lines effect_of step go_on run execute begin run_query mathlib.Core.List.flat_map held
moved = refl

abbrev answer : Answer
answer = record { columns = columns_of columns (λ c. lib.Dec.ltb c 2); rows = row 1 2 ∷ (row 1 3 ∷ []); ran = 16 }

finishes : run_query columns panel_limits.nodes (held columns query steps) book store 24 1000000 (replicate 4000 7) (replicate 200 7) ≡ accepted answer
unfolding every any sift all lowest tabulate with without both pair_cols cols free size fixes fix_numbers pair_origin origin used loop_of over over_both pair_match match shared_stable others_unused stable_enough unused_enough closed_enough rename written ordered ascend rows_of entries insert insert_all compatible combined join_rows except_rows table_start table_ok check_database check_form lines push read term_of branches united_from split split_faults split_term unless first_pass second_pass faults check_query check_over filled around rule ended_at rewrite source own_line loop path_lines closed_lines beside_lines plan_lines effect_of step go_on run execute begin run_query mathlib.Core.List.flat_map held
finishes = refl

pub reach_answers : Answers columns book store query term answer
reach_answers =
    rewrites_invisible columns node_limit query book store term checked book store same_book steps over_book panel_limits.nodes 24 1000000 (replicate 4000 7) (replicate 200 7) answer
    finishes
