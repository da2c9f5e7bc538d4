-- One workspace serves every sheet of the panel, and no shorter one does.
use mathlib.Core.Path.{◌≡◌, refl}
use mathlib.Core.Bool.{false}
use mathlib.Core.List.{List, []}
use Prim.Native.Nat.{ℕ, zero, suc, ◌<◌, ◌≤◌}
use lib.Dec.{leb}
use lib.ListN.{length}
use borrow.Author.Tests.{lt-leb}
use Rattle.laws.specs.Lists.{every, any, sift, all, lowest}
use Rattle.algebra.specs.Term.{Term}
use Rattle.algebra.specs.Term as T
use Rattle.algebra.specs.Columns.{with, cols, free, size, fix_numbers, fixes}
use Rattle.algebra.specs.Split.{split}
use Rattle.algebra.specs.declared.Condition.TheVariants.{Eq}
use Rattle.relation.specs.Rows.{columns}
use Rattle.database.specs.declared.Database.{Database}
use Rattle.database.specs.declared.Refusal.TheVariants.{ShortSlice}
use Rattle.database.specs.Stored.{check_database}
use Rattle.database.specs.Refusals.{refused, accepted}
use Rattle.query.specs.declared.Query.{Query}
use Rattle.query.specs.Lines.{check_form, lines, push, read, term_of}
use Rattle.query.specs.Check.{split_faults, split_term, unless, first_pass, second_pass, faults, check_query, check_over}
use Rattle.text.specs.Texts.{query_value, database_value}
use Rattle.machine.specs.Limits.{panel_limits, most_fixes, enough_space}
use Rattle.machine.specs.Run.{space_for, begin}
use Rattle.machine.proofs.Enough.{enough_begins}

-- a run whose workspace is no shorter begins exactly if the sheet is checked: neither 16 nor 17 comes before its first line
pub panel_begins : (q : Query) (d : Database) (store : List ℕ) (budget : ℕ) (workspace : List ℕ) → enough_space columns panel_limits ≤ length workspace
    → begin columns panel_limits.nodes q d store panel_limits.rows budget workspace ≡ check_over columns panel_limits.nodes q d store
panel_begins = enough_begins columns panel_limits refl

-- the worst sheet: as many fixes as there can be, each over the one before, its step the variable alone
unfoldable pub deep : ℕ → Term
deep zero = T.fact 0 0
deep (suc n) = T.fix n (deep n) (T.var n)

abbrev pub deepest : Term
deepest = T.filter (Eq 0 0) (deep (most_fixes panel_limits.nodes))

abbrev pub deep_sheet : Query
deep_sheet = query_value (lines deepest)

abbrev pub no_tables : Database
no_tables = database_value columns []

deep_checked : check_over columns panel_limits.nodes deep_sheet no_tables [] ≡ accepted deepest
unfolding every any sift all lowest with cols free size fix_numbers fixes split split_faults split_term unless first_pass second_pass faults deep check_database lines push read term_of check_form check_query check_over
deep_checked = refl

-- no shorter one does: the worst sheet then gets 17
pub panel_least : (budget : ℕ) (workspace : List ℕ) → length workspace < enough_space columns panel_limits
    → begin columns panel_limits.nodes deep_sheet no_tables [] panel_limits.rows budget workspace ≡ refused ShortSlice
unfolding begin size fix_numbers fixes deep
panel_least budget workspace h =
    let short : leb (space_for columns panel_limits.rows deepest) (length workspace) ≡ false =
    lt-leb (space_for columns panel_limits.rows deepest) (length workspace) h in
    rw (deep_checked, short)

-- in numbers
pub panel_entries : enough_space columns panel_limits ≡ 24111
panel_entries = refl
