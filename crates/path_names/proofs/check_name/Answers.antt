-- `check_name` makes both tests: the first refusal is the name's.
use mathlib.Core.Path.{◌≡◌, ap, ap₂, sym, ◌∙◌}
use mathlib.Core.Bool.{Bool}
use mathlib.Core.List.{List, ◌++◌, append-nil}
use native.Mathlib.Omega.{arith}
use Prim.Native.Nat.{ℕ}
use lib.Dec.{ltb}
use Rattle.std.proofs.Common.{rules, Err}
use Rattle.algebra.specs.Columns.{Cols, Schema}
use Rattle.relation.specs.declared.Columns.{Columns}
use Rattle.relation.specs.Rows.{columns, cols_of}
use Rattle.relation.proofs.ColumnsRound.{columns_round}
use Rattle.database.specs.declared.Refusal.{Refusal}
use Rattle.database.specs.declared.Refusal.TheVariants.{ColumnFault, NoTable}
use Rattle.database.specs.Refusals.{Verdict, verdict, no_fault}
use Rattle.database.specs.Stored.{schema}
use Rattle.database.proofs.Stored.{table_below}
use Rattle.query.specs.Check.{unless, same_cols}
use Rattle.query.specs.Passes.{first_of}
use Rattle.query.proofs.PassLoops.{first_of_faults}
use Rattle.paths.specs.Sheets.{ends, name_faults}
use Rattle.paths.proofs.LinkTables.{ends_below}
use Rattle.path_names.specs.Names.{name_verdict}
use Rattle.path_names.proofs.check_name.Goals as goal

-- a test's verdict
abbrev tested : Refusal → Bool → Verdict
tested r b = verdict (no_fault (unless b r))

abbrev linked : Schema → ℕ → Bool
linked G t = same_cols G.width (G.columns t) ends

-- both tests
both : (G : Schema) (t : ℕ) → first_of (tested (NoTable 0) (ltb t G.tables)) (tested (ColumnFault 0) (linked G t)) ≡ name_verdict G t
unfolding name_faults
both G t =
    let known : List Refusal = unless (ltb t G.tables) (NoTable 0) in
    let faults : List Refusal = unless (linked G t) (ColumnFault 0) in
    first_of_faults known faults ∙ ap (λ (l : List Refusal). verdict (no_fault (known ++ l))) (sym (append-nil faults))

pub returns-in_err-accept_if : goal.returns-in_err-accept_if
returns-in_err-accept_if c =
    let G = schema columns c.args.database in
    let told : c.from_residual.result ≡ Err c.in_err-accept_if.field-0.0 = search rules in
    told ∙ ap (λ (v : Verdict). first_of v (tested (ColumnFault 0) (linked G c.args.t))) (sym c.in_err-accept_if.was ∙ c.accept_if.ensures) ∙ both G c.args.t

pub returns : goal.returns
returns c =
    let G = schema columns c.args.database in
    -- the table's columns are those of the schema
    let same : c.same_columns-linked.result ≡ linked G c.args.t =
    c.same_columns-linked.ensures
    ∙ ap₂ (λ (s t : Columns). same_cols columns (cols_of columns s) (cols_of columns t)) c.table_columns.ensures c.end_columns.ensures
    ∙ ap₂ (λ (D E : Cols). same_cols columns D E) (columns_round columns _ (table_below columns c.args.database c.args.t)) (columns_round columns ends (ends_below columns (omega arith))) in
    c.accept_if-2.ensures ∙ ap (tested (ColumnFault 0)) same
    ∙ ap (λ (v : Verdict). first_of v (tested (ColumnFault 0) (linked G c.args.t))) (sym c.in_ok-accept_if.was ∙ c.accept_if.ensures) ∙ both G c.args.t
