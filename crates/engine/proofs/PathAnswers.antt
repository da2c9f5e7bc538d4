-- Demand 2 at a path: whatever the row limit, the budget and the lent slices, a finished run of a path's sheet over its book has the columns 0 and 1,
-- and its rows are exactly the pairs that the path links.
use mathlib.Core.Path.{◌≡◌, ap, ◌∙◌, subst}
use mathlib.Core.List.{List}
use Prim.Native.Nat.{ℕ, ◌≤◌}
use Rattle.algebra.specs.Columns.{Cols}
use Rattle.relation.specs.Rows.{columns_of}
use Rattle.relation.specs.Shows.{Shows}
use Rattle.relation.proofs.Operators.{shows_map}
use Rattle.database.specs.declared.Database.{Database}
use Rattle.database.specs.Stored.{tables}
use Rattle.database.specs.Refusals.{accepted}
use Rattle.query.specs.declared.Node.{Node}
use Rattle.query.specs.Lines.{node_limit}
use Rattle.query.specs.Check.{sheet_meaning}
use Rattle.text.specs.Texts.{query_value}
use Rattle.machine.specs.Run.{Answer, run_query}
use Rattle.paths.specs.Grammar.{PropertyPath, PathText}
use Rattle.paths.specs.Links.{Links, pairs}
use Rattle.paths.specs.Sheets.{ends, path_nodes}
use Rattle.paths.proofs.PathSheet.{path_sheet, path_links}
use Rattle.engine.proofs.RunIsMeaning.{run_is_meaning}

module _ (w limit : ℕ) (roomy : 3 ≤ w) (desk : limit ≤ node_limit) (text : List ℕ) (d : Database) (store : List ℕ) (L budget : ℕ) (workspace answer : List ℕ) where
  pub path_answers : (ns : List Node) → path_nodes w limit text d store ≡ accepted ns → (p : PropertyPath) → PathText text p
      → (a : Answer) → run_query w limit (query_value ns) d store L budget workspace answer ≡ accepted a
      → (a.columns ≡ columns_of w ends) × Shows w ends a.rows (pairs (Links (tables w d store) p))
  path_answers ns read p is a e =
      let (_, _, s) = path_sheet w limit d store roomy desk text ns read in
      let m = run_is_meaning w limit (query_value ns) d store L budget workspace answer s.term s.checked a e in
      let shown = subst (λ (D : Cols). Shows w D a.rows (sheet_meaning w d store (query_value ns))) s.columns m.rows in
      (m.columns ∙ ap (columns_of w) s.columns, shows_map (path_links w limit d store roomy desk text ns read p is) shown)
