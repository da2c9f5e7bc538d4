-- Demand 3. A sheet checked over some book; any list of steps, kinds and nodes any numbers, refused ones included, each over any stored book with
-- the first book's columns, each made with a node limit of its own (desk or panel) and each given the sheet that the one before handed back; a final
-- stored book with those columns; any node limit, row limit and budget and any slices: if the run of the held sheet finishes, its columns and rows are
-- those of the FIRST sheet's meaning, as typed, over that book.
use mathlib.Core.Path.{◌≡◌, ap, sym, ◌∙◌, subst}
use mathlib.Core.List.{List}
use Prim.Native.Nat.{ℕ, ◌≤◌}
use native.Mathlib.Omega.{arith}
use Rattle.laws.proofs.EachMember.{Each, each_map}
use Rattle.algebra.specs.Term.{Term}
use Rattle.algebra.specs.Columns.{Cols, Schema, no_cols, cols}
use Rattle.algebra.specs.WellFormed.{Closed}
use Rattle.algebra.proofs.Swap.{swap_refl}
use Rattle.relation.specs.Rows.{columns_of}
use Rattle.relation.specs.Shows.{Shows}
use Rattle.relation.proofs.Operators.{shows_map}
use Rattle.relation.proofs.RowsUnique.{shows_unique}
use Rattle.database.specs.declared.Database.{Database}
use Rattle.database.specs.Stored.{schema, tables, SameColumns, check_database}
use Rattle.database.specs.Refusals.{accepted}
use Rattle.database.proofs.Stored.{typed_tables}
use Rattle.database.proofs.Columns.{same_schema}
use Rattle.query.specs.declared.Query.{Query}
use Rattle.query.specs.Check.{check_over, sheet_meaning}
use Rattle.query.proofs.CheckedOver.{check_over_iff}
use Rattle.query.proofs.NodeLimits.{checked_within}
use Rattle.query.proofs.SplitMeans.{checked_means}
use Rattle.rewrite.specs.Rewrite.{Step, held}
use Rattle.rewrite.proofs.Held.{Kept, kept_all}
use Rattle.machine.specs.Run.{Answer, run_query}
use Rattle.run.proofs.Meaning.{executed}
use Rattle.engine.proofs.RunIsMeaning.{run_is_meaning}
use Rattle.engine.specs.Demands.{Answers}

-- each step's book has the columns of the book d
abbrev pub OverColumns : ℕ → Database → List Step → Type 0
OverColumns w d steps = Each (λ (s : Step). SameColumns w d s.database) steps

module _ (w limit : ℕ) (q : Query) (d₀ : Database) (store₀ : List ℕ) (t : Term) (checked : check_over w limit q d₀ store₀ ≡ accepted t)
    (d : Database) (store : List ℕ) (same : SameColumns w d₀ d) where
  -- the held sheet, in terms of the final book's columns
  held_at : (steps : List Step) → OverColumns w d₀ steps → Kept (schema w d) t (held w q steps)
  held_at steps over =
      let G = same_schema w d₀ d same in
      let first : Kept (schema w d₀) t q =
      record { term = t; checked = checked_within q.count ((check_over_iff w limit q d₀ store₀ t).0 checked).1 (omega arith); swap = swap_refl t } in
      subst (λ (H : Schema). Kept H t (held w q steps)) G
      (kept_all w (schema w d₀) t q first steps (each_map steps (λ s h. sym (same_schema w d₀ s.database h)) over))

  pub rewrites_invisible : (steps : List Step) → OverColumns w d₀ steps
      → (most L budget : ℕ) (workspace answer : List ℕ) (a : Answer) → run_query w most (held w q steps) d store L budget workspace answer ≡ accepted a
      → Answers w d store q t a
  rewrites_invisible steps over most L budget workspace answer a e =
      let k = held_at steps over in
      let p = held w q steps in
      let (u, again, ran) = executed w most p d store L budget workspace answer a e in
      let (stored, c) = (check_over_iff w most p d store u).0 again in
      let now = (check_over_iff w most p d store k.term).1 (stored, checked_within most k.checked c.in_range_lem.1) in
      let end = run_is_meaning w most p d store L budget workspace answer k.term now a e in
      let first = ((check_over_iff w limit q d₀ store₀ t).0 checked).1 in
      let closed : Closed (schema w d) t = subst (λ (H : Schema). Closed H t) (same_schema w d₀ d same) first.well_formed.closed in
      let swap = k.swap.closed closed in
      let columns : cols (schema w d) no_cols k.term ≡ cols (schema w d) no_cols t = swap.columns in
      let means = swap.keeps (tables w d store) (typed_tables w d store) (λ v m. ⊥) in
      let typed = checked_means first w d store in
      let typed-last = checked_means k.checked w d store in
      record {
        columns = end.columns ∙ ap (columns_of w) columns;
        rows =
            subst (λ (D : Cols). Shows w D a.rows (sheet_meaning w d store q)) columns
            (shows_map (λ m. ((λ r. (typed m).1 ((means m).1 ((typed-last m).0 r))), λ r. (typed-last m).1 ((means m).0 ((typed m).0 r)))) end.rows);
      }

  -- two lists from one sheet, run over one book: the same columns and the same rows, entry for entry, wherever both finish
  pub two_lists_agree : (steps more : List Step) → OverColumns w d₀ steps → OverColumns w d₀ more
      → (most most' L L' budget budget' : ℕ) (workspace workspace' answer answer' : List ℕ) (a b : Answer)
      → run_query w most (held w q steps) d store L budget workspace answer ≡ accepted a
      → run_query w most' (held w q more) d store L' budget' workspace' answer' ≡ accepted b
      → (a.columns ≡ b.columns) × (a.rows ≡ b.rows)
  two_lists_agree steps more over over' most most' L L' budget budget' workspace workspace' answer answer' a b e f =
      let x = rewrites_invisible steps over most L budget workspace answer a e in
      let y = rewrites_invisible more over' most' L' budget' workspace' answer' b f in
      (x.columns ∙ sym y.columns, shows_unique x.rows y.rows)

  -- the held sheet is checked over the final book, if that is on the form, under every limit that it is within, with one term
  pub held_checked : (steps : List Step) → OverColumns w d₀ steps → check_database w d store ≡ accepted tt
      → (u : Term) × ((most : ℕ) → (held w q steps).count ≤ most → check_over w most (held w q steps) d store ≡ accepted u)
  held_checked steps over stored =
      let k = held_at steps over in
      (k.term, λ most h. (check_over_iff w most (held w q steps) d store k.term).1 (stored, checked_within most k.checked h))
