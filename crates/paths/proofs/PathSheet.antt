-- The sheet of a path's text that is not refused: it is checked over the book, so neither gets a number from 1 to 11, and it means exactly the set
-- of pairs that the path links, from column 0 to column 1.
use mathlib.Core.Path.{◌≡◌, refl}
use mathlib.Core.List.{List}
use mathlib.Core.Logic.Iff
use mathlib.Core.Logic.{◌↔◌}
use Prim.Native.Nat.{ℕ, ◌≤◌, ◌<◌}
use native.Mathlib.Omega.{arith}
use lib.ListN.{length}
use Rattle.laws.proofs.EachMember.{Each, each_map, each_at}
use Rattle.algebra.specs.Mapping.{Mapping}
use Rattle.algebra.specs.Term.{Term}
use Rattle.algebra.specs.Columns.{no_cols, cols}
use Rattle.database.specs.declared.Database.{Database}
use Rattle.database.specs.Stored.{table_limit, schema, tables, check_database}
use Rattle.database.specs.Refusals.{accepted}
use Rattle.database.proofs.Stored.{typed_tables, check_database_iff}
use Rattle.query.specs.declared.Node.{Node}
use Rattle.query.specs.declared.Node.TheVariants.{Table}
use Rattle.query.specs.Lines.{node_limit, lines}
use Rattle.query.specs.Check.{check_over, sheet_meaning}
use Rattle.query.proofs.CheckReply.{Checked}
use Rattle.query.proofs.CheckedTerms.{well_checked}
use Rattle.query.proofs.CheckedOver.{check_over_iff}
use Rattle.query.proofs.SplitMeans.{typed_meaning_lem}
use Rattle.text.specs.Texts.{query_value}
use Rattle.text.proofs.QueryValue.{nodes_value}
use Rattle.paths.specs.Grammar.{PropertyPath, PathText}
use Rattle.paths.specs.Links.{Links, pairs}
use Rattle.paths.specs.Sheets.{ends, term_from, path_lines, line_count, names, path_nodes}
use Rattle.paths.proofs.Meaning.{term_links}
use Rattle.paths.proofs.Closed.{HasEnds, term_cols, term_closed}
use Rattle.paths.proofs.Recursions.{numbers_distinct}
use Rattle.paths.proofs.LineCount.{line_count_lem, eight_each}
use Rattle.paths.proofs.OnForm.{OfLines, term_each, on_form_lem}
use Rattle.paths.proofs.LinkTables.{table_links}
use Rattle.paths.proofs.PathReply.{a_path}
use Rattle.paths.proofs.ReadsExactly.{unambiguous}
use Rattle.paths.proofs.SheetReply.{OfPath, SheetReply, the_sheet}
use Rattle.paths.proofs.SheetExact.{sheet_exact}

path_text : {text : List ℕ} {p : PropertyPath} → OfPath text p → PathText text p
path_text (a_path p d _ _) = d

module _ (w limit : ℕ) (d : Database) (store : List ℕ) where
  -- ns are the lines of the path p: a sheet that is checked over the book, with the columns 0 and 1, and means the pairs that p links
  pub record PathSheet (p : PropertyPath) (ns : List Node) : Type 0 where
    pub term : Term
    pub written : ns ≡ lines term
    pub checked : check_over w limit (query_value ns) d store ≡ accepted term
    pub columns : cols (schema w d) no_cols term ≡ ends
    pub means : (m : Mapping) → sheet_meaning w d store (query_value ns) m ↔ pairs (Links (tables w d store) p) m

  -- the names are those of tables that a book can have, and the recursion numbers too
  small_names : (p : PropertyPath) → check_database w d store ≡ accepted tt → Each (HasEnds (schema w d)) (names p) → Each (λ t. t < table_limit) (names p)
  small_names p stored = each_map (names p) (λ t (h : HasEnds (schema w d) t). let k = h.known in omega (arith, ((check_database_iff w d store).0 stored).0))

  module _ (roomy : 3 ≤ w) (desk : limit ≤ node_limit) where
    -- a statement that holds of each line that a path's sheet can have
    each_line : (P : Node → Type 0) → OfLines P → (p : PropertyPath) → check_database w d store ≡ accepted tt → Each (HasEnds (schema w d)) (names p)
        → line_count p ≤ limit → Each P (path_lines p)
    each_line P of p stored known few = term_each P of 0 p (small_names p stored known) (omega (arith, eight_each p))

    -- the tests of a path's sheet have passed
    sheet_checked : (p : PropertyPath) → check_database w d store ≡ accepted tt → Each (HasEnds (schema w d)) (names p) → line_count p ≤ limit
        → Checked limit (query_value (path_lines p)) (schema w d) (term_from 0 p)
    sheet_checked p stored known few = record {
      in_range_lem = (rw (line_count_lem p) (omega (arith, eight_each p)), rw (line_count_lem p) few);
      on_form_lem = λ i h. rw (nodes_value (path_lines p)) (each_at _ (Table 0) (path_lines p) (each_line _ (on_form_lem w roomy) p stored known few) i h);
      written = nodes_value (path_lines p);
      well_formed = record { closed = term_closed (schema w d) 0 p known; distinct = numbers_distinct 0 p };
    }

    reply_sheet : (text : List ℕ) {ns : List Node} → SheetReply w limit text d store (accepted ns) → (p : PropertyPath) × PathText text p × PathSheet p ns
    reply_sheet text (the_sheet p h stored known few) =
        let q = query_value (path_lines p) in
        let checked : check_over w limit q d store ≡ accepted (term_from 0 p) =
        (check_over_iff w limit q d store (term_from 0 p)).1 (stored, well_checked (sheet_checked p stored known few)) in (
          p,
          path_text h,
          record {
            term = term_from 0 p;
            written = refl;
            checked = checked;
            columns = term_cols (schema w d) no_cols 0 p known;
            means = λ m. Iff.trans (typed_meaning_lem w limit q d store (term_from 0 p) checked m)
                (term_links (tables w d store) 0 p (each_map (names p) (table_links (schema w d) (tables w d store) (typed_tables w d store)) known) _ m);
          },
        )

    pub path_sheet : (text : List ℕ) (ns : List Node) → path_nodes w limit text d store ≡ accepted ns → (p : PropertyPath) × PathText text p × PathSheet p ns
    path_sheet text ns e = reply_sheet text ((sheet_exact w limit (omega arith) text d store (accepted ns)).0 e)

    -- the sheet gets no number from 1 to 11 over that book, nor 20
    pub path_checked : (text : List ℕ) (ns : List Node) → path_nodes w limit text d store ≡ accepted ns
        → (t : Term) × (check_over w limit (query_value ns) d store ≡ accepted t)
    path_checked text ns e = let (p, i, s) = path_sheet text ns e in (s.term, s.checked)

    -- "The resulting sheet means the set of pairs that the path links, from column 0 to column 1."
    pub path_links : (text : List ℕ) (ns : List Node) → path_nodes w limit text d store ≡ accepted ns → (p : PropertyPath) → PathText text p
        → (m : Mapping) → sheet_meaning w d store (query_value ns) m ↔ pairs (Links (tables w d store) p) m
    path_links text ns e p i m = let (q, j, s) = path_sheet text ns e in rw (unambiguous i j) (s.means m)

    -- each line of the sheet, and how many there are
    pub path_each : (P : Node → Type 0) → OfLines P → (text : List ℕ) (ns : List Node) → path_nodes w limit text d store ≡ accepted ns
        → Each P ns × (length ns ≤ limit)
    path_each P of text ns e = by_reply ((sheet_exact w limit (omega arith) text d store (accepted ns)).0 e)
      where
        by_reply : {ns : List Node} → SheetReply w limit text d store (accepted ns) → Each P ns × (length ns ≤ limit)
        by_reply (the_sheet p h stored known few) = (each_line P of p stored known few, rw (line_count_lem p) few)
