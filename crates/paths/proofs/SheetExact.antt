-- The reply to a path's text is exactly that of `SheetReply`.
use mathlib.Core.Path.{◌≡◌, refl, subst}
use mathlib.Core.Bool.{Bool, true, false}
use mathlib.Core.List.{List}
use mathlib.Core.Logic.{◌↔◌}
use Prim.Native.Nat.{ℕ, ◌≤◌}
use lib.Dec.{leb}
use borrow.Author.Tests.{leb-true, leb-false, le-leb, lt-leb}
use Rattle.laws.proofs.EachMember.{Each}
use Rattle.database.specs.declared.Database.{Database}
use Rattle.database.specs.declared.Refusal.TheVariants.{NodeCount}
use Rattle.database.specs.Stored.{schema, check_database}
use Rattle.database.specs.Refusals.{Reply, refused, accepted, require, no_fault, ◌>>=◌}
use Rattle.database.proofs.Stored.{table_below}
use Rattle.query.specs.declared.Node.{Node}
use Rattle.paths.specs.Grammar.{PropertyPath}
use Rattle.paths.specs.Reader.{path_limit, read_path}
use Rattle.paths.specs.Sheets.{path_lines, line_count, names, name_faults, lines_within, path_nodes}
use Rattle.paths.proofs.Closed.{HasEnds}
use Rattle.paths.proofs.LinkTables.{ends_below}
use Rattle.paths.proofs.Names.{NamesReply, names_exact, all_good}
use Rattle.paths.proofs.PathReply.{PathReply, off_path, a_path}
use Rattle.paths.proofs.ReadsExactly.{reads_exactly}
use Rattle.paths.proofs.SheetReply.{OfPath, SheetReply, off_grammar, off_book, bad_name, too_many, the_sheet}

module _ (w limit : ℕ) (roomy : 2 ≤ w) (text : List ℕ) (d : Database) (store : List ℕ) where
  -- the tests, from the last back
  abbrev once_stored : PropertyPath → Reply (List Node)
  once_stored p = no_fault (name_faults (schema w d) (names p)) >>= λ _. lines_within limit p

  abbrev once_read : PropertyPath → Reply (List Node)
  once_read p = check_database w d store >>= λ _. once_stored p

  names_of : (p : PropertyPath) (x : Reply (Unit {0})) → (no_fault (name_faults (schema w d) (names p)) ≡ x) ↔ NamesReply (schema w d) (names p) x
  names_of p = names_exact (schema w d) (table_below w d) (ends_below w roomy) (names p)

  abbrev Replied : Reply (List Node) → Type 0
  Replied = SheetReply w limit text d store

  sheet_reply : Replied (path_nodes w limit text d store)
  unfolding path_nodes
  sheet_reply = by_text (read_path path_limit text) ((reads_exactly path_limit text _).0 refl)
    where
      by_count : (p : PropertyPath) → OfPath text p → check_database w d store ≡ accepted tt → Each (HasEnds (schema w d)) (names p)
          → (t : Bool) → leb (line_count p) limit ≡ t → Replied (require t (NodeCount 0) >>= λ _. accepted (path_lines p))
      by_count p h e f true i = the_sheet p h e f (leb-true (line_count p) limit i)
      by_count p h e f false i = too_many p h e f (leb-false (line_count p) limit i)

      by_names : (p : PropertyPath) → OfPath text p → check_database w d store ≡ accepted tt → (x : Reply (Unit {0}))
          → NamesReply (schema w d) (names p) x → Replied (x >>= λ _. lines_within limit p)
      by_names p h e (refused r) f = bad_name p h e r f
      by_names p h e (accepted _) (all_good f) = by_count p h e f (leb (line_count p) limit) refl

      by_book : (p : PropertyPath) → OfPath text p → (x : Reply (Unit {0})) → check_database w d store ≡ x → Replied (x >>= λ _. once_stored p)
      by_book p h (refused r) e = off_book p h r e
      by_book p h (accepted _) e = by_names p h e (no_fault (name_faults (schema w d) (names p))) ((names_of p _).0 refl)

      by_text : (x : Reply PropertyPath) → PathReply path_limit text x → Replied (x >>= once_read)
      by_text (refused _) (off_path n h) = off_grammar n h
      by_text (accepted _) (a_path p i j k) = by_book p (a_path p i j k) (check_database w d store) refl

  sheet_unique : {x : Reply (List Node)} → Replied x → path_nodes w limit text d store ≡ x
  unfolding path_nodes
  sheet_unique (off_grammar n h) = rw ((reads_exactly path_limit text (refused _)).1 (off_path n h))
  sheet_unique (off_book p h r e) = rw ((reads_exactly path_limit text (accepted p)).1 h, e)
  sheet_unique (bad_name p h e r f) = rw ((reads_exactly path_limit text (accepted p)).1 h, e, (names_of p (refused r)).1 f)
  sheet_unique (too_many p h e f k) =
      rw ((reads_exactly path_limit text (accepted p)).1 h, e, (names_of p (accepted tt)).1 (all_good f), lt-leb (line_count p) limit k)
  sheet_unique (the_sheet p h e f k) =
      rw ((reads_exactly path_limit text (accepted p)).1 h, e, (names_of p (accepted tt)).1 (all_good f), le-leb (line_count p) limit k)

  pub sheet_exact : (x : Reply (List Node)) → (path_nodes w limit text d store ≡ x) ↔ Replied x
  sheet_exact x = ((λ e. subst Replied e sheet_reply), sheet_unique)
