-- What is replied to a path's text over a stored book, and why: 21, then 11, then 10 or 9 by the first bad name, then 2, else the path's sheet.
use mathlib.Core.Path.{◌≡◌}
use mathlib.Core.List.{List}
use Prim.Native.Nat.{ℕ, ◌≤◌, ◌<◌}
use Rattle.laws.proofs.EachMember.{Each}
use Rattle.database.specs.declared.Database.{Database}
use Rattle.database.specs.declared.Refusal.{Refusal}
use Rattle.database.specs.declared.Refusal.TheVariants.{PathForm, NodeCount}
use Rattle.database.specs.Stored.{schema, check_database}
use Rattle.database.specs.Refusals.{Reply, refused, accepted}
use Rattle.query.specs.declared.Node.{Node}
use Rattle.paths.specs.Grammar.{PropertyPath}
use Rattle.paths.specs.Reader.{path_limit}
use Rattle.paths.specs.Sheets.{path_lines, line_count, names}
use Rattle.paths.proofs.Closed.{HasEnds}
use Rattle.paths.proofs.Names.{NamesReply}
use Rattle.paths.proofs.PathReply.{BadPlace, PathReply}

-- the text is the path p, of 1 to 128 bytes
abbrev pub OfPath : List ℕ → PropertyPath → Type 0
OfPath text p = PathReply path_limit text (accepted p)

module _ (w limit : ℕ) (text : List ℕ) (d : Database) (store : List ℕ) where
  pub data SheetReply : Reply (List Node) → Type 0 where
    -- 21
    off_grammar : (n : ℕ) → BadPlace path_limit text n → SheetReply (refused (PathForm n))
    -- 11
    off_book : (p : PropertyPath) → OfPath text p → (r : Refusal) → check_database w d store ≡ refused r → SheetReply (refused r)
    -- 10 or 9
    bad_name : (p : PropertyPath) → OfPath text p → check_database w d store ≡ accepted tt → (r : Refusal) → NamesReply (schema w d) (names p) (refused r)
        → SheetReply (refused r)
    -- 2
    too_many : (p : PropertyPath) → OfPath text p → check_database w d store ≡ accepted tt → Each (HasEnds (schema w d)) (names p) → limit < line_count p
        → SheetReply (refused (NodeCount 0))
    the_sheet : (p : PropertyPath) → OfPath text p → check_database w d store ≡ accepted tt → Each (HasEnds (schema w d)) (names p) → line_count p ≤ limit
        → SheetReply (accepted (path_lines p))
