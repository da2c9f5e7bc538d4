-- The verdicts of a path's names as one pass over its bytes keeps them.
use Rattle.std.specs.Prelude.{Bool, true, false, List, [], ◌∷◌, ℕ, ◌+◌, ◌-◌}
use Rattle.laws.specs.Lists.{when◌then◌else◌}
use Rattle.algebra.specs.Columns.{Schema}
use Rattle.database.specs.Refusals.{Verdict}
use Rattle.database.specs.Refusals.{verdict, no_fault}
use Rattle.query.specs.Passes.{first_of}
use Rattle.text.specs.Numbers.{is_digit}
use Rattle.paths.specs.Sheets.{name_faults}
use Rattle.path_names.specs.declared.Named.{Named}

abbrev pub names_verdict : Schema → List ℕ → Verdict
names_verdict G ts = verdict (no_fault (name_faults G ts))

abbrev pub name_verdict : Schema → ℕ → Verdict
name_verdict G t = names_verdict G (t ∷ [])

-- behind one byte more
abbrev pub digit_next : Schema → Named → Bool → ℕ → Named
digit_next G n true d = record { before = n.before; all = first_of n.before (name_verdict G (10 + d)); digit = true }
digit_next G n false d = record { before = n.all; all = first_of n.all (name_verdict G d); digit = true }

abbrev pub named_next : Schema → Named → ℕ → Named
named_next G n b = when is_digit b then digit_next G n n.digit (b - 48) else record { before = n.before; all = n.all; digit = false }
