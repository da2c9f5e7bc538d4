-- Texts of zero bytes, and of one: "A book of zero bytes shall mean the same as `guide=1` and `tables=0`. … A sheet of zero bytes is refused as before."
use mathlib.Core.Path.{◌≡◌, refl}
use mathlib.Core.Bool.{Bool, true, false}
use Rattle.std.specs.Prelude.{Some, None}
use mathlib.Core.List.{[], ◌∷◌}
use mathlib.Core.Logic.{◌⊎◌, inl, inr}
use Prim.Native.Nat.{ℕ}
use lib.Dec.{eqb}
use Rattle.database.specs.declared.Refusal.TheVariants.{QueryForm, DatabaseForm}
use Rattle.database.specs.Refusals.{refused, accepted}
use Rattle.text.specs.Numbers.{bytes, newline}
use Rattle.text.specs.Lines.{due, first_line}
use Rattle.text.specs.Texts.{read_nodes, read_database}
use Rattle.text.proofs.EmptyText.{empty_read, no_header}

-- both are read as no tables
pub empty_means : (w : ℕ) → (read_database w [] ≡ accepted []) × (read_database w (bytes "guide=1\ntables=0\n") ≡ accepted [])
unfolding bytes read_database
empty_means w = (empty_read w, empty_read w)

-- a byte alone, byte 10 too, is a bad first line
pub one_byte : (w b : ℕ) → read_database w (b ∷ []) ≡ refused (DatabaseForm 1)
unfolding first_line read_database
one_byte w b = no_header w (b ∷ []) (by_test (eqb b newline) refl)
  where
    by_test : (t : Bool) → eqb b newline ≡ t → (first_line (b ∷ []) ≡ None) ⊎ (first_line (b ∷ []) ≡ Some ([], []))
    by_test true e = inr (rw (e, first_line))
    by_test false e = inl (rw (e, first_line))

-- "A sheet of zero bytes is refused as before."
pub empty_sheet : (w limit : ℕ) → read_nodes w limit [] ≡ refused (QueryForm 1)
unfolding read_nodes due first_line
empty_sheet w limit = refl
