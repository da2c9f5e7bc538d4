-- A database's text is read by its lines, unless it is empty: then it is read as no tables.
use mathlib.Core.Path.{◌≡◌, refl, ap, sym, ◌∙◌, subst}
use Rattle.std.specs.Prelude.{Some, None}
use mathlib.Core.List.{List, [], ◌∷◌, flat_map}
use mathlib.Core.Logic.{◌⊎◌, inl, inr, ◌≢◌}
use Prim.Native.Nat.{ℕ, ◌≤◌, zero-le}
use lib.ListN.{length}
use Rattle.laws.proofs.EachMember.{Each}
use Rattle.database.specs.declared.Refusal.{Refusal}
use Rattle.database.specs.declared.Refusal.TheVariants.{DatabaseForm}
use Rattle.database.specs.Stored.{table_limit}
use Rattle.database.specs.Refusals.{refused, accepted}
use Rattle.database.proofs.Replies.{accepted_refused, accepted_same}
use Rattle.text.specs.Numbers.{bytes, digits_before}
use Rattle.text.specs.Lines.{after, by_form, due, first_line}
use Rattle.text.specs.Texts.{Table, read_tables, read_database, database_text}
use Rattle.text.proofs.Tables.{GoodTable}
use Rattle.text.proofs.DatabaseRoundTrip.{database_round_trip, read_database_printed}

-- the two lines are those printed for no tables
two_lines : bytes "guide=1\ntables=0\n" ≡ database_text []
unfolding bytes digits_before database_text flat_map
two_lines = refl

pub empty_read : (w : ℕ) → read_database w [] ≡ accepted []
unfolding read_database
empty_read w = ap (read_tables w) two_lines ∙ database_round_trip w [] zero-le tt

pub others_read : (w : ℕ) (text : List ℕ) → text ≢ [] → read_database w text ≡ read_tables w text
unfolding read_database
others_read w [] h = absurd (h refl)
others_read w (b ∷ rest) h = refl

-- no first line, or an empty one, is no header
pub no_header : (w : ℕ) (text : List ℕ) → (first_line text ≡ None) ⊎ (first_line text ≡ Some ([], [])) → read_tables w text ≡ refused (DatabaseForm 1)
unfolding bytes after by_form read_tables due
no_header w text (inl e) = rw (e, due)
no_header w text (inr e) = rw (e, due)

pub accepted_read : (w : ℕ) (text : List ℕ) (ts : List Table) → read_tables w text ≡ accepted ts → read_database w text ≡ accepted ts
unfolding first_line
accepted_read w text ts e = others_read w text (λ empty. accepted_refused (sym e ∙ ap (read_tables w) empty ∙ no_header w [] (inl refl))) ∙ e

pub refused_some : (w : ℕ) (text : List ℕ) (r : Refusal) → read_database w text ≡ refused r → text ≢ []
refused_some w text r e empty = accepted_refused (sym (empty_read w) ∙ ap (read_database w) (sym empty) ∙ e)

-- a text says tables if it is the one printed for them; the empty text says none
abbrev pub Says : List ℕ → List Table → Type 0
Says text ts = (text ≡ database_text ts) ⊎ ((text ≡ []) × (ts ≡ []))

pub says_read : (w : ℕ) (text : List ℕ) (ts : List Table) → Says text ts → length ts ≤ table_limit → Each (GoodTable w) ts → read_database w text ≡ accepted ts
says_read w text ts (inl same) few good = accepted_read w text ts (rw same (database_round_trip w ts few good))
says_read w text ts (inr (empty, no-tables)) few good = rw (empty, no-tables) (empty_read w)

pub read_says : (w : ℕ) (text : List ℕ) (ts : List Table) → read_database w text ≡ accepted ts
    → Says text ts × (length ts ≤ table_limit) × Each (GoodTable w) ts
unfolding read_database
read_says w [] ts e =
    subst (λ ts. Says [] ts × (length ts ≤ table_limit) × Each (GoodTable w) ts) (accepted_same (sym (empty_read w) ∙ e))
    (inr (refl, refl), zero-le, tt)
read_says w (b ∷ rest) ts e = let (same, few, good) = read_database_printed w (b ∷ rest) ts e in (inl same, few, good)
