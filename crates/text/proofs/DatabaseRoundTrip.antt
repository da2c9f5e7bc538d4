-- Databases as texts: the accepted texts are exactly those printed for tables on the form, and each is read as those tables.
use mathlib.Core.Path.{◌≡◌, refl, subst}
use mathlib.Core.Bool.{true}
use mathlib.Core.List.{List}
use Prim.Native.Nat.{ℕ, ◌≤◌}
use native.Mathlib.Nat.{le_trans}
use lib.Dec.{lit≤}
use lib.ListN.{length}
use Rattle.laws.specs.Lists.{every}
use Rattle.laws.proofs.EachMember.{Each}
use Rattle.database.specs.declared.Refusal.TheVariants.{DatabaseForm}
use Rattle.database.specs.Stored.{table_limit}
use Rattle.database.specs.Refusals.{accepted}
use Rattle.database.proofs.Replies.{accepted_same}
use Rattle.text.specs.Numbers.{bytes}
use Rattle.text.specs.Texts.{Table, read_tables, database_text}
use Rattle.text.proofs.Forms.{plain}
use Rattle.text.proofs.Counted.{counted_reads, counted_printed}
use Rattle.text.proofs.Tables.{GoodTable, table_exact}

tables_plain : plain (bytes "tables=") ≡ true
unfolding plain every bytes
tables_plain = refl

-- the text of tables is read as the tables
pub database_round_trip : (w : ℕ) (ts : List Table) → length ts ≤ table_limit → Each (GoodTable w) ts → read_tables w (database_text ts) ≡ accepted ts
unfolding read_tables database_text
database_round_trip w ts few good =
    counted_reads DatabaseForm "tables=" table_limit tables_plain (table_exact w) (λ _ ts. accepted ts) ts few (le_trans few (lit≤ tt)) good

-- an accepted text is the text of the tables read, which are on the form
pub read_database_printed : (w : ℕ) (text : List ℕ) (ts : List Table) → read_tables w text ≡ accepted ts
    → (text ≡ database_text ts) × (length ts ≤ table_limit) × Each (GoodTable w) ts
unfolding read_tables database_text
read_database_printed w text ts e =
    let (us, same, few, good, last) =
    counted_printed DatabaseForm "tables=" table_limit tables_plain (table_exact w) (λ _ ts. accepted ts) text ts e in
    subst (λ ts. (text ≡ database_text ts) × (length ts ≤ table_limit) × Each (GoodTable w) ts) (accepted_same last) (same, few, good)
