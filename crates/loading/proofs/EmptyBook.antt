-- "A book of zero bytes shall mean the same as `guide=1` and `tables=0`": whatever the store, both are loaded as no tables, and nothing is written.
use mathlib.Core.Path.{◌≡◌, refl, ap, sym}
use mathlib.Core.List.{List, []}
use Prim.Native.Nat.{ℕ}
use Rattle.relation.specs.Rows.{columns}
use Rattle.database.specs.Refusals.{accepted}
use Rattle.text.specs.Numbers.{bytes}
use Rattle.text.specs.Texts.{read_database}
use Rattle.text.specs.Replies.{read_or, load_tables, store_after}
use Rattle.loading.proofs.TextWalks.{load_empty, none_kept}

pub empty_loads : (store : List ℕ) → (load_tables columns [] store ≡ accepted []) × (load_tables columns (bytes "guide=1\ntables=0\n") store ≡ accepted [])
unfolding bytes read_database load_tables
empty_loads store = let e = load_empty [] store refl in (e, e)

pub empty_writes : (store : List ℕ) → store_after (load_tables columns [] store) store ≡ store
empty_writes store = sym (none_kept store (load_tables columns [] store) (ap read_or (load_empty [] store refl)))
