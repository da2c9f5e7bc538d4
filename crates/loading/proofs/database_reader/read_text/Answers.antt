use mathlib.Core.Path.{◌≡◌, ap, sym, ◌∙◌, subst}
use Rattle.relation.specs.Rows.{columns}
use Rattle.database.specs.declared.Refusal.TheVariants.{DatabaseForm}
use Rattle.database.specs.Stored.{table_limit}
use Prim.Native.Nat.{ℕ}
use mathlib.Core.List.{List}
use Rattle.text.specs.Numbers.{bytes}
use Rattle.text.specs.Texts.{read_tables, table_entries}
use Rattle.text.specs.Cursors.{Opened, opened_at}
use Rattle.text.proofs.ReaderLawsDue.{opened_placed}
use Rattle.loading.specs.Loading.{stores, read_entries, MayStore, text_reply}
use Rattle.loading.proofs.Stores.{stores_off}
use Rattle.loading.proofs.TextWalks.{opened_most, behind_tables, tables_opened}
use Rattle.loading.proofs.database_reader.read_text.Goals as goal

-- what the text's opening leads to
behind : (text : List ℕ) (o : Opened) → o ≡ opened_at (bytes "tables=") table_limit text → read_tables columns text ≡ behind_tables text o
behind text o e = tables_opened text ∙ ap (behind_tables text) (sym e)

pub read_behind-requires : goal.read_behind-requires
unfolding bytes
read_behind-requires c = (
  opened_placed (bytes "tables=") table_limit c.args.text.now c.in-Ok.count c.in-Ok.first c.in-Ok.ensures,
  opened_most (bytes "tables=") table_limit c.args.text.now c.in-Ok.count c.in-Ok.first c.in-Ok.ensures,
  subst (MayStore table_entries c.args.write 0 c.args.store.now) (behind c.args.text.now _ c.in-Ok.ensures) c.requires,
)

pub returns-in-Ok : goal.returns-in-Ok
unfolding bytes
returns-in-Ok c =
    let e = sym (behind c.args.text.now _ c.in-Ok.ensures) in
    record {
      value = c.read_behind.ensures.value ∙ ap text_reply e;
      store_after = c.read_behind.ensures.store_after ∙ ap (λ r. stores c.args.write 0 (read_entries table_entries r) c.args.store.now) e;
    }

pub returns-in-Err : goal.returns-in-Err
unfolding bytes
returns-in-Err c =
    let e = behind c.args.text.now _ c.in-Err.ensures in
    record {
      value = ap text_reply (sym e);
      store_after = stores_off table_entries c.args.write 0 c.args.store.now (read_tables columns c.args.text.now) (DatabaseForm c.in-Err.bad.line) e;
    }
