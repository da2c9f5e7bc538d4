use native.Mathlib.Omega.{arith}
use mathlib.Core.Path.{◌≡◌, ap, sym, ◌∙◌}
use mathlib.Core.Bool.{true}
use Prim.Native.Nat.{ℕ}
use Rattle.std.specs.Prelude.{Result, Ok, Err}
use Rattle.relation.specs.Rows.{columns}
use Rattle.database.specs.declared.Refusal.TheVariants.{ShortSlice}
use Rattle.text.specs.Texts.{table_entries}
use Rattle.text.specs.Replies.{database_reply, load_tables, store_after}
use Rattle.loading.specs.declared.table_reader.ReadText.{ReadText}
use Rattle.loading.specs.Loading.{stores, read_entries, text_reply}
use Rattle.loading.proofs.Stores.{stores_start}
use Rattle.loading.proofs.TextWalks.{load_short, load_fits, refused_kept}
use Rattle.loading.proofs.database_reader.store_rows.Goals as goal

-- a text on the form is not refused
err_ok : {T E C : Type 0} {e : E} {t : T} → ◌≡◌ {A = Result T E} (Err e) (Ok t) → C
err_ok e = let z : ◌≡◌ {A = ℕ} 0 1 = cc in absurd (omega arith)

ok_is : {T E : Type 0} {s t : T} → ◌≡◌ {A = Result T E} (Ok s) (Ok t) → s ≡ t
ok_is e = cc

pub returns-then-store-size : goal.returns-then-store-size
returns-then-store-size c =
    let e = load_short c.args.text.now c.args.store.now c.args.size c.requires c.if-store-size.true in
    record {
      value = ap (database_reply columns) (sym e);
      store_after = refused_kept c.args.store.now (load_tables columns c.args.text.now c.args.store.now) ShortSlice e;
    }

pub read_text-requires : goal.read_text-requires
read_text-requires c _ = record { value = c.requires.value; read = c.requires.read; fits = omega arith }

pub returns-in_err-read : goal.returns-in_err-read
returns-in_err-read c = err_ok (c.in_err-read.ensures.value ∙ ap text_reply c.requires.read)

pub shape_of-store-in_err-read : goal.shape_of-store-in_err-read
shape_of-store-in_err-read c = err_ok (c.in_err-read.ensures.value ∙ ap text_reply c.requires.read)

pub returns : goal.returns
returns c =
    let e = load_fits c.args.text.now c.args.store.now c.args.size c.requires c.if-store-size.false in
    record {
      value = ap (λ (t : ReadText). Ok t.database) (ok_is (c.in_ok-read.ensures.value ∙ ap text_reply c.requires.read)) ∙ ap (database_reply columns) (sym e);
      store_after =
          c.in_ok-read.ensures.store_after
          ∙ ap (λ r. stores true 0 (read_entries table_entries r) c.args.store.now) c.requires.read
          ∙ stores_start (table_entries c.requires.value) c.args.store.now
          ∙ ap (λ r. store_after r c.args.store.now) (sym e);
    }
