use mathlib.Core.Path.{◌≡◌, refl, ap, sym, ◌∙◌}
use borrow.Author.Tests.{eqb-true, eqb-false}
use Prim.Native.Nat.{ℕ}
use mathlib.Core.List.{List}
use native.Mathlib.Omega.{arith}
use lib.ListN.{length}
use Rattle.std.specs.Prelude.{Ok, Err}
use Rattle.laws.proofs.Tests.{true_false}
use Rattle.relation.specs.Rows.{columns}
use Rattle.database.specs.declared.Refusal.{Refusal}
use Rattle.database.specs.Refusals.{Reply, refused, accepted}
use Rattle.text.specs.Texts.{Table, read_tables, database_value, table_entries}
use Rattle.text.specs.Replies.{read_or, database_reply, load_tables, store_after}
use Rattle.text.proofs.ReplyLaws.{handed_on}
use Rattle.loading.specs.declared.table_reader.ReadText.{ReadText}
use Rattle.loading.specs.Loading.{text_reply, OnForm}
use Rattle.loading.proofs.TextWalks.{load_empty, load_bad, none_kept, refused_kept}
use Rattle.loading.proofs.database_reader.read_database.Goals as goal

-- what a walk over the whole text tells of it
is_refused : (r : Reply (List Table)) (q : Refusal) → Err q ≡ text_reply r → r ≡ refused q
is_refused (refused p) q e = let same : q ≡ p = cc in ap refused (sym same)
is_refused (accepted ts) q e = let z : ◌≡◌ {A = ℕ} 0 1 = cc in absurd (omega arith)

on_form : (text : List ℕ) (t : ReadText) → Ok t ≡ text_reply (read_tables columns text) → OnForm text t.size
on_form text t e = by_case (read_tables columns text) refl e
  where
    by_case : (r : Reply (List Table)) → read_tables columns text ≡ r → Ok t ≡ text_reply r → OnForm text t.size
    by_case (refused p) q e = let z : ◌≡◌ {A = ℕ} 0 1 = cc in absurd (omega arith)
    by_case (accepted ts) q e =
        let same : t ≡ record { database = database_value columns ts; size = length (table_entries ts) } = cc in
        record { value = ts; read = q; sized = ap (λ (t : ReadText). t.size) same }

pub read_text-requires : goal.read_text-requires
read_text-requires c e = true_false (sym e)

pub returns-then-is_empty : goal.returns-then-is_empty
returns-then-is_empty c =
    let e = load_empty c.args.text.now c.args.store.now (eqb-true _ 0 (sym c.is_empty.ensures ∙ c.if-is_empty.true)) in
    record {
      value = ap Ok c.no_tables-database.ensures ∙ ap (database_reply columns) (sym e);
      store_after = none_kept c.args.store.now (load_tables columns c.args.text.now c.args.store.now) (ap read_or e);
    }

pub returns-in_err-seen : goal.returns-in_err-seen
returns-in_err-seen c =
    let q = is_refused (read_tables columns c.args.text.now) _ c.in_err-seen.ensures.value in
    let e = load_bad c.args.text.now c.args.store.now (eqb-false _ 0 (sym c.is_empty.ensures ∙ c.if-is_empty.false)) _ q in
    record {
      value = handed_on c.from_residual.result _ c.from_residual.ensures.1 ∙ ap (database_reply columns) (sym e);
      store_after = c.in_err-seen.ensures.store_after ∙ refused_kept c.args.store.now (load_tables columns c.args.text.now c.args.store.now) _ e;
    }

pub store_rows-requires : goal.store_rows-requires
store_rows-requires c = on_form c.args.text.now c.in_ok-seen.seen c.in_ok-seen.ensures.value

pub returns : goal.returns
returns c = record {
  value = c.store_rows.ensures.value ∙ ap (λ l. database_reply columns (load_tables columns c.args.text.now l)) c.in_ok-seen.ensures.store_after;
  store_after = c.store_rows.ensures.store_after ∙ ap (λ l. store_after (load_tables columns c.args.text.now l) l) c.in_ok-seen.ensures.store_after;
}
