use borrow.Author.Rules.{rules}
use mathlib.Core.Path.{◌≡◌, ap, sym, ◌∙◌}
use lib.ListN.{length}
use borrow.Rule.Slice.PartMut.{put_mid}
use Rattle.relation.specs.Rows.{columns}
use Rattle.loading.specs.Loading.{stores}
use Rattle.loading.proofs.table_reader.store_row.Lts as lts
use Rattle.loading.proofs.table_reader.store_row.Reads as reads
use Rattle.loading.proofs.table_reader.store_row.Tie as tie
use Rattle.loading.proofs.table_reader.store_row.Goals as goal

abbrev Start : Type 0
Start = lts.Start tie.the-claims reads.Pre reads.Post

wide : (c : Start) → length c.args.row.slots ≡ columns
wide c = search rules

pub returns-then-write : goal.returns-then-write
returns-then-write c =
    c.put_row.ensures
    ∙ ap (λ n. put_mid c.args.at n c.args.store.now c.args.row.slots) (sym (wide c.before.before.before.before.before.before.before))
    ∙ ap (λ w. stores w c.args.at c.args.row.slots c.args.store.now) (sym c.if-write.true)

pub returns-else-write : goal.returns-else-write
returns-else-write c =
    ap (λ w. stores w c.args.at c.args.row.slots c.args.store.now) (sym c.if-write.false)

pub put_row-requires : goal.put_row-requires
put_row-requires c = c.requires c.if-write.true
