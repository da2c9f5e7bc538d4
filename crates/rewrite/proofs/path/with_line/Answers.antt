-- Off the path nothing is added, on it what the line uses.
use borrow.Author.Rules.{rules}
use Prim.Native.Nat.{ℕ}
use mathlib.Core.Path.{◌≡◌, sym, ◌∙◌}
use mathlib.Core.Bool.{Bool, false}
use lib.ListN.{length}
use Rattle.laws.specs.Lists.{when◌then◌else◌}
use Rattle.algebra.specs.Columns.{Cols}
use Rattle.relation.specs.Rows.{columns}
use Rattle.rewrite.specs.Path.{on_path, uses_at}
use Rattle.rewrite.proofs.GrownColumns.{grown_none}
use Rattle.rewrite.proofs.path.with_line.Lts as lts
use Rattle.rewrite.proofs.path.with_line.Reads as reads
use Rattle.rewrite.proofs.path.with_line.Tie as tie
use Rattle.rewrite.proofs.path.with_line.Goals as goal

abbrev Start : Type 0
Start = lts.Start tie.the-claims reads.Pre reads.Post

size : (c : Start) → length c.args.used.has ≡ columns
size c = search rules

-- by what the test of the path says
off : {b : Bool} (D : Cols) → b ≡ false → (e : ℕ) → (when b then D e else false) ≡ false
off D f e = rw f

pub returns-else-on_path : goal.returns-else-on_path
returns-else-on_path c =
    let f : on_path c.args.sheet.facts c.args.v c.args.i ≡ false = sym c.on_path.ensures ∙ c.if-on_path.false in
    grown_none columns c.args.used (size c.before.before.before) (uses_at c.args.sheet.query c.args.sheet.facts c.args.v c.args.i) (off _ f)
