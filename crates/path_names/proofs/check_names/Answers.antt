-- `check_names`: what is kept after some bytes of a path's text is the verdict of the names read.
use mathlib.Core.Path.{refl, sym, subst}
use Prim.Native.Nat.{◌+◌}
use native.Mathlib.Omega.{arith}
use Rattle.relation.specs.Rows.{columns}
use Rattle.database.specs.Stored.{schema}
use Rattle.paths.specs.Reader.{start, path_limit}
use Rattle.paths.specs.Sheets.{name_faults}
use Rattle.paths.proofs.PathRead.{path_walked}
use Rattle.path_names.specs.declared.Named.{Named}
use Rattle.path_names.proofs.Tested.{Kept, none_tested, kept_more, kept_end}
use Rattle.path_names.proofs.check_names.Goals as goal

pub loop-b-init : goal.loop-b-init
unfolding name_faults
loop-b-init c = λ p e. (start, none_tested _ _ refl refl, path_walked path_limit _ p e)

pub loop-b-preserved : goal.loop-b-preserved
loop-b-preserved c =
    let G = schema columns c.args.database in
    subst (λ (n : Named). Kept G c.args.path.now n (c.loop-b.b-index + 1)) (sym c.with_byte-named.ensures)
    (kept_more G c.args.path.now _ c.loop-b.b-index c.loop-b.invariant c.loop-b-test.true)

pub returns : goal.returns
returns c =
    kept_end _ c.args.path.now _ c.loop-b.b-index c.loop-b.invariant (omega arith)
