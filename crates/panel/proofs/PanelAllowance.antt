-- On the panel 16 never arises: its product is refused exactly if the sheet is not checked.
use mathlib.Core.Path.{◌≡◌, refl}
use mathlib.Core.List.{List}
use Prim.Native.Nat.{ℕ}
use Rattle.algebra.specs.Term.{Term}
use Rattle.relation.specs.Rows.{columns}
use Rattle.database.specs.declared.Database.{Database}
use Rattle.database.specs.Refusals.{Reply, refused, accepted, ◌>>=◌}
use Rattle.query.specs.declared.Query.{Query}
use Rattle.query.specs.Check.{check_over}
use Rattle.machine.specs.Limits.{panel_limits}
use Rattle.machine.specs.Run.{runnable}

pub panel_tests : (q : Query) (d : Database) (store : List ℕ)
    → runnable columns panel_limits.nodes q d store panel_limits.rows ≡ check_over columns panel_limits.nodes q d store
panel_tests q d store = by_check (check_over columns panel_limits.nodes q d store)
  where
    by_check : (x : Reply Term) → (x >>= (λ t. accepted t)) ≡ x
    by_check (refused r) = refl
    by_check (accepted t) = refl
