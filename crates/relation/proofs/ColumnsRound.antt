-- Sets of columns as the code holds them: they lie below w, and a set below w comes back as itself.
use mathlib.Core.Path.{◌≡◌, sym, fun_ext}
use mathlib.Core.Bool.{true, false}
use mathlib.Core.Logic.{◌⊎◌, inl, inr}
use Prim.Native.Nat.{ℕ, ◌<◌}
use native.Mathlib.Omega.{arith}
use native.Mathlib.Decide.{dec_lt}
use lib.Dec.{ltb}
use lib.ListN.{get_or}
use borrow.Author.Tests.{ltb-true, lt-ltb, le-ltb}
use Rattle.laws.proofs.Tests.{and_true_left}
use Rattle.laws.proofs.Tabulated.{get_d_tabulate}
use Rattle.algebra.specs.Columns.{Cols}
use Rattle.algebra.proofs.Narrow.{Below}
use Rattle.relation.specs.declared.Columns.{Columns}
use Rattle.relation.specs.Rows.{cols_of, columns_of}
use Rattle.relation.proofs.RowMappings.{column?}

pub cols_of_below : (w : ℕ) (s : Columns) → Below w (cols_of w s)
cols_of_below w s c e = ltb-true c w (and_true_left (ltb c w) (get_or s.has c false) e)

pub columns_round : (w : ℕ) (D : Cols) → Below w D → cols_of w (columns_of w D) ≡ D
columns_round w D below = fun_ext λ c. elim (dec_lt c w) [
  | yes h ↦ rw (lt-ltb c w h) (get_d_tabulate D w c false h)
  | no h ↦ rw (le-ltb c w (omega arith)) (outside c h (column? D c))
]
  where
    outside : (c : ℕ) → ¬ (c < w) → (D c ≡ true) ⊎ (D c ≡ false) → false ≡ D c
    outside c h (inl e) = absurd (h (below c e))
    outside c h (inr e) = sym e
