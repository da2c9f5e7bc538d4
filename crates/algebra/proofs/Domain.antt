-- The columns of a mapping, and tables whose mappings have theirs.
use mathlib.Core.Path.{◌≡◌, refl, ◌∙◌}
use mathlib.Core.Bool.{true, ◌||◌}
use Rattle.std.specs.Prelude.{Option, Some, None}
use Prim.Native.Nat.{ℕ, ◌<◌}
use lib.Dec.{eqb}
use Rattle.laws.proofs.Tests.{if_apply}
use Rattle.algebra.specs.Mapping.{Mapping, or_else, combine, put, nothing}
use Rattle.algebra.specs.Term.{Environment}
use Rattle.algebra.specs.Columns.{Cols, no_cols, with, without, both, Schema}
use Rattle.algebra.proofs.Mappings.{is_some}

-- the mapping has values in exactly these columns
unfoldable pub Domain : Mapping → Cols → Type 0
Domain m D = (c : ℕ) → is_some (m c) ≡ D c

-- each mapping of a table has exactly the table's columns
abbrev pub TypedTables : Schema → Environment → Type 0
TypedTables G T = (t : ℕ) → t < G.tables → (m : Mapping) → T t m → Domain m (G.columns t)

either_some : (o p : Option ℕ) → is_some (or_else o p) ≡ is_some o || is_some p
either_some None p = refl
either_some (Some a) p = refl

pub domain_nothing : Domain nothing no_cols
unfolding Domain
domain_nothing c = refl

pub domain_combine : (x y : Mapping) (D E : Cols) → Domain x D → Domain y E → Domain (combine x y) (both D E)
unfolding Domain combine both
domain_combine x y D E h k c = rw (either_some, h c, k c)

pub domain_put : (x : Mapping) (D : Cols) (d : ℕ) (o : Option ℕ) → Domain x D → is_some o ≡ true → Domain (put x d o) (with D d)
unfolding Domain put with
domain_put x D d o h e c = rw (if_apply is_some (eqb c d) o (x c), e, h c)

pub domain_drop : (x : Mapping) (D : Cols) (d : ℕ) → Domain x D → Domain (put x d None) (without D d)
unfolding Domain put without
domain_drop x D d h c = rw (if_apply is_some (eqb c d) None (x c), h c)

pub domain_at : (x : Mapping) (D : Cols) (c : ℕ) → Domain x D → D c ≡ true → is_some (x c) ≡ true
unfolding Domain
domain_at x D c h e = h c ∙ e
