-- U5's floor sheets "copy the floor to a working column, drop it and copy it back": the column has its origin again.
use mathlib.Core.Path.{◌≡◌, ap, sym, ◌∙◌}
use mathlib.Core.Logic.{◌≢◌}
use Rattle.std.specs.Prelude.{Option}
use Prim.Native.Nat.{ℕ}
use borrow.Author.Tests.{ne_eqb}
use Rattle.laws.proofs.Tests.{eqb_self}
use Rattle.algebra.specs.Term.{Term, copy, drop}
use Rattle.algebra.specs.Columns.{Cols, origin, has_origin, stable}

-- copied to another column and dropped, a column leaves its origin there
moved_origin : (C : Cols) (a b : ℕ) (t : Term) → b ≢ a → origin C (drop a (copy a b t)) b ≡ origin C t a
unfolding origin
moved_origin C a b t h = rw (ne_eqb b a h, eqb_self b)

pub home_origin : (C : Cols) (a b : ℕ) (t : Term) → a ≢ b → origin C (drop b (copy b a (drop a (copy a b t)))) a ≡ origin C t a
home_origin C a b t h = moved_origin C b a (drop a (copy a b t)) h ∙ moved_origin C a b t (λ e. h (sym e))

pub comes_home : (C : Cols) (a b : ℕ) (t : Term) → a ≢ b → stable C (drop b (copy b a (drop a (copy a b t)))) a ≡ stable C t a
comes_home C a b t h = ap (λ (o : Option ℕ). has_origin o a) (home_origin C a b t h)
