-- The six rules are sound: what a rule writes at a closed node may stand in the node's place.
use mathlib.Core.Path.{◌≡◌, sym, subst}
use mathlib.Core.Bool.{true}
use Rattle.std.specs.Prelude.{Some}
use mathlib.Core.Logic.{◌↔◌}
use Prim.Native.Nat.{ℕ, ◌≤◌}
use Rattle.laws.proofs.Lists.{count}
use Rattle.algebra.specs.Mapping.{Mapping}
use Rattle.algebra.specs.Term.{Term, Environment, meaning}
use Rattle.algebra.specs.Columns.{Cols, no_cols, Schema, cols, size, fix_numbers}
use Rattle.algebra.specs.WellFormed.{Closed, Path}
use Rattle.algebra.specs.Rules.{Match, match, stable_enough, unused_enough, closed_enough, written}
use Rattle.algebra.proofs.Domain.{TypedTables}
use Rattle.algebra.proofs.Narrow.{Narrow}
use Rattle.algebra.proofs.Redex.{redex, matched}
use Rattle.algebra.proofs.Enough.{enough}
use Rattle.algebra.proofs.Written.{written_size, written_numbers, written_narrow, written_columns, written_closed, written_keeps, closed_passes, open_fails}

-- b is closed, with the columns and the size of a; it means the same over all tables of these columns; it adds no fix number
pub record Sound (G : Schema) (a b : Term) : Type 1 where
  pub closed : Closed G b
  pub columns : cols G no_cols b ≡ cols G no_cols a
  pub keeps : (T : Environment) → TypedTables G T → (ρ : Environment) (m : Mapping) → meaning T a ρ m ↔ meaning T b ρ m
  pub narrow : Narrow G b
  pub numbers : (n : ℕ) → count n (fix_numbers b) ≤ count n (fix_numbers a)
  pub same_size : size b ≡ size a

redex_sound : (G : Schema) (C : Cols) (m : Match) → Closed G (redex m) → Narrow G (redex m)
    → stable_enough G C m ≡ true → unused_enough G C m ≡ true → Sound G (redex m) (written m)
redex_sound G C m p n e e' =
    let h = enough G C m p n e e' in
    record {
      closed = written_closed m p h;
      columns = written_columns G no_cols m;
      keeps = written_keeps m p h;
      narrow = written_narrow G m n;
      numbers = written_numbers m;
      same_size = written_size m;
    }

-- C: the columns of the variable around the node, which a closed node does not depend on
pub rule_sound : {G : Schema} {a : Term} → Closed G a → Narrow G a → (k : ℕ) (C : Cols) (m : Match) → match k a ≡ Some m
    → stable_enough G C m ≡ true → unused_enough G C m ≡ true → Sound G a (written m)
rule_sound {G} {a} p n k C m found e e' =
    let i = matched k a found in
    subst (λ (b : Term). Sound G b (written m)) (sym i) (redex_sound G C m (subst (Closed G) i p) (subst (Narrow G) i n) e e')

-- at a closed node the other operand is closed
pub match_closed : {G : Schema} {a : Term} → Closed G a → (k : ℕ) (m : Match) → match k a ≡ Some m → closed_enough m ≡ true
match_closed {G} {a} p k m found = closed_passes m (subst (Closed G) (matched k a found) p)

-- at an open node no rule is accepted: a fix is closed, so kinds 1, 5 and 6 match nothing there, and in 2 to 4 the other operand is the open one
pub match_open : {G : Schema} {v : ℕ} {D : Cols} {a : Term} → Path G v D a → (k : ℕ) (m : Match) → match k a ≡ Some m
    → closed_enough m ≡ true → ⊥
match_open {G} {v} {D} {a} p k m found e = open_fails m (subst (Path G v D) (matched k a found) p) e
