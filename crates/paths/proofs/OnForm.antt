-- Which lines a path's sheet can have: its names and its recursion numbers are below 16, its columns below 3. So they are on the form.
use mathlib.Core.Path.{◌≡◌, refl}
use mathlib.Core.Bool.{true}
use Prim.Native.Nat.{ℕ, ◌+◌, ◌≤◌, ◌<◌}
use native.Mathlib.Omega.{arith}
use borrow.Author.Tests.{lt-ltb}
use Rattle.laws.proofs.Tests.{and_true}
use Rattle.laws.proofs.EachMember.{Each, each_append}
use Rattle.laws.proofs.EmptyLists.{each_split}
use Rattle.algebra.specs.declared.Pairing.{Pairing}
use Rattle.algebra.specs.Term.{Term, var, pair, copy}
use Rattle.database.specs.Stored.{table_limit}
use Rattle.query.specs.declared.Node.{Node}
use Rattle.query.specs.declared.Node.TheVariants.{Table, Var, Pair, Copy, Drop, Fix}
use Rattle.query.specs.Lines.{on_form, lines}
use Rattle.paths.specs.Grammar.{PropertyPath, name, alternative, sequence, inverse, plus}
use Rattle.paths.specs.Sheets.{renamed, through_middle, exchanged, recursions, term_from, names}

-- a statement that holds of each line that a path's sheet can have
pub record OfLines (P : Node → Type 0) : Type 0 where
  pub of_table : (t : ℕ) → t < table_limit → P (Table t)
  pub of_var : (v : ℕ) → v < table_limit → P (Var v)
  pub of_pair : (o : Pairing) → P (Pair o)
  pub of_copy : (c d : ℕ) → c < 3 → d < 3 → P (Copy c d)
  pub of_drop : (c : ℕ) → c < 3 → P (Drop c)
  pub of_fix : (v : ℕ) → v < table_limit → P (Fix v)

module _ (P : Node → Type 0) (of : OfLines P) where
  abbrev Holds : Term → Type 0
  Holds t = Each P (lines t)

  renamed_holds : (c d : ℕ) (a : Term) → c < 3 → d < 3 → Holds a → Holds (renamed c d a)
  unfolding lines
  renamed_holds c d a i j h =
      each_append _ (lines (copy c d a)) _ (each_append _ (lines a) _ h (of.of_copy c d i j, tt)) (of.of_drop c i, tt)

  through_holds : (a b : Term) → Holds a → Holds b → Holds (through_middle a b)
  unfolding lines
  through_holds a b h k =
      each_append _ (lines (pair _ (renamed 1 2 a) (renamed 0 2 b))) _
      (each_append _ (lines (renamed 1 2 a)) _ (renamed_holds 1 2 a (omega arith) (omega arith) h)
      (each_append _ (lines (renamed 0 2 b)) _ (renamed_holds 0 2 b (omega arith) (omega arith) k) (of.of_pair _, tt)))
      (of.of_drop 2 (omega arith), tt)

  exchanged_holds : (a : Term) → Holds a → Holds (exchanged a)
  exchanged_holds a h =
      renamed_holds 2 1 (renamed 1 0 (renamed 0 2 a)) (omega arith) (omega arith)
      (renamed_holds 1 0 (renamed 0 2 a) (omega arith) (omega arith) (renamed_holds 0 2 a (omega arith) (omega arith) h))

  pub term_each : (n : ℕ) (p : PropertyPath) → Each (λ t. t < table_limit) (names p) → n + recursions p ≤ table_limit → Holds (term_from n p)
  unfolding lines term_from names recursions
  term_each n (name t) h k = (of.of_table t h.0, tt)
  term_each n (alternative p q) h k =
      let (i, j) = each_split _ (names p) (names q) h in
      each_append _ (lines (term_from n p)) _ (term_each n p i (omega arith))
      (each_append _ (lines (term_from (n + recursions p) q)) _ (term_each (n + recursions p) q j (omega arith)) (of.of_pair _, tt))
  term_each n (sequence p q) h k =
      let (i, j) = each_split _ (names p) (names q) h in
      through_holds (term_from n p) (term_from (n + recursions p) q) (term_each n p i (omega arith)) (term_each (n + recursions p) q j (omega arith))
  term_each n (inverse p) h k = exchanged_holds (term_from n p) (term_each n p h k)
  term_each n (plus p) h k =
      let v = n + (recursions p + recursions p) in
      each_append _ (lines (term_from n p)) _ (term_each n p h (omega arith))
      (each_append _ (lines (through_middle (var v) (term_from (n + recursions p) p))) _
      (through_holds (var v) (term_from (n + recursions p) p) (of.of_var v (omega arith), tt) (term_each (n + recursions p) p h (omega arith)))
      (of.of_fix v (omega arith), tt))

-- they are on the form
pub on_form_lem : (w : ℕ) → 3 ≤ w → OfLines (λ x. on_form w x ≡ true)
on_form_lem w roomy =
    record {
      of_table = λ t h. lt-ltb t table_limit h;
      of_var = λ v h. lt-ltb v table_limit h;
      of_pair = λ o. refl;
      of_copy = λ c d h k. and_true _ _ (lt-ltb c w (omega arith)) (lt-ltb d w (omega arith));
      of_drop = λ c h. lt-ltb c w (omega arith);
      of_fix = λ v h. lt-ltb v table_limit h;
    }
