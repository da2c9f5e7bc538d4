-- A run that finishes has no register over the row limit L.
use mathlib.Core.Path.{◌≡◌}
use mathlib.Core.Bool.{Bool, true, false, not}
use mathlib.Core.List.{List}
use Prim.Native.Nat.{ℕ, ◌≤◌}
use native.Mathlib.Omega.{arith}
use lib.Dec.{eqb}
use lib.ListN.{get_or, length}
use Rattle.laws.specs.Lists.{when◌then◌else◌}
use Rattle.laws.proofs.SiftedLists.{sift_shorter}
use Rattle.algebra.specs.Term.{Term}
use Rattle.algebra.specs.Columns.{Cols, Schema}
use Rattle.relation.specs.Rows.{Rows, cols_of}
use Rattle.relation.specs.Operators.{has, minus_rows}
use Rattle.database.specs.Refusals.{accepted}
use Rattle.database.proofs.Replies.{accepted_same, accepted_then}
use Rattle.plan.specs.declared.Op.{Op}
use Rattle.plan.specs.declared.Op.TheVariants.{Table, Fact, Pair, Filter, Copy, Drop, Last, LoopStart, LoopNext}
use Rattle.plan.specs.declared.Slot.{Slot}
use Rattle.plan.specs.Plan.{blank, plan_lines}
use Rattle.machine.specs.Machine.{Registers, write, State, effect_of, run, start}
use Rattle.machine.specs.Run.{Answer, execute}
use Rattle.machine.proofs.Ends.{ends_finished_at, ends_keep}

-- L: the row limit
module _ (L : ℕ) where
  abbrev pub Few : Registers → Type 0
  Few m = (i : ℕ) → length (m i) ≤ L

  few_write : (m : Registers) (d : ℕ) (rows : Rows) → Few m → length rows ≤ L → Few (write m d rows)
  few_write m d rows h g i = by_test (eqb i d)
    where
      by_test : (b : Bool) → length (when b then rows else m i) ≤ L
      by_test true = g
      by_test false = h i

  module _ (w : ℕ) (tables : ℕ → Rows) where
    few_effect : (D E : Cols) (s : State) (op : Op) → Few s.registers → length (effect_of w tables D E s op).rows ≤ L
        → Few (effect_of w tables D E s op).registers
    unfolding effect_of
    few_effect D E s (Table d t) h g = few_write s.registers d _ h g
    few_effect D E s (Fact d c v) h g = few_write s.registers d _ h g
    few_effect D E s (Pair d a b o) h g = few_write s.registers d _ h g
    few_effect D E s (Filter d a f) h g = few_write s.registers d _ h g
    few_effect D E s (Copy d a c e) h g = few_write s.registers d _ h g
    few_effect D E s (Drop d a c) h g = few_write s.registers d _ h g
    few_effect D E s (Last d a c) h g = few_write s.registers d _ h g
    few_effect D E s (LoopStart d e a p) h g = few_write (write s.registers d (s.registers a)) e _ (few_write s.registers d _ h g) g
    few_effect D E s (LoopNext d e a p) h g =
        let short = sift_shorter (λ x. not (has x (s.registers d))) (s.registers a) in
        let own = h a in
        few_write (write s.registers d _) e (minus_rows (s.registers a) (s.registers d)) (few_write s.registers d _ h g) (omega arith)

    few_run : (plan : List Slot) (budget : ℕ) (n : State) → run w tables L plan budget start ≡ accepted n → Few n.registers
    few_run plan budget n e =
        ends_keep w tables L plan (λ (s : State). Few s.registers)
        (λ s here fits h. let x : Slot = get_or plan s.next (blank w) in few_effect (cols_of w x.left) (cols_of w x.right) s x.op h fits)
        (ends_finished_at w tables L plan budget e) (λ i. omega arith)

  pub few_answer : (G : Schema) (tables : ℕ → Rows) (budget : ℕ) (t : Term) (a : Answer) → execute G tables L budget t ≡ accepted a → length a.rows ≤ L
  unfolding execute
  few_answer G tables budget t a e =
      let (s, ran, is) = accepted_then (run G.width tables L (plan_lines G t) budget start) _ e in
      rw (← accepted_same is) (few_run G.width tables (plan_lines G t) budget s ran _)
