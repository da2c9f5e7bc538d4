-- The test of 23 passes exactly if the next line is in the plan, the lines run stay below the ceiling, and each register passes with zeros elsewhere.
use mathlib.Core.Path.{◌≡◌, ap, sym, ◌∙◌}
use mathlib.Core.Bool.{true, false, ◌&&◌}
use Rattle.std.specs.Prelude.{Option, Some, None}
use mathlib.Core.List.{List}
use Prim.Native.Nat.{ℕ, ◌+◌, ◌-◌, ◌*◌, ◌^◌, ◌≤◌, ◌<◌}
use native.Mathlib.Omega.{arith}
use lib.Dec.{leb}
use lib.ListN.{length, drop}
use borrow.Author.Tests.{leb-true, le-leb, lt-ltb}
use Rattle.laws.specs.Lists.{all, every}
use Rattle.laws.proofs.Tests.{true_false, same_tests, and_true, and_true_left, and_true_right}
use Rattle.laws.proofs.Lists.{all_below, all_true}
use Rattle.laws.proofs.EmptyLists.{null_none}
use Rattle.algebra.specs.Term.{Term}
use Rattle.algebra.specs.Columns.{Cols, Schema}
use Rattle.relation.specs.Rows.{Rows, ascend, absent_zero}
use Rattle.relation.specs.Registers.{stretch, encode, workspace_of}
use Rattle.relation.proofs.Entries.{rows_of_length}
use Rattle.plan.specs.Plan.{plan_lines}
use Rattle.machine.specs.declared.Pause.{Pause}
use Rattle.machine.specs.Machine.{Registers}
use Rattle.machine.specs.Run.{register_count}
use Rattle.machine.specs.Workspace.{Holds}
use Rattle.machine.specs.Pauses.{held_in, columns_at, register_ok, same_entries, most_lines, in_plan, registers_ok, nothing_else, below_ceiling, pause_ok}
use Rattle.machine.proofs.Workspaces.{room_at}
use Rattle.machine.proofs.PauseTests.{Passes, test_passes, entries_same}
use Rattle.machine.proofs.PauseRegisters.{passed_holds}
use Rattle.pauses.specs.Places.{zeros, Room, count_at, rows_at, place_ok}
use Rattle.pauses.specs.Tested.{places_ok}
use Rattle.pauses.proofs.PlaceTests.{rest_ok}
use Rattle.pauses.proofs.Stretched.{stretch_is, space_is, rest_zero, behind_zero}

module _ (w L : ℕ) where
  few_rows : (h : Option Cols) (rows : Rows) → register_ok w L h rows ≡ true → length rows ≤ L
  few_rows None rows e = rw (null_none rows e) (omega arith)
  few_rows (Some D) rows e = leb-true (length rows) L (and_true_left (leb (length rows) L) (every (absent_zero w D) rows && ascend rows) e)

  -- the rows of a register that there is
  held_at : (n : ℕ) (ws : List ℕ) (i : ℕ) → i < n → held_in w L n ws i ≡ rows_at w L ws i
  unfolding held_in
  held_at n ws i h = rw (lt-ltb i n h)

module _ (G : Schema) (L budget : ℕ) (t : Term) (p : Pause) (ws : List ℕ) (room : register_count t * stretch G.width L ≤ length ws) where
  abbrev w : ℕ
  w = G.width

  abbrev n : ℕ
  n = register_count t

  abbrev m : Registers
  m = held_in w L n ws

  there : (i : ℕ) → i < n → Room w L i ws
  there i h = omega (arith, room_at (stretch w L) i n h)

  -- what each place and the rest say of the registers
  module _ (laid : places_ok w L G t ws ≡ true) where
    place : (i : ℕ) → i < n → (register_ok w L (columns_at G t i) (rows_at w L ws i) ≡ true) × (rest_ok w L ws i ≡ true)
    unfolding places_ok place_ok
    place i h =
        let e = all_below _ n (and_true_left (all (λ i. place_ok w L ws (columns_at G t i) i) n) (zeros ws (n * stretch w L) (length ws - n * stretch w L)) laid) i h in
        (and_true_left (register_ok w L (columns_at G t i) (rows_at w L ws i)) (rest_ok w L ws i) e, and_true_right (register_ok w L (columns_at G t i) (rows_at w L ws i)) (rest_ok w L ws i) e)

    registers_pass : registers_ok G L budget t p ws ≡ true
    registers_pass = all_true _ n λ i h. ap (register_ok w L (columns_at G t i)) (held_at w L n ws i h) ∙ (place i h).0

    space : ws ≡ workspace_of w L n m (length ws)
    unfolding places_ok
    space = space_is w L m ws n room
        (λ i h.
        let few = rw (rows_of_length w (count_at w L ws i) (drop (stretch w L * i + 1) ws)) at (few_rows w L (columns_at G t i) (rows_at w L ws i) (place i h).0) in
        stretch_is w L ws i (there i h) few (place i h).1 ∙ ap (encode w L) (sym (held_at w L n ws i h)))
        (and_true_right (all (λ i. place_ok w L ws (columns_at G t i) i) n) (zeros ws (n * stretch w L) (length ws - n * stretch w L)) laid)

    laid_passes : 1 ≤ p.next → p.next ≤ length (plan_lines G t) → p.ran + budget ≤ most_lines → pause_ok G L budget t p ws ≡ true
    unfolding pause_ok
    laid_passes first last lines =
        let nothing : nothing_else G L budget t p ws ≡ true = ap (same_entries ws) (sym space) ∙ entries_same ws in
        rw (le-leb 1 p.next first, le-leb p.next (length (plan_lines G t)) last, registers_pass, nothing, le-leb (p.ran + budget) most_lines lines)

  module _ (small : L < 2 ^ 32) (passes : pause_ok G L budget t p ws ≡ true) where
    holds : Holds w L n m ws
    holds = passed_holds G L budget t p ws (test_passes G L budget t p ws room passes) small room

    registers_passed : registers_ok G L budget t p ws ≡ true
    unfolding pause_ok
    registers_passed =
        and_true_left (registers_ok G L budget t p ws) (nothing_else G L budget t p ws && below_ceiling G L budget t p ws)
        (and_true_right (in_plan G L budget t p ws) (registers_ok G L budget t p ws && (nothing_else G L budget t p ws && below_ceiling G L budget t p ws)) passes)

    place_passes : (i : ℕ) → i < n → place_ok w L ws (columns_at G t i) i ≡ true
    unfolding place_ok
    place_passes i h =
        let same = held_at w L n ws i h in
        let count : length (m i) ≡ count_at w L ws i = ap length same ∙ rows_of_length w (count_at w L ws i) (drop (stretch w L * i + 1) ws) in
        and_true (register_ok w L (columns_at G t i) (rows_at w L ws i)) (rest_ok w L ws i)
        (ap (register_ok w L (columns_at G t i)) (sym same) ∙ all_below _ n registers_passed i h)
        (rw count at (rest_zero holds i h))

    passed_laid : places_ok w L G t ws ≡ true
    unfolding places_ok
    passed_laid =
        and_true (all (λ i. place_ok w L ws (columns_at G t i) i) n) (zeros ws (n * stretch w L) (length ws - n * stretch w L))
        (all_true _ n place_passes) (behind_zero holds)

  -- the code's test, where the other two pass; and where one fails
  pub decided : L < 2 ^ 32 → 1 ≤ p.next → p.next ≤ length (plan_lines G t) → p.ran + budget ≤ most_lines → places_ok w L G t ws ≡ pause_ok G L budget t p ws
  decided small first last lines = same_tests (places_ok w L G t ws) (pause_ok G L budget t p ws) (λ e. laid_passes e first last lines) (passed_laid small)

  pub fails : (Passes G L budget t p ws → ⊥) → false ≡ pause_ok G L budget t p ws
  fails f = same_tests false (pause_ok G L budget t p ws) (λ e. true_false (sym e)) (λ e. absurd (f (test_passes G L budget t p ws room e)))
