-- The test of a node's registers by its line and its told columns, and the nodes tested so far.
use mathlib.Core.Path.{◌≡◌, refl, ap, ap₂, sym, ◌∙◌, fun_ext}
use mathlib.Core.Bool.{Bool, true, false, ◌&&◌, ◌||◌}
use Rattle.std.specs.Prelude.{Option, Some, None}
use mathlib.Core.List.{List, [], map}
use Prim.Native.Nat.{ℕ, ◌+◌, ◌-◌, ◌*◌, ◌<◌}
use native.Mathlib.Omega.{arith}
use lib.Dec.{eqb, leb}
use lib.ListN.{length, get_or}
use lib.Seq.{take_all}
use Rattle.laws.specs.Lists.{when◌then◌else◌, all, every}
use Rattle.laws.proofs.Tests.{true_false, and_true_left, and_true_right}
use Rattle.laws.proofs.Tabulated.{get_d_tabulate}
use Rattle.laws.proofs.EachMember.{get_d_map}
use Rattle.laws.proofs.Indexed.{and_unit, all_none, all_more, all_fails, all_sum}
use Rattle.laws.proofs.Passes.{filled, filled_to_at, all_same}
use Rattle.algebra.specs.Term.{Term, table, var, fact, pair, filter, copy, drop, last, fix, mu}
use Rattle.algebra.specs.Columns.{Cols, no_cols, Schema, cols, size, fixes}
use Rattle.relation.specs.declared.Columns.{Columns}
use Rattle.relation.specs.Rows.{Row, Rows, ascend, absent_zero, slot, cols_of, columns_of}
use Rattle.relation.specs.Registers.{stretch}
use Rattle.relation.proofs.CodeRows.{held}
use Rattle.database.specs.declared.Database.{Database}
use Rattle.database.specs.Stored.{schema}
use Rattle.query.specs.declared.Node.{Node}
use Rattle.query.specs.declared.Node.TheVariants.{Table}
use Rattle.query.specs.declared.Query.{Query}
use Rattle.query.specs.declared.Facts.{Facts}
use Rattle.query.specs.Lines.{node_limit, nodes}
use Rattle.query.specs.Facts.{Visit}
use Rattle.query.specs.Shape.{root, has_step}
use Rattle.query.specs.Passes.{no_visit}
use Rattle.query.proofs.Visits.{visits_lines}
use Rattle.machine.specs.Run.{register_count}
use Rattle.machine.specs.Pauses.{node_columns, columns_at}
use Rattle.machine.proofs.Workspaces.{room_at}
use Rattle.pauses.specs.Places.{zeros, Room, count_at, rows_at, place_ok, is_var, node_ok}
use Rattle.pauses.specs.Tested.{places_ok, Laid}
use Rattle.pauses.proofs.PlaceTests.{rest_ok, place_some}
use Rattle.pauses.proofs.NodeRegisters.{nodes_of, node, node_cols, is_fix, fixes_before, nodes_counted, own_at, delta_at, fixes_none, fixes_more, fixes_all, fixes_few}

-- only the columns below w are asked for
absent_round : (w : ℕ) (D : Cols) → absent_zero w (cols_of w (columns_of w D)) ≡ absent_zero w D
absent_round w D = fun_ext λ (r : Row). all_same _ _ w λ c h.
    ap (λ (b : Bool). b || eqb (slot r c) 0) (held w (columns_of w D) c h (get_d_tabulate D w c false h))

module _ (w L : ℕ) (ws : List ℕ) where
  some_round : (D : Cols) (i : ℕ) → place_ok w L ws (Some (cols_of w (columns_of w D))) i ≡ place_ok w L ws (Some D) i
  some_round D i =
      let (n, rows) : ℕ × Rows = (count_at w L ws i, rows_at w L ws i) in
      place_some w L ws i (cols_of w (columns_of w D))
      ∙ ap (λ (test : Row → Bool). leb n L && ((every test rows && ascend rows) && rest_ok w L ws i)) (absent_round w D)
      ∙ sym (place_some w L ws i D)

  -- a node's columns as the check tells them
  node_round : (x : Node) (D : Cols) (i delta : ℕ) → node_ok w L ws x (cols_of w (columns_of w D)) i delta ≡ node_ok w L ws x D i delta
  unfolding node_ok
  node_round x D i delta =
      ap₂ (λ (a b : Bool). when is_var x then place_ok w L ws None i else a && (when has_step x then b else true)) (some_round D i) (some_round D delta)

  -- a `var` is told by its line, and is no fix
  node_line_lem : (t : Term) (D : Cols) (i delta : ℕ)
      → node_ok w L ws (root t) D i delta ≡ place_ok w L ws (node_columns t D) i && (when has_step (root t) then place_ok w L ws (Some D) delta else true)
  unfolding node_ok node_columns
  node_line_lem (table t) D i delta = refl
  node_line_lem (var v) D i delta = sym (and_unit (place_ok w L ws None i))
  node_line_lem (fact c x) D i delta = refl
  node_line_lem (pair o a b) D i delta = refl
  node_line_lem (filter f a) D i delta = refl
  node_line_lem (copy c e a) D i delta = refl
  node_line_lem (drop c a) D i delta = refl
  node_line_lem (last c a) D i delta = refl
  node_line_lem (fix v a b) D i delta = refl
  node_line_lem (mu v a) D i delta = refl

module _ {w L : ℕ} {q : Query} {facts : Facts} {ws : List ℕ} {d : Database} {t : Term} (laid : Laid w q facts L ws d t) where
  abbrev G : Schema
  G = schema w d

  -- register j may hold what it holds
  abbrev pub fine : ℕ → Bool
  fine j = place_ok w L ws (columns_at G t j) j

  -- the delta register of a fix, and the next one's where a node is none
  abbrev pub delta_of : ℕ → ℕ
  delta_of i = size t + fixes_before G t i

  line_at_lem : (i : ℕ) → i < size t → get_or (nodes q) i (Table 0) ≡ root (node G t i).term
  line_at_lem i h =
      let m = nodes_counted G t in
      ap (λ (l : List Node). get_or l i (Table 0)) (laid.own ∙ sym (visits_lines G no_cols [] 0 t))
      ∙ get_d_map (λ (x : Visit). root x.term) no_visit (Table 0) (nodes_of G t) i (omega arith)

  columns_at_lem : (z : Columns) (i : ℕ) → i < size t → get_or facts.columns i z ≡ columns_of w (node_cols G t i)
  columns_at_lem z i h =
      let m = nodes_counted G t in
      let vs = nodes_of G t in
      let f : Visit → Columns = λ x. columns_of w (cols G x.variable x.term) in
      ap (λ (g : Facts). get_or g.columns i z) laid.told
      ∙ ap (λ (l : List Visit). get_or (filled node_limit (columns_of w no_cols) (map f l)) i z) (sym (take_all (length vs) vs (omega arith)))
      ∙ filled_to_at node_limit (columns_of w no_cols) f vs (length vs) no_visit z i (omega arith) (omega arith)

  node_is : (z : Columns) (i : ℕ) → i < size t
      → node_ok w L ws (get_or (nodes q) i (Table 0)) (cols_of w (get_or facts.columns i z)) i (delta_of i)
      ≡ fine i && (when is_fix G t i then fine (delta_of i) else true)
  node_is z i h =
      let D = node_cols G t i in
      let x = node G t i in
      ap₂ (λ (line : Node) (set : Columns). node_ok w L ws line (cols_of w set) i (delta_of i)) (line_at_lem i h) (columns_at_lem z i h)
      ∙ node_round w L ws (root x.term) D i (delta_of i)
      ∙ node_line_lem w L ws x.term D i (delta_of i)
      ∙ ap₂ ◌&&◌ (ap (λ (o : Option Cols). place_ok w L ws o i) (sym (own_at G t i h))) (by_step (is_fix G t i) refl)
    where
      by_step : (b : Bool) → is_fix G t i ≡ b → (when b then place_ok w L ws (Some (node_cols G t i)) (delta_of i) else true) ≡ when b then fine (delta_of i) else true
      by_step true e = ap (λ (o : Option Cols). place_ok w L ws o (delta_of i)) (sym (delta_at G t i h e))
      by_step false e = refl

  -- all entries of these registers are there
  pub own_room : (i : ℕ) → i < size t → Room w L i ws
  own_room i h = omega (arith, room_at (stretch w L) i (register_count t) (omega arith), laid.room)

  fix_more : (i : ℕ) → i < size t → is_fix G t i ≡ true → fixes_before G t (i + 1) ≡ fixes_before G t i + 1
  fix_more i h e = rw e at (fixes_more G t i h)

  other_more : (i : ℕ) → i < size t → is_fix G t i ≡ false → fixes_before G t (i + 1) ≡ fixes_before G t i
  other_more i h e = let same = rw e at (fixes_more G t i h) in omega arith

  delta_there : (i : ℕ) → i < size t → is_fix G t i ≡ true → delta_of i < register_count t
  delta_there i h e = omega (arith, fix_more i h e, fixes_few G t (i + 1))

  pub delta_room : (i : ℕ) → i < size t → is_fix G t i ≡ true → Room w L (delta_of i) ws
  delta_room i h e = omega (arith, room_at (stretch w L) (delta_of i) (register_count t) (delta_there i h e), laid.room)

  -- both tests of a node
  abbrev pub both_fine : ℕ → Bool
  both_fine i = fine i && (when is_fix G t i then fine (delta_of i) else true)

  -- the registers of the first i nodes have passed; registers: the delta register of the next fix
  pub record SoFar (i registers : ℕ) : Type 0 where
    pub next : registers ≡ delta_of i
    pub own : all fine i ≡ true
    pub deltas : all (λ j. fine (size t + j)) (fixes_before G t i) ≡ true

  -- the test of node i, as the code asks it
  pub node_tested : {i registers : ℕ} → i < size t → SoFar i registers → (line : Node) → line ≡ get_or (nodes q) i (Table 0)
      → node_ok w L ws line (cols_of w (get_or facts.columns i (record { has = [] }))) i registers ≡ both_fine i
  node_tested {i} h s line e =
      ap₂ (λ (x : Node) (delta : ℕ). node_ok w L ws x (cols_of w (get_or facts.columns i (record { has = [] }))) i delta) e s.next
      ∙ node_is (record { has = [] }) i h

  pub step_told : {i : ℕ} → i < size t → (line : Node) → line ≡ get_or (nodes q) i (Table 0) → is_fix G t i ≡ has_step line
  step_told {i} h line e = ap has_step (sym (e ∙ line_at_lem i h))

  pub none_yet : SoFar 0 (size t)
  none_yet = record {
    next = omega (arith, fixes_none G t);
    own = all_none fine;
    deltas = rw (fixes_none G t) (all_none _);
  }

  module _ {i registers : ℕ} (here : i < size t) (s : SoFar i registers) (passes : both_fine i ≡ true) where
    own_passes : fine i ≡ true
    own_passes = and_true_left (fine i) (when is_fix G t i then fine (delta_of i) else true) passes

    pub one_fix : is_fix G t i ≡ true → SoFar (i + 1) (registers + 1)
    one_fix e = record {
      next = omega (arith, s.next, fix_more i here e);
      own = all_more fine i s.own own_passes;
      deltas = rw (fix_more i here e)
          (all_more (λ j. fine (size t + j)) (fixes_before G t i) s.deltas (and_true_right (fine i) (fine (delta_of i)) (rw e at passes)));
    }

    pub one_other : is_fix G t i ≡ false → SoFar (i + 1) registers
    one_other e = record {
      next = omega (arith, s.next, other_more i here e);
      own = all_more fine i s.own own_passes;
      deltas = rw (other_more i here e) s.deltas;
    }

  failed : (j : ℕ) → j < register_count t → fine j ≡ false → places_ok w L G t ws ≡ false
  unfolding places_ok
  failed j h e = rw (all_fails fine (register_count t) j h e)

  pub one_fails : (i : ℕ) → i < size t → both_fine i ≡ false → places_ok w L G t ws ≡ false
  one_fails i h e = by_own (fine i) refl e
    where
      by_step : (b : Bool) → is_fix G t i ≡ b → (when b then fine (delta_of i) else true) ≡ false → places_ok w L G t ws ≡ false
      by_step true f e = failed (delta_of i) (delta_there i h f) e
      by_step false f e = true_false e

      by_own : (b : Bool) → fine i ≡ b → b && (when is_fix G t i then fine (delta_of i) else true) ≡ false → places_ok w L G t ws ≡ false
      by_own true f e = by_step (is_fix G t i) refl e
      by_own false f e = failed i (omega arith) f

  -- every register has passed: what is behind them is left
  pub registers_are : {registers : ℕ} → SoFar (size t) registers → registers ≡ register_count t
  registers_are s = omega (arith, s.next, fixes_all G t)

  pub all_passed : {registers : ℕ} → SoFar (size t) registers
      → zeros ws (registers * stretch w L) (length ws - registers * stretch w L) ≡ places_ok w L G t ws
  unfolding places_ok
  all_passed s =
      let passes : all fine (register_count t) ≡ true =
      all_sum fine (size t) (fixes t) ∙ rw s.own (ap (all (λ j. fine (size t + j))) (sym (fixes_all G t)) ∙ s.deltas) in
      rw (passes, registers_are s)
