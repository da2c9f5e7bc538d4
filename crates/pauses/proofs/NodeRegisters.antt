-- Which registers a node has, and with which columns: its own at the node's place, and a fix's delta register behind those of the fixes before it.
use mathlib.Core.Path.{◌≡◌, refl, ap, sym, ◌∙◌}
use mathlib.Core.Bool.{Bool, true}
use Rattle.std.specs.Prelude.{Option, Some, None}
use mathlib.Core.List.{List, [], ◌∷◌, ◌++◌, map, flat_map}
use Prim.Native.Nat.{ℕ, suc, ◌+◌, ◌≤◌, ◌<◌}
use native.Mathlib.Omega.{arith}
use lib.ListN.{length, take, drop, get_or, length-append, length-map, take-append-drop, get_or-append}
use lib.Seq.{take_all, drop-cons, get_or_at, get_or-append-add}
use Rattle.laws.specs.Lists.{when◌then◌else◌}
use Rattle.laws.proofs.Tests.{if_apply}
use Rattle.laws.proofs.EachMember.{get_d_map, flat_map_append}
use Rattle.laws.proofs.FlatMaps.{flat_map_more}
use Rattle.algebra.specs.Term.{Term, table, var, fact, pair, filter, copy, drop as dropTerm, last, fix, mu}
use Rattle.algebra.specs.Columns.{Cols, no_cols, Schema, cols, size, fixes}
use Rattle.query.specs.Facts.{Visit, visits}
use Rattle.query.specs.Shape.{root, has_step}
use Rattle.query.specs.Passes.{no_visit}
use Rattle.query.proofs.Visits.{visits_length}
use Rattle.machine.specs.Pauses.{delta_columns, own_columns, added_columns, register_columns, columns_at}
use Rattle.machine.proofs.RegisterColumns.{added_length}

-- a fix is told by its line
delta_line : (t : Term) (D : Cols) → delta_columns t D ≡ when has_step (root t) then Some D ∷ [] else []
unfolding delta_columns
delta_line (table t) D = refl
delta_line (var v) D = refl
delta_line (fact c x) D = refl
delta_line (pair o a b) D = refl
delta_line (filter f a) D = refl
delta_line (copy c e a) D = refl
delta_line (dropTerm c a) D = refl
delta_line (last c a) D = refl
delta_line (fix v a b) D = refl
delta_line (mu v a) D = refl

module _ (G : Schema) (t : Term) where
  abbrev pub nodes_of : List Visit
  nodes_of = visits G no_cols [] 0 t

  abbrev pub node : ℕ → Visit
  node i = get_or nodes_of i no_visit

  abbrev pub node_cols : ℕ → Cols
  node_cols i = cols G (node i).variable (node i).term

  abbrev pub is_fix : ℕ → Bool
  is_fix i = has_step (root (node i).term)

  -- the fixes before a node
  pub fixes_before : ℕ → ℕ
  fixes_before i = length (flat_map (added_columns G) (take i nodes_of))

  pub nodes_counted : length nodes_of ≡ size t
  nodes_counted = visits_length G no_cols [] 0 t

  own_length : length (map (own_columns G) nodes_of) ≡ size t
  own_length = length-map nodes_of (own_columns G) ∙ nodes_counted

  pub own_at : (i : ℕ) → i < size t → columns_at G t i ≡ own_columns G (node i)
  unfolding register_columns
  own_at i h =
      let n = own_length in
      let m = nodes_counted in
      get_or-append (map (own_columns G) nodes_of) (flat_map (added_columns G) nodes_of) None i (omega arith)
      ∙ get_d_map (own_columns G) no_visit None nodes_of i (omega arith)

  -- the delta registers before a node's, and those from it on
  added_split : (i : ℕ) → flat_map (added_columns G) nodes_of ≡ flat_map (added_columns G) (take i nodes_of) ++ flat_map (added_columns G) (drop i nodes_of)
  added_split i = ap (flat_map (added_columns G)) (sym (take-append-drop i nodes_of)) ∙ flat_map_append (added_columns G) (take i nodes_of) (drop i nodes_of)

  pub delta_at : (i : ℕ) → i < size t → is_fix i ≡ true → columns_at G t (size t + fixes_before i) ≡ Some (node_cols i)
  unfolding register_columns fixes_before flat_map
  delta_at i h step =
      let m = nodes_counted in
      let k = fixes_before i in
      let all : List (Option Cols) = flat_map (added_columns G) nodes_of in
      let before : List (Option Cols) = flat_map (added_columns G) (take i nodes_of) in
      let first : added_columns G (node i) ≡ Some (node_cols i) ∷ [] = delta_line (node i).term (node_cols i) ∙ rw step in
      let from : flat_map (added_columns G) (drop i nodes_of) ≡ Some (node_cols i) ∷ flat_map (added_columns G) (drop (suc i) nodes_of) =
      ap (flat_map (added_columns G)) (drop-cons nodes_of i no_visit (omega arith)) ∙ ap (λ (l : List (Option Cols)). l ++ flat_map (added_columns G) (drop (suc i) nodes_of)) first in
      ap (λ (n : ℕ). get_or (register_columns G t) (n + k) None) (sym own_length)
      ∙ get_or-append-add (map (own_columns G) nodes_of) all k None
      ∙ ap (λ (l : List (Option Cols)). get_or l k None) (added_split i ∙ ap (λ (l : List (Option Cols)). before ++ l) from)
      ∙ get_or_at before (Some (node_cols i)) (flat_map (added_columns G) (drop (suc i) nodes_of)) None k refl

  pub fixes_none : fixes_before 0 ≡ 0
  unfolding fixes_before flat_map
  fixes_none = refl

  pub fixes_more : (i : ℕ) → i < size t → fixes_before (i + 1) ≡ fixes_before i + (when is_fix i then 1 else 0)
  unfolding fixes_before
  fixes_more i h =
      let m = nodes_counted in
      ap length (sym (flat_map_more (added_columns G) nodes_of i no_visit (omega arith)))
      ∙ length-append (flat_map (added_columns G) (take i nodes_of)) (added_columns G (node i))
      ∙ ap (λ (n : ℕ). fixes_before i + n)
      (ap length (delta_line (node i).term (node_cols i)) ∙ if_apply length (is_fix i) (Some (node_cols i) ∷ []) [])

  pub fixes_all : fixes_before (size t) ≡ fixes t
  unfolding fixes_before
  fixes_all =
      let m = nodes_counted in
      ap (λ (l : List Visit). length (flat_map (added_columns G) l)) (take_all (size t) nodes_of (omega arith)) ∙ added_length G no_cols [] 0 t

  pub fixes_few : (i : ℕ) → fixes_before i ≤ fixes t
  unfolding fixes_before
  fixes_few i =
      omega (
        arith,
        ap length (added_split i),
        length-append (flat_map (added_columns G) (take i nodes_of)) (flat_map (added_columns G) (drop i nodes_of)),
        added_length G no_cols [] 0 t,
      )
