-- The second pass at a node, from the columns that the code holds.
use mathlib.Core.Path.{◌≡◌, refl, ap, ap₂, sym, ◌∙◌}
use mathlib.Core.Bool.{Bool, true, not, ◌&&◌}
use mathlib.Core.List.{List, []}
use Prim.Native.Nat.{ℕ, ◌+◌, ◌-◌, ◌≤◌, ◌<◌}
use native.Mathlib.Omega.{arith}
use lib.Dec.{ltb}
use borrow.Author.Tests.{ltb-true}
use lib.ListN.{length, get_or, take}
use lib.Seq.{length-take-le}
use Rattle.laws.specs.Lists.{every, ◌iff◌}
use Rattle.laws.proofs.Tests.{and_true_left, and_true_right}
use Rattle.laws.proofs.Passes.{every_same, all_same}
use Rattle.algebra.specs.declared.Pairing.{Pairing}
use Rattle.algebra.specs.declared.Pairing.TheVariants.{Union, Join, Except}
use Rattle.algebra.specs.Term.{Term, table, var, fact, pair, filter, copy, drop, last as latest, fix, mu}
use Rattle.algebra.specs.Columns.{Cols, no_cols, Schema, cols, size, named}
use Rattle.relation.specs.declared.Columns.{Columns}
use Rattle.relation.specs.Rows.{columns, cols_of, columns_of}
use Rattle.database.specs.declared.Database.{Database}
use Rattle.database.specs.declared.Refusal.TheVariants.{ColumnFault, NoTable}
use Rattle.database.specs.Stored.{schema}
use Rattle.database.specs.Refusals.{Reply, accepted, no_fault}
use Rattle.query.specs.declared.Node.{Node}
use Rattle.query.specs.declared.Node.TheVariants.{Table, Var, Fact, Pair, Filter, Copy, Drop, Last, Fix, Mu}
use Rattle.query.specs.declared.Query.{Query}
use Rattle.query.specs.Lines.{nodes, lines}
use Rattle.query.specs.Check.{unless, same_cols, sides_ok}
use Rattle.query.specs.Facts.{Visit}
use Rattle.query.specs.Shape.{root, Shaped, Formed}
use Rattle.query.specs.Passes.{visits_of, visit_at, column_faults, second_at}
use Rattle.node_columns.specs.NodeColumns.{node_columns, column_sets}
use Rattle.query.proofs.Starts.{size_pos}
use Rattle.query.proofs.Operands.{last_of, first_of, Under}
use Rattle.query.proofs.ShapedNodes.{visits_count, line_at_lem, shaped_node, whole_last, whole_first}
use Rattle.query.proofs.ScopeNodes.{OnForm, one_formed, node_formed}
use Rattle.node_columns.proofs.ColumnNodes.{columns_at_lem}

-- 9 and 10 as the code has them: the line, the book's tables, the columns of the operands
abbrev pub fault_of : Node → ℕ → Columns → Columns → ℕ → Reply (Unit {0})
fault_of (Table t) tables last first n = no_fault (unless (ltb t tables) (NoTable n))
fault_of (Var v) tables last first n = accepted tt
fault_of (Fact c x) tables last first n = accepted tt
fault_of (Pair o) tables last first n = no_fault (unless (sides_ok columns o (cols_of columns first) (cols_of columns last)) (ColumnFault n))
fault_of (Filter f) tables last first n = no_fault (unless (every (cols_of columns last) (named f)) (ColumnFault n))
fault_of (Copy c d) tables last first n = no_fault (unless (cols_of columns last c && not (cols_of columns last d)) (ColumnFault n))
fault_of (Drop c) tables last first n = no_fault (unless (cols_of columns last c) (ColumnFault n))
fault_of (Last c) tables last first n = no_fault (unless (cols_of columns last c) (ColumnFault n))
fault_of (Fix v) tables last first n = no_fault (unless (same_cols columns (cols_of columns last) (cols_of columns first)) (ColumnFault n))
fault_of (Mu v) tables last first n = accepted tt

-- sets are compared below the width, where they are held
held_same : (D E : Cols) → same_cols columns (cols_of columns (columns_of columns D)) (cols_of columns (columns_of columns E)) ≡ same_cols columns D E
held_same D E = all_same _ _ columns λ c h. ap₂ (λ (s t : Bool). s iff t) (columns_at_lem columns D c h) (columns_at_lem columns E c h)

held_sides : (o : Pairing) (D E : Cols) → sides_ok columns o (cols_of columns (columns_of columns D)) (cols_of columns (columns_of columns E)) ≡ sides_ok columns o D E
held_sides Union D E = held_same D E
held_sides Join D E = refl
held_sides Except D E = refl

held_at : (D : Cols) (c : ℕ) → ltb c columns ≡ true → cols_of columns (columns_of columns D) c ≡ D c
held_at D c e = columns_at_lem columns D c (ltb-true c columns e)

module _ (d : Database) (vs : List Visit) (i n : ℕ) (C : Cols) (v : List ℕ) (last first : Columns)
    (f : 1 ≤ i → last ≡ node_columns (schema columns d) (last_of vs i)) (g : 1 ≤ i → first ≡ node_columns (schema columns d) (first_of vs i)) (m : ℕ) where
  abbrev G : Schema
  G = schema columns d

  abbrev fault : Bool → Reply (Unit {0})
  fault b = no_fault (unless b (ColumnFault m))

  fault_node : (t : Term) → Under G vs i n C v t → n + size t ≡ i + 1 → OnForm t
      → fault_of (root t) G.tables last first m ≡ no_fault (column_faults G t C m)
  unfolding lines size
  fault_node (table t) u h e = refl
  fault_node (var w) u h e = refl
  fault_node (fact c x) u h e = refl
  fault_node (pair o a b) (p, q) h e =
      let k : 1 ≤ i = omega (arith, size_pos a, size_pos b) in
      ap fault (ap₂ (λ (x y : Columns). sides_ok columns o (cols_of columns x) (cols_of columns y)) (g k ∙ ap (node_columns G) q) (f k ∙ ap (node_columns G) p)
      ∙ held_sides o (cols G C a) (cols G C b))
  fault_node (filter c a) u h e =
      let k : 1 ≤ i = omega (arith, size_pos a) in
      ap fault (ap (λ (x : Columns). every (cols_of columns x) (named c)) (f k ∙ ap (node_columns G) u)
      ∙ every_same _ (cols G C a) (λ c. ltb c columns) (named c) (one_formed a (Filter c) e).1 (held_at (cols G C a)))
  fault_node (copy c d a) u h e =
      let k : 1 ≤ i = omega (arith, size_pos a) in
      let s = (one_formed a (Copy c d) e).1 in
      ap fault (ap (λ (x : Columns). cols_of columns x c && not (cols_of columns x d)) (f k ∙ ap (node_columns G) u)
      ∙ ap₂ (λ (x y : Bool). x && not y) (held_at (cols G C a) c (and_true_left _ _ s)) (held_at (cols G C a) d (and_true_right (ltb c columns) _ s)))
  fault_node (drop c a) u h e =
      let k : 1 ≤ i = omega (arith, size_pos a) in
      ap fault (ap (λ (x : Columns). cols_of columns x c) (f k ∙ ap (node_columns G) u) ∙ held_at (cols G C a) c (one_formed a (Drop c) e).1)
  fault_node (latest c a) u h e =
      let k : 1 ≤ i = omega (arith, size_pos a) in
      ap fault (ap (λ (x : Columns). cols_of columns x c) (f k ∙ ap (node_columns G) u) ∙ held_at (cols G C a) c (one_formed a (Last c) e).1)
  fault_node (fix w a b) (p, q) h e =
      let k : 1 ≤ i = omega (arith, size_pos a, size_pos b) in
      ap fault (ap₂ (λ (x y : Columns). same_cols columns (cols_of columns x) (cols_of columns y)) (f k ∙ ap (node_columns G) p) (g k ∙ ap (node_columns G) q)
      ∙ held_same (cols G (cols G C a) b) (cols G C a))
  fault_node (mu w a) u h e = refl

-- 9 or 10 at a node: j is the last operand's place, k the first one's
pub fault_at_lem : (q : Query) (start : List ℕ) (s : Shaped q start) (d : Database) → Formed q → (i : ℕ) → i < q.count
    → (held : List Columns) → held ≡ column_sets (schema columns d) q → (node : Node) → node ≡ get_or (nodes q) i (Table 0)
    → (j k : ℕ) → j ≡ i - 1 → k ≡ get_or start j 0 - 1
    → fault_of node d.tables (get_or held j (record { has = [] })) (get_or held k (record { has = [] })) (i + 1)
    ≡ no_fault (second_at (schema columns d) (take i (visits_of (schema columns d) q)) (visit_at (schema columns d) q i))
fault_at_lem q start s d f i h held is node e j k at from =
    let G = schema columns d in
    let vs = visits_of G q in
    let x = shaped_node q start s G i h in
    let none : Columns = columns_of columns no_cols in
    let nil : Columns = record { has = [] } in
    let l : length (take i vs) ≡ i = length-take-le i vs (omega (arith, visits_count q start s G)) in
    ap (λ (m : Node). fault_of m d.tables (get_or held j nil) (get_or held k nil) (i + 1)) (e ∙ line_at_lem q start s G i ∙ ap (λ (y : Visit). root y.term) x.is)
    ∙ fault_node d vs i x.node.start x.node.variable x.node.around (get_or held j nil) (get_or held k nil)
    (λ _. whole_last q start s G none nil (node_columns G) held is i h j at)
    (λ _. whole_first q start s G none nil (node_columns G) held is i h k (from ∙ ap (λ (m : ℕ). get_or start m 0 - 1) at)) (i + 1) x.node.term x.under
    x.spans (node_formed q start s G f i h)
    ∙ ap₂ (λ (y : Visit) (m : ℕ). no_fault (column_faults G y.term y.variable (m + 1))) (sym x.is) (sym l)
