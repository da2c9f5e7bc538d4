-- The nodes of a query that reads to a term, as the code finds them: by index, from the lines and the starts.
use mathlib.Core.Path.{◌≡◌, ap, ap₂, sym, ◌∙◌, subst}
use mathlib.Core.List.{List, [], map}
use Prim.Native.Nat.{ℕ, ◌+◌, ◌-◌, ◌≤◌, ◌<◌}
use native.Mathlib.Omega.{arith}
use lib.ListN.{length, length-map, get_or, set, take, drop, replicate, get_or-append, get_or-map}
use lib.Seq.{take-length}
use Rattle.laws.proofs.Passes.{filled_at, filled_to, filled_to_at, filled_to_more, get_d_any}
use Rattle.algebra.specs.Columns.{no_cols, Schema}
use Rattle.query.specs.declared.Node.{Node}
use Rattle.query.specs.declared.Node.TheVariants.{Table}
use Rattle.query.specs.declared.Query.{Query}
use Rattle.query.specs.Lines.{node_limit, nodes}
use Rattle.query.specs.Facts.{Visit, visits, visited, padded}
use Rattle.query.specs.Shape.{root, starts, Shaped}
use Rattle.query.specs.Passes.{no_visit, visits_of, visit_at}
use Rattle.query.proofs.TermLines.{term_lines}
use Rattle.query.proofs.Starts.{begins_low}
use Rattle.query.proofs.Visits.{visits_length, visits_lines, visits_starts}
use Rattle.query.proofs.Operands.{last_of, first_of, NodeAt, node_at_lem}
use Rattle.query.proofs.Contexts.{context_of, context, node_context}

module _ (q : Query) (start : List ℕ) (s : Shaped q start) where
  pub start_low : (j : ℕ) → get_or start j 0 ≤ j
  start_low j = rw s.begins (begins_low s.term j)

  -- a node's first operand ends at k, where its last one ends at j
  pub operand_low : (i j k : ℕ) → i < q.count → j ≡ i - 1 → k ≡ get_or start j 0 - 1 → k < node_limit
  operand_low i j k h e f = omega (arith, s.fits, start_low j)

  module _ (G : Schema) where
    pub nodes_are : visits_of G q ≡ visits G no_cols [] 0 s.term
    nodes_are = ap (visited G) s.reads

    pub visits_count : length (visits_of G q) ≡ q.count
    visits_count = ap length nodes_are ∙ visits_length G no_cols [] 0 s.term ∙ s.counted

    pub start_at_lem : (j : ℕ) → get_or start j 0 ≡ (visit_at G q j).start
    start_at_lem j =
        ap (λ (l : List ℕ). get_or l j 0) s.begins ∙ filled_at node_limit 0 (starts 0 s.term) j
        ∙ ap (λ (l : List ℕ). get_or l j 0) (sym (visits_starts G no_cols [] 0 s.term))
        ∙ get_or-map (λ (x : Visit). x.start) (visits G no_cols [] 0 s.term) j no_visit ∙ ap (λ (l : List Visit). (get_or l j no_visit).start) (sym nodes_are)

    pub lines_are : nodes q ≡ map (λ (x : Visit). root x.term) (visits_of G q)
    lines_are =
        (term_lines (nodes q) s.term).0 s.reads ∙ sym (visits_lines G no_cols [] 0 s.term) ∙ ap (map (λ (x : Visit). root x.term)) (sym nodes_are)

    -- each line is its node's
    pub line_at_lem : (i : ℕ) → get_or (nodes q) i (Table 0) ≡ root (visit_at G q i).term
    line_at_lem i = ap (λ (l : List Node). get_or l i (Table 0)) lines_are ∙ get_or-map (λ (x : Visit). root x.term) (visits_of G q) i no_visit

    module _ (i : ℕ) (h : i < q.count) where
      pub shaped_node : NodeAt G (visits_of G q) i
      shaped_node = subst (λ (l : List Visit). NodeAt G l i) (sym nodes_are) (node_at_lem G no_cols [] s.term i (rw s.counted h))

      -- what stands around it
      pub shaped_context : context_of (visit_at G q i) ≡ context G i (drop (i + 1) (visits_of G q)) (record { variable = no_cols; around = [] })
      shaped_context =
          subst (λ (l : List Visit). context_of (get_or l i no_visit) ≡ context G i (drop (i + 1) l) (record { variable = no_cols; around = [] })) (sym nodes_are)
          (node_context G no_cols [] s.term i (rw s.counted h))

      -- what an array that holds something of each lower node says of the operands
      module _ {B : Type 0} (d e : B) (f : Visit → B) (held : List B) (is : held ≡ filled_to node_limit d f (visits_of G q) i) where
        pub last_held : (j : ℕ) → j ≡ i - 1 → 1 ≤ i → get_or held j e ≡ f (last_of (visits_of G q) i)
        last_held j at k =
            ap₂ (λ (l : List B) (m : ℕ). get_or l m e) is at
            ∙ filled_to_at node_limit d f (visits_of G q) i no_visit e (i - 1) (omega arith) (omega (arith, visits_count))

        pub first_held : (j : ℕ) → j ≡ get_or start (i - 1) 0 - 1 → 1 ≤ i → get_or held j e ≡ f (first_of (visits_of G q) i)
        first_held j at k =
            ap₂ (λ (l : List B) (m : ℕ). get_or l m e) is at
            ∙ filled_to_at node_limit d f (visits_of G q) i no_visit e (get_or start (i - 1) 0 - 1) (omega (arith, start_low (i - 1))) (omega (arith, visits_count))
            ∙ ap (λ (j : ℕ). f (get_or (visits_of G q) (j - 1) no_visit)) (start_at_lem (i - 1))

        -- what is stored for the node itself
        pub held_more : (v : B) → v ≡ f (visit_at G q i) → set held i v ≡ filled_to node_limit d f (visits_of G q) (i + 1)
        held_more v at =
            let k = s.fits in
            ap (λ (l : List B). set l i v) is ∙ filled_to_more node_limit d f (visits_of G q) i no_visit v (omega (arith, visits_count)) (omega arith) at

    -- after the last node
    pub held_all : {B : Type 0} (d : B) (f : Visit → B) (i : ℕ) → i ≡ q.count → filled_to node_limit d f (visits_of G q) i ≡ padded d (map f (visits_of G q))
    held_all d f i h = ap (λ (l : List Visit). padded d (map f l)) (ap (λ (k : ℕ). take k (visits_of G q)) (h ∙ sym visits_count) ∙ take-length (visits_of G q))

    -- what a whole array says of a node, and of the operands of one
    module _ {B : Type 0} (d e : B) (f : Visit → B) (held : List B) (is : held ≡ padded d (map f (visits_of G q))) where
      pub whole_at : (j : ℕ) → j < q.count → get_or held j e ≡ f (visit_at G q j)
      whole_at j h =
          let vs = visits_of G q in
          let n : length (map f vs) ≡ q.count = length-map vs f ∙ visits_count in
          ap (λ (l : List B). get_or l j e) is ∙ get_or-append (map f vs) (replicate (node_limit - length (map f vs)) d) e j (omega arith)
          ∙ get_d_any (map f vs) j e (f no_visit) (omega arith) ∙ get_or-map f vs j no_visit

      module _ (i : ℕ) (h : i < q.count) where
        pub whole_last : (j : ℕ) → j ≡ i - 1 → get_or held j e ≡ f (last_of (visits_of G q) i)
        whole_last j at = ap (λ (m : ℕ). get_or held m e) at ∙ whole_at (i - 1) (omega arith)

        pub whole_first : (k : ℕ) → k ≡ get_or start (i - 1) 0 - 1 → get_or held k e ≡ f (first_of (visits_of G q) i)
        whole_first k at =
            ap (λ (m : ℕ). get_or held m e) at ∙ whole_at (get_or start (i - 1) 0 - 1) (omega (arith, start_low (i - 1)))
            ∙ ap (λ (m : ℕ). f (get_or (visits_of G q) (m - 1) no_visit)) (start_at_lem (i - 1))
