-- The node at a place of a query: the term whose lines end there.
use mathlib.Core.Path.{◌≡◌, refl, ap, sym, ◌∙◌}
use mathlib.Core.List.{List, [], ◌∷◌, ◌++◌, append_assoc}
use Prim.Native.Nat.{ℕ, ◌+◌, ◌-◌, ◌≤◌}
use native.Mathlib.Omega.{arith}
use lib.ListN.{length, take, drop, length-append, take-append-drop}
use lib.Seq.{length-take-le, take_at}
use Rattle.algebra.specs.Term.{Term}
use Rattle.algebra.specs.Columns.{size}
use Rattle.database.specs.Refusals.{Reply, refused, accepted, ◌>>=◌}
use Rattle.database.proofs.Replies.{accepted_refused}
use Rattle.query.specs.declared.Node.{Node}
use Rattle.query.specs.Lines.{lines, read, term_of}
use Rattle.query.proofs.Reading.{read_append, size_lines, flat, unread}
use Rattle.query.proofs.TermLines.{term_read}

-- the lines up to node n put term on the stack of the nodes not yet taken: its lines end at node n, after those of the stack
pub record NodeAt (ns : List Node) (n : ℕ) : Type 0 where
  pub term : Term
  pub stack : List Term
  pub reads : read 0 (take n ns) [] ≡ accepted (term ∷ stack)
  pub splits : ns ≡ flat stack ++ (lines term ++ drop n ns)
  pub before : take (n - size term) ns ≡ flat stack

module _ (ns : List Node) (n : ℕ) (a : Term) (stack : List Term) (reads : read 0 (take n ns) [] ≡ accepted (a ∷ stack)) where
  prefix_flat : take n ns ≡ flat stack ++ lines a
  unfolding flat
  prefix_flat = unread 0 (take n ns) [] reads

  -- the node's lines stand between those of the nodes before and the rest
  pub node_lines : ns ≡ flat stack ++ (lines a ++ drop n ns)
  node_lines =
      sym (take-append-drop n ns) ∙ ap (λ (l : List Node). l ++ drop n ns) prefix_flat ∙ append_assoc (flat stack) (lines a) (drop n ns)

  pub node_before : n ≤ length ns → take (n - size a) ns ≡ flat stack
  node_before h =
      ap (λ (l : List Node). take (n - size a) l) node_lines
      ∙ take_at (flat stack) (lines a ++ drop n ns) (n - size a)
      (omega (arith, length-take-le n ns h, ap length prefix_flat, length-append (flat stack) (lines a), size_lines a))

-- the lines after a node of a query, read on from its stack, leave the query's term
pub read_after : (ns : List Node) (t : Term) → term_of ns ≡ accepted t → (n : ℕ) (stack : List Term) → read 0 (take n ns) [] ≡ accepted stack
    → read (length (take n ns)) (drop n ns) stack ≡ accepted (t ∷ [])
read_after ns t e n stack reads =
    ap (λ (k : ℕ). read k (drop n ns) stack) (omega arith)
    ∙ ap (λ (r : Reply (List Term)). r >>= read (0 + length (take n ns)) (drop n ns)) (sym reads)
    ∙ sym (read_append 0 (take n ns) (drop n ns) [])
    ∙ rw (take-append-drop n ns) (term_read ns t e)

-- each place of a query that reads to a term has its node
pub node_at_lem : (ns : List Node) (t : Term) → term_of ns ≡ accepted t → (n : ℕ) → 1 ≤ n → n ≤ length ns → NodeAt ns n
unfolding flat
node_at_lem ns t e n h k = by_prefix (read 0 (take n ns) []) refl (sym (read_append 0 (take n ns) (drop n ns) []) ∙ rw (take-append-drop n ns) (term_read ns t e))
  where
    by_prefix : (r : Reply (List Term)) → read 0 (take n ns) [] ≡ r → r >>= read (0 + length (take n ns)) (drop n ns) ≡ accepted (t ∷ []) → NodeAt ns n
    by_prefix (refused _) i j = accepted_refused (sym j)
    by_prefix (accepted []) i j =
        absurd (omega (arith, length-take-le n ns k, ap length (unread 0 (take n ns) [] i)))
    by_prefix (accepted (a ∷ stack)) i j = record {
      term = a;
      stack = stack;
      reads = i;
      splits = node_lines ns n a stack i;
      before = node_before ns n a stack i k;
    }
