-- A step at a node of a checked query, for any rule: what a rule replies for the term of each node is what the definition replies at the node.
use mathlib.Core.Path.{◌≡◌, ap, ap₂, sym, ◌∙◌}
use Rattle.std.specs.Prelude.{Option, Some, None}
use Prim.Native.Nat.{ℕ, ◌+◌, ◌-◌, ◌≤◌, ◌<◌}
use native.Mathlib.Omega.{arith}
use native.Mathlib.Decide.{dec_lt}
use lib.ListN.{length}
use borrow.Author.Tests.{le-leb, lt-leb}
use Rattle.algebra.specs.Term.{Term}
use Rattle.algebra.specs.Columns.{Cols, no_cols, Schema, size}
use Rattle.relation.specs.Rows.{columns}
use Rattle.database.specs.declared.Database.{Database}
use Rattle.database.specs.declared.Refusal.TheVariants.{NoMatch}
use Rattle.database.specs.Stored.{schema}
use Rattle.database.specs.Refusals.{Reply, accepted, or_refuse, ◌>>=◌}
use Rattle.query.specs.declared.Query.{Query}
use Rattle.query.specs.Lines.{nodes, lines, read}
use Rattle.query.proofs.Reading.{size_lines}
use Rattle.rewrite.specs.Rewrite.{around, top, ended_at, replaced, with_nodes}
use Rattle.matching.specs.Found.{at_node}
use Rattle.matching.proofs.Replies.{no_node, past_node_lem, at_node_lem}
use Rattle.matching.proofs.Standing.{Here, NodeOf, node_of_lem, here_all, here_reads}

-- the query with what a rule writes for the term of node n
abbrev pub replaced_by : Query → ℕ → Term → Term → Query
replaced_by q n a b = with_nodes q (replaced (nodes q) n a b)

-- what the definition replies for the term of node n; R: what a rule replies for a term, by the columns of the variable around it
abbrev pub reply_of : Query → (Cols → Term → Reply Term) → ℕ → Cols → Option Term → Reply Query
reply_of q R n C o = or_refuse o NoMatch >>= λ a. R C a >>= λ b. accepted (replaced_by q n a b)

module _ (d : Database) (q : Query) (t : Term) (written : nodes q ≡ lines t) (counted : length (nodes q) ≡ q.count) where
  abbrev G : Schema
  G = schema columns d

  pub as_counted : size t ≡ q.count
  as_counted = sym (size_lines t) ∙ ap length (sym written) ∙ counted

  -- node n
  pub node_at_lem : (n : ℕ) → 1 ≤ n → n ≤ q.count → NodeOf d q t written no_cols 0 t n
  node_at_lem n h k = let e = as_counted in node_of_lem d q t written t no_cols 0 n h (omega arith) (here_all d q t written)

  -- reply: what is replied by the index
  module _ (R : Cols → Term → Reply Term) (reply : ℕ → Reply Query) (n : ℕ) where
    past : q.count < n → ended_at (nodes q) n ≡ None
    unfolding ended_at
    past h = rw (lt-leb n (length (nodes q)) (omega arith))

    ended : {C : Cols} {s : ℕ} (a : Term) → Here d q t written C s a → s + size a ≡ n → n ≤ q.count → ended_at (nodes q) n ≡ Some a
    unfolding ended_at
    ended a h e i = rw (le-leb n (length (nodes q)) (omega arith)) (ap top (here_reads d q t written h n e))

    first : n ≡ 0 → ended_at (nodes q) n ≡ None
    unfolding ended_at read
    first e = rw (e, le-leb 0 (length (nodes q)) (omega arith))

    pub step_at_node : ((C : Cols) (s : ℕ) (a : Term) → Here d q t written C s a → s + size a ≡ n → R C a >>= (λ b. accepted (replaced_by q n a b)) ≡ reply (n - 1))
        → reply_of q R n (around G no_cols t n) (ended_at (nodes q) n) ≡ at_node q reply n
    step_at_node same = elim (dec_lt 0 n) [
      | no h ↦
          let e : n ≡ 0 = omega arith in
          ap (reply_of q R n (around G no_cols t n)) (first e) ∙ no_node q reply n e
      | yes h ↦ elim (dec_lt q.count n) [
        | yes i ↦ ap (reply_of q R n (around G no_cols t n)) (past i) ∙ past_node_lem q reply n (λ e. omega arith) i
        | no i ↦
            let r = node_at_lem n (omega arith) (omega arith) in
            let m : r.start + size r.term ≡ n = r.ends ∙ omega arith in
            ap₂ (reply_of q R n) r.is (ended r.term r.here m (omega arith)) ∙ same _ _ r.term r.here m ∙ at_node_lem q reply n (λ e. omega arith) (omega arith)
      ]
    ]
