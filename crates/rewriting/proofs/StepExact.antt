-- On a checked query the step by the indices is the papers' step, of all kinds.
use mathlib.Core.Path.{◌≡◌, ap, sym, ◌∙◌}
use mathlib.Core.Bool.{Bool, true, false}
use mathlib.Core.List.{List, []}
use Prim.Native.Nat.{ℕ, ◌+◌, ◌-◌, ◌≤◌}
use lib.Dec.{leb, ltb}
use lib.ListN.{length}
use Rattle.laws.specs.Lists.{when◌then◌else◌}
use Rattle.algebra.specs.Term.{Term}
use Rattle.algebra.specs.Columns.{Cols, no_cols, Schema, size}
use Rattle.relation.specs.Rows.{columns}
use Rattle.database.specs.declared.Database.{Database}
use Rattle.database.specs.declared.Refusal.TheVariants.{NoMatch}
use Rattle.database.specs.Stored.{schema}
use Rattle.database.specs.Refusals.{accepted, or_refuse, ◌>>=◌}
use Rattle.query.specs.declared.Node.{Node}
use Rattle.query.specs.declared.Query.{Query}
use Rattle.query.specs.declared.Facts.{Facts}
use Rattle.query.specs.Lines.{node_limit, nodes, lines}
use Rattle.query.specs.Facts.{visits, facts_of}
use Rattle.query.specs.Check.{check_over}
use Rattle.query.proofs.CheckReply.{Checked}
use Rattle.query.proofs.CheckedOver.{check_over_iff}
use Rattle.query.proofs.CheckedTerms.{own_checked}
use Rattle.rewrite.specs.Rewrite.{around, rule, past_rule, rule_of, ended_at, replaced, with_nodes, rewrite}
use Rattle.matching.specs.Found.{found_at, reply_to}
use Rattle.matching.proofs.Standing.{Here}
use Rattle.matching.proofs.AtNode.{replaced_by, step_at_node}
use Rattle.matching.proofs.NodeReply.{node_reply_lem}
use Rattle.passing.specs.Passing.{pass_reply}
use Rattle.passing.proofs.PassExact.{pass_exact}
use Rattle.rewriting.specs.Steps.{kind_reply, step_reply}

module _ (d : Database) (limit : ℕ) (q : Query) (t : Term) (checked : Checked limit q (schema columns d) t) (counted : length (nodes q) ≡ q.count) (fits : q.count ≤ node_limit)
    (k n : ℕ) where
  abbrev G : Schema
  G = schema columns d

  abbrev facts : Facts
  facts = facts_of G (visits G no_cols [] 0 t)

  abbrev room : Bool
  room = ltb (size t) limit

  kind_reply_lem : (C : Cols) (s : ℕ) (a : Term) → Here d q t checked.written C s a → s + size a ≡ n
      → rule_of room G C k a >>= (λ b. accepted (replaced_by q n a b)) ≡ kind_reply limit q facts k (n - 1)
  kind_reply_lem C s a h e = by_kind (leb k 6)
    where
      by_kind : (low : Bool) → (when low then rule G C k a else past_rule room G C k a) >>= (λ b. accepted (replaced_by q n a b))
          ≡ (when low then reply_to q facts (n - 1) (found_at q facts k (n - 1)) else pass_reply limit q facts k (n - 1))
      by_kind true = node_reply_lem d limit q t checked counted fits k n a h e
      by_kind false = pass_exact d limit q t checked counted fits k n a h e

-- the definition's step of a query that is checked over a database and needs no splitting
pub step_exact : (limit : ℕ) (q : Query) (d : Database) (store : List ℕ) (t : Term) → check_over columns limit q d store ≡ accepted t → nodes q ≡ lines t
    → length (nodes q) ≡ q.count → q.count ≤ node_limit → (k n : ℕ)
    → step_reply limit q (facts_of (schema columns d) (visits (schema columns d) no_cols [] 0 t)) k n ≡ rewrite columns limit q d store k n
unfolding rewrite
step_exact limit q d store t e own counted fits k n =
    let checked = own_checked own ((check_over_iff columns limit q d store t).0 e).1 in
    let G = schema columns d in
    let facts = facts_of G (visits G no_cols [] 0 t) in
    let room = ltb (size t) limit in
    sym (step_at_node d q t checked.written counted (λ C a. rule_of room G C k a) (kind_reply limit q facts k) n (kind_reply_lem d limit q t checked counted fits k n))
    ∙ ap (λ (ns : List Node). or_refuse (ended_at ns n) NoMatch >>= λ a. rule_of room G (around G no_cols t n) k a >>= λ b. accepted (with_nodes q (replaced ns n a b))) own
    ∙ rw e
