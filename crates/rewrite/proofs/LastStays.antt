-- U9: "No rearranging rule moves it: kind 1 at such a line gets 12", and so does every other kind.
use mathlib.Core.Path.{◌≡◌, refl, ap, sym, ◌∙◌}
use mathlib.Core.Bool.{Bool}
use Rattle.std.specs.Prelude.{Option, Some, None}
use mathlib.Core.List.{List, [], ◌∷◌, ◌++◌}
use Prim.Native.Nat.{ℕ, suc, ◌+◌}
use native.Mathlib.Omega.{arith}
use native.Mathlib.Decide.{dec_le}
use native.Mathlib.Numerals.{add-one}
use lib.Dec.{ltb}
use borrow.Author.Tests.{le-leb, lt-leb}
use lib.ListN.{length, take}
use Rattle.laws.proofs.Options.{some_inj}
use Rattle.algebra.specs.Term.{Term, last}
use Rattle.algebra.specs.Columns.{Cols, no_cols, Schema, size}
use Rattle.algebra.specs.Rules.{match}
use Rattle.algebra.specs.Past.{find_past}
use Rattle.database.specs.declared.Database.{Database}
use Rattle.database.specs.declared.Refusal.TheVariants.{NoMatch}
use Rattle.database.specs.Stored.{schema}
use Rattle.database.specs.Refusals.{refused, accepted, or_refuse, ◌>>=◌}
use Rattle.database.proofs.Replies.{accepted_refused, accepted_then}
use Rattle.query.specs.declared.Node.{Node}
use Rattle.query.specs.declared.Node.TheVariants.{Last}
use Rattle.query.specs.declared.Query.{Query}
use Rattle.query.specs.Lines.{lines, push, read}
use Rattle.query.specs.Check.{check_over}
use Rattle.query.proofs.Reading.{read_append}
use Rattle.rewrite.specs.Rewrite.{around, rule, past_rule, rule_of, top, ended_at, replaced, with_nodes, rewrite}
use Rattle.rewrite.proofs.NodeParts.{ends_at}

-- a `last` puts one on the stack
last_on_top : (n c : ℕ) (stack rest : List Term) (a : Term) → read n (Last c ∷ []) stack ≡ accepted (a ∷ rest) → (b : Term) × (a ≡ last c b)
unfolding read push
last_on_top n c [] rest a e = accepted_refused (sym e)
last_on_top n c (b ∷ stack) rest a e = (b, sym (some_inj (ap top e)))

take_past : (before after : List Node) (x : Node) → take (suc (length before)) (before ++ (x ∷ after)) ≡ before ++ (x ∷ [])
take_past [] after x = refl
take_past (y ∷ before) after x = ap (λ (l : List Node). y ∷ l) (take_past before after x)

-- so what ends at one is one
ended_last : (c : ℕ) (before after : List Node) (a : Term) → ended_at (before ++ (Last c ∷ after)) (length before + 1) ≡ Some a → (b : Term) × (a ≡ last c b)
ended_last c before after a e =
    let f = ends_at (before ++ (Last c ∷ after)) (length before + 1) a e in
    let upto = ap (λ (k : ℕ). take k (before ++ (Last c ∷ after))) (add-one (length before)) ∙ take_past before after (Last c) in
    let (stack, _, h) = accepted_then (read 0 before []) (read (0 + length before) (Last c ∷ []))
    (sym (read_append 0 before (Last c ∷ []) []) ∙ ap (λ (l : List Node). read 0 l []) (sym upto) ∙ f.reads) in
    last_on_top (0 + length before) c stack f.stack a h

-- no rule is one of a `last`
last_unruled : (room : Bool) (G : Schema) (C : Cols) (k c : ℕ) (b : Term) → rule_of room G C k (last c b) ≡ refused NoMatch
unfolding rule match past_rule find_past
last_unruled room G C k c b = elim (dec_le k 6) [ yes h ↦ rw (le-leb k 6 h) | no h ↦ rw (lt-leb k 6 (omega arith)) ]

-- any kind at the line of a checked sheet that is a `last`; nodes count from 1
pub last_stays : (w limit : ℕ) (q : Query) (d : Database) (store : List ℕ) (t : Term) → check_over w limit q d store ≡ accepted t
    → (c : ℕ) (before after : List Node) → lines t ≡ before ++ (Last c ∷ after) → (k : ℕ) → rewrite w limit q d store k (length before + 1) ≡ refused NoMatch
unfolding rewrite
last_stays w limit q d store t checked c before after e k = rw (checked, e) (by_node (ended_at (before ++ (Last c ∷ after)) (length before + 1)) refl)
  where
    by_node : (o : Option Term) → ended_at (before ++ (Last c ∷ after)) (length before + 1) ≡ o
        → (or_refuse o NoMatch >>= (λ a. rule_of (ltb (size t) limit) (schema w d) (around (schema w d) no_cols t (length before + 1)) k a
        >>= (λ b. accepted (with_nodes q (replaced (before ++ (Last c ∷ after)) (length before + 1) a b))))) ≡ refused NoMatch
    by_node None i = refl
    by_node (Some a) i =
        let (b, j) = ended_last c before after a i in
        rw (j, last_unruled (ltb (size t) limit) (schema w d) (around (schema w d) no_cols t (length before + 1)) k c b)
