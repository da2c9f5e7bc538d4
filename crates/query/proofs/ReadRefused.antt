-- Where reading stops: at the first line whose operands are missing (3).
use mathlib.Core.Path.{◌≡◌, refl, ap, sym, ◌∙◌}
use Rattle.std.specs.Prelude.{Option, Some, None}
use mathlib.Core.List.{List, [], ◌∷◌, ◌++◌}
use mathlib.Core.Logic.{◌↔◌, ◌⊎◌, inl, inr, ◌≢◌}
use Prim.Native.Nat.{ℕ, ◌+◌}
use native.Mathlib.Omega.{arith}
use lib.ListN.{length}
use Rattle.algebra.specs.Term.{Term}
use Rattle.database.specs.declared.Refusal.{Refusal}
use Rattle.database.specs.declared.Refusal.TheVariants.{Operands}
use Rattle.database.specs.Refusals.{Reply, refused, accepted, ◌>>=◌}
use Rattle.database.proofs.Replies.{accepted_refused, refused_same}
use Rattle.query.specs.declared.Node.{Node}
use Rattle.query.specs.Lines.{push, read, one_root, term_of}
use Rattle.query.proofs.Reading.{read_on, read_cons, read_append}

-- the lines before are read, and the next line finds too few nodes on the stack; n lines stand before all of them
pub record Missing (n : ℕ) (ns : List Node) (stack : List Term) (r : Refusal) : Type 0 where
  pub before : List Node
  pub line : Node
  pub after : List Node
  pub left : List Term
  pub splits : ns ≡ before ++ (line ∷ after)
  pub reads : read n before stack ≡ accepted left
  pub lacks : push line left ≡ None
  pub named : r ≡ Operands (n + length before + 1)

stops : (n : ℕ) (ns : List Node) (stack : List Term) (r : Refusal) → read n ns stack ≡ refused r → Missing n ns stack r
unfolding read
stops n [] stack r e = accepted_refused e
stops n (x ∷ ns) stack r e = by_push (push x stack) refl (sym (read_cons n x ns stack) ∙ e) (λ next. stops (n + 1) ns next r)
  where
    by_push : (o : Option (List Term)) → push x stack ≡ o → read_on n ns o ≡ refused r
        → ((next : List Term) → read (n + 1) ns next ≡ refused r → Missing (n + 1) ns next r) → Missing n (x ∷ ns) stack r
    by_push None i j rest = record {
      before = [];
      line = x;
      after = ns;
      left = stack;
      splits = refl;
      reads = refl;
      lacks = i;
      named = let k : Operands (n + 1) ≡ r = cc in sym k ∙ ap Operands (omega arith);
    }
    by_push (Some next) i j rest =
        let m = rest next j in
        record {
          before = x ∷ m.before;
          line = m.line;
          after = m.after;
          left = m.left;
          splits = ap (λ (l : List Node). x ∷ l) m.splits;
          reads = read_cons n x m.before stack ∙ ap (read_on n m.before) i ∙ m.reads;
          lacks = m.lacks;
          named = m.named ∙ ap Operands (omega arith);
        }

stopped : (n : ℕ) (ns : List Node) (stack : List Term) (r : Refusal) → Missing n ns stack r → read n ns stack ≡ refused r
stopped n ns stack r m =
    ap (λ (l : List Node). read n l stack) m.splits ∙ read_append n m.before (m.line ∷ m.after) stack
    ∙ ap (λ (q : Reply (List Term)). q >>= read (n + length m.before) (m.line ∷ m.after)) m.reads
    ∙ read_cons (n + length m.before) m.line m.after m.left
    ∙ ap (read_on (n + length m.before) m.after) m.lacks ∙ ap refused (sym m.named)

pub read_refused : (n : ℕ) (ns : List Node) (stack : List Term) (r : Refusal) → (read n ns stack ≡ refused r) ↔ Missing n ns stack r
read_refused n ns stack r = (stops n ns stack r, stopped n ns stack r)

-- all lines are read, and not one root is left
pub record Roots (ns : List Node) (r : Refusal) : Type 0 where
  pub left : List Term
  pub reads : read 0 ns [] ≡ accepted left
  pub several : length left ≢ 1
  pub named : r ≡ Operands (length ns)

-- 3: "operand missing, or several roots", at the "node; last node for roots"
pub term_refused : (ns : List Node) (r : Refusal) → (term_of ns ≡ refused r) ↔ (Missing 0 ns [] r ⊎ Roots ns r)
unfolding term_of
term_refused ns r = (
  (λ e. by_reading (read 0 ns []) refl e),
  (elim [
    | inl m ↦ rw ((read_refused 0 ns [] r).1 m)
    | inr x ↦ rw x.reads (by_stack x.left x.several ∙ ap refused (sym x.named))
  ]),
)
  where
    by_reading : (x : Reply (List Term)) → read 0 ns [] ≡ x → (x >>= one_root (length ns)) ≡ refused r → Missing 0 ns [] r ⊎ Roots ns r
    by_reading (refused s) i j = inl ((read_refused 0 ns [] r).0 (i ∙ ap refused (refused_same j)))
    by_reading (accepted []) i j = inr (record { left = []; reads = i; several = λ h. omega arith; named = cc })
    by_reading (accepted (t ∷ [])) i j = accepted_refused j
    by_reading (accepted (t ∷ (u ∷ stack))) i j = inr (record { left = t ∷ (u ∷ stack); reads = i; several = λ h. omega arith; named = cc })

    by_stack : (stack : List Term) → length stack ≢ 1 → one_root (length ns) stack ≡ refused (Operands (length ns))
    by_stack [] h = refl
    by_stack (t ∷ []) h = absurd (h refl)
    by_stack (t ∷ (u ∷ stack)) h = refl
