-- A list of lines reads to a term exactly if it is that term's lines.
use mathlib.Core.Path.{◌≡◌, ap, sym, ◌∙◌}
use mathlib.Core.List.{List, [], ◌∷◌, append-nil}
use mathlib.Core.Logic.{◌↔◌}
use lib.ListN.{length}
use Rattle.algebra.specs.Term.{Term}
use Rattle.database.specs.Refusals.{Reply, refused, accepted, ◌>>=◌}
use Rattle.query.specs.declared.Node.{Node}
use Rattle.query.specs.Lines.{lines, read, one_root, term_of}
use Rattle.query.proofs.Reading.{read_lines, flat, unread}

-- one root is left on the stack
pub term_read : (ns : List Node) (t : Term) → term_of ns ≡ accepted t → read 0 ns [] ≡ accepted (t ∷ [])
unfolding term_of
term_read ns t e = by_stack (read 0 ns []) e
  where
    by_stack : (r : Reply (List Term)) → (r >>= one_root (length ns)) ≡ accepted t → r ≡ accepted (t ∷ [])
    by_stack (refused _) i = cc
    by_stack (accepted []) i = cc
    by_stack (accepted (s ∷ [])) i = cc
    by_stack (accepted (s ∷ (u ∷ stack))) i = cc

pub read_term : (ns : List Node) (t : Term) → read 0 ns [] ≡ accepted (t ∷ []) → term_of ns ≡ accepted t
unfolding term_of
read_term ns t e = rw e

pub term_lines : (ns : List Node) (t : Term) → (term_of ns ≡ accepted t) ↔ (ns ≡ lines t)
unfolding flat read
term_lines ns t = (
  (λ e. unread 0 ns [] (term_read ns t e)),
  (λ e. read_term ns t (ap (λ (l : List Node). read 0 l []) (e ∙ sym (append-nil (lines t))) ∙ read_lines t 0 [] [])),
)
