-- Replies one after the other: what an accepted sequence says of its parts.
use mathlib.Core.Path.{◌≡◌, refl, ap, sym, ◌∙◌}
use Rattle.std.specs.Prelude.{Result, Err, IsErrAnd}
use Rattle.std.proofs.lemmas.Result.{err_from_is_err_and}
use Rattle.database.specs.Refusals.{Reply, refused, accepted, ◌>>=◌}
use Rattle.database.proofs.Replies.{accepted_refused}
pub use Rattle.database.proofs.Replies.{required}

pub bind_accepted : {A B C : Type 0} (x : Reply A) (f : A → Reply B) {b : B} → (x >>= f) ≡ accepted b
    → ((a : A) → x ≡ accepted a → f a ≡ accepted b → C) → C
bind_accepted (refused r) f e g = accepted_refused (sym e)
bind_accepted (accepted a) f e g = g a refl e

pub bind_assoc : {A B C : Type 0} (x : Reply A) (f : A → Reply B) (g : B → Reply C) → ((x >>= f) >>= g) ≡ (x >>= (λ a. f a >>= g))
bind_assoc (refused r) f g = refl
bind_assoc (accepted a) f g = refl

-- what `?` hands on is the refusal that it met
pub handed_on : {T E : Type 0} (r : Result T E) (e : E) → IsErrAnd r (λ x. x ≡ e) → r ≡ Err e
handed_on r e h = let (x, same, is) = err_from_is_err_and r h in same ∙ ap Err is
