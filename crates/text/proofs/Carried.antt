-- Relations between readers that parts of a text carry: where what follows a part is related, so is the part with what follows it.
use mathlib.Core.Path.{◌≡◌, sym, subst, subst₂, fun_ext}
use mathlib.Core.List.{List, [], ◌∷◌}
use Prim.Native.Nat.{ℕ, zero, suc}
use Rattle.database.specs.Refusals.{Reply, accepted, ◌>>=◌}
use Rattle.text.specs.Lines.{Rest}
use Rattle.text.proofs.ReplyLaws.{bind_assoc}
use Rattle.text.proofs.Exact.{Again}

-- a part of a text, and what follows it
abbrev pub followed : {A B : Type 0} → (Rest → Reply (A × Rest)) → (A → Rest → Reply B) → Rest → Reply B
followed part next s = part s >>= λ p. next p.0 p.1

module _ {B : Type 0} (Related : (Rest → Reply B) → (Rest → Reply B) → Type 0) where
  pub record Carries {A : Type 0} (part : Rest → Reply (A × Rest)) : Type 0 where
    pub carried : (next next' : A → Rest → Reply B) → ((a : A) → Related (next a) (next' a)) → Related (followed part next) (followed part next')

  -- readers that reply the same are related alike
  related_along : {read other read' other' : Rest → Reply B} → ((s : Rest) → read s ≡ read' s) → ((s : Rest) → other s ≡ other' s)
      → Related read other → Related read' other'
  related_along p q x = subst₂ Related (fun_ext p) (fun_ext q) x

  pub carries_end : {A : Type 0} (a : A) → Carries (λ s. accepted (a, s))
  carries_end a = record { carried = λ next next' x. x a }

  pub carries_then : {A C : Type 0} {part : Rest → Reply (A × Rest)} {parts : A → Rest → Reply (C × Rest)}
      → Carries part → ((a : A) → Carries (parts a)) → Carries (λ s. part s >>= λ p. parts p.0 p.1)
  carries_then {part = part} {parts = parts} x y = record {
    carried = λ next next' z.
        related_along (λ s. sym (bind_assoc (part s) _ _)) (λ s. sym (bind_assoc (part s) _ _))
        (x.carried (λ a. followed (parts a) next) (λ a. followed (parts a) next') (λ a. (y a).carried next next' z));
  }

  carries_along : {A : Type 0} {part part' : Rest → Reply (A × Rest)} → ((s : Rest) → part' s ≡ part s) → Carries part → Carries part'
  carries_along p x = subst Carries (sym (fun_ext p)) x

  -- a part again and again
  pub carries_again : {S A : Type 0} {part : S → Rest → Reply (A × Rest)} {next : A → S} {loop : ℕ → S → Rest → Reply (List A × Rest)}
      → Again part next loop → ((c : S) → Carries (part c)) → (n : ℕ) (c : S) → Carries (loop n c)
  carries_again again x zero c = carries_along (again.end c) (carries_end [])
  carries_again {next = next} again x (suc n) c =
      carries_along (again.more n c) (carries_then (x c) λ a. carries_then (carries_again again x n (next a)) λ l. carries_end (a ∷ l))
