-- Texts put one behind the other.
use mathlib.Core.Path.{◌≡◌, refl, ap, sym, ◌∙◌}
use mathlib.Core.List.{List, [], ◌∷◌, ◌++◌}
use Prim.Native.Nat.{ℕ}
use Rattle.output.specs.Sinks.{puts, Puts}

puts_append : {S : Type 0} (put : S → ℕ → S) (s : S) (a b : List ℕ) → puts put s (a ++ b) ≡ puts put (puts put s a) b
unfolding puts
puts_append put s [] b = refl
puts_append put s (x ∷ a) b = puts_append put (put s x) a b

-- where a byte changes nothing, no text does
settled_lem : {S : Type 0} (put : S → ℕ → S) (s : S) → ((b : ℕ) → put s b ≡ s) → (text : List ℕ) → s ≡ puts put s text
unfolding puts
settled_lem put s h [] = refl
settled_lem put s h (b ∷ text) = settled_lem put s h text ∙ ap (λ t. puts put t text) (sym (h b))

module _ {S : Type 0} {put : S → ℕ → S} {s : S} where
  pub puts_none : Puts put [] s s
  unfolding puts
  puts_none = record { is = refl }

  pub puts_byte : {t : S} {b : ℕ} → t ≡ put s b → Puts put (b ∷ []) s t
  unfolding puts
  puts_byte e = record { is = e }

  pub puts_settled : ((b : ℕ) → put s b ≡ s) → (text : List ℕ) → Puts put text s s
  puts_settled h text = record { is = settled_lem put s h text }

  -- a text behind another
  pub puts_then : {t u : S} {a b : List ℕ} → Puts put a s t → Puts put b t u → Puts put (a ++ b) s u
  puts_then {a} {b} p q = record { is = q.is ∙ ap (λ t. puts put t b) p.is ∙ sym (puts_append put s a b) }

  pub puts_as : {t : S} {a b : List ℕ} → a ≡ b → Puts put a s t → Puts put b s t
  puts_as e p = record { is = p.is ∙ ap (puts put s) e }

  -- the same under an equal name
  pub puts_at : {t u : S} {text : List ℕ} → u ≡ t → Puts put text s t → Puts put text s u
  puts_at e p = record { is = e ∙ p.is }
