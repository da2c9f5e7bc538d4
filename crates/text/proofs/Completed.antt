-- Readers whose lines can be gone on from: the lines before a bad one are also the first lines of a text without a bad line.
use mathlib.Core.Path.{◌≡◌, refl, ap, sym, ◌∙◌}
use Rattle.std.specs.Prelude.{Option, Some}
use mathlib.Core.List.{List, [], ◌++◌}
use Prim.Native.Nat.{ℕ, zero, suc, ◌+◌}
use native.Mathlib.Omega.{arith}
use Rattle.database.specs.declared.Refusal.{Refusal}
use Rattle.database.specs.Refusals.{Reply, refused, place_of, ◌>>=◌}
use Rattle.text.specs.Numbers.{newline}
use Rattle.text.specs.Lines.{Rest, due, ended}
use Rattle.text.specs.Texts.{line_text}
use Rattle.text.proofs.Commas.{Without}
use Rattle.text.proofs.FirstLine.{first_line_lem, line_first}
use Rattle.text.proofs.Exact.{from}
use Rattle.text.proofs.Carried.{followed, Carries}
use Rattle.text.proofs.FirstBad.{first_lines}
use Rattle.text.proofs.FirstLines.{lines_some}
use Rattle.text.proofs.LineByLine.{one_place, Due, is_bad, is_good, due?, due_on, left_over}

module _ (bad : ℕ → Refusal) (B : Type 0) where
  -- no line is bad
  abbrev pub Fine : (Rest → Reply B) → ℕ → List ℕ → Type 0
  Fine read m text = (k : ℕ) → read (from m text) ≡ refused (bad k) → ⊥

  -- some text is fine, and the lines before a bad one are the first of some fine text
  pub record Completes (read : Rest → Reply B) : Type 0 where
    pub some_text : (m : ℕ) → (text : List ℕ) × Fine read m text
    pub completed : (s : Rest) (i k : ℕ) → k ≡ s.line + i → read s ≡ refused (bad k)
        → (text : List ℕ) × (first_lines i s.bytes ≡ first_lines i text) × Fine read s.line text

  abbrev pub Completing : {A : Type 0} → (Rest → Reply (A × Rest)) → Type 0
  Completing part = Carries (λ read _. Completes read) part

  pub completes_then : {A : Type 0} {part : Rest → Reply (A × Rest)} → Completing part → (next : A → Rest → Reply B) → ((a : A) → Completes (next a))
      → Completes (followed part next)
  completes_then x next y = x.carried next next y

module _ (bad : ℕ → Refusal) (B : Type 0) (named : (n : ℕ) → place_of (bad n) ≡ n) where
  -- a due line of which there is one on the form
  module _ {A : Type 0} (form : List ℕ → Option A) (l₀ : List ℕ) (a₀ : A) (unbroken : Without newline l₀) (on_form_lem : form l₀ ≡ Some a₀)
      (next : A → Rest → Reply B) (x : (a : A) → Completes bad B (next a)) where
    due_fine : (m : ℕ) (l r : List ℕ) (a : A) → Without newline l → form l ≡ Some a → Fine bad B (next a) (m + 1) r
        → Fine bad B (followed (due bad form) next) m (line_text l ++ r)
    due_fine m l r a u f fine k e = fine k (rw (due_on bad form (from m (line_text l ++ r)) l r a (first_line_lem l r u) f) at e)

    due_some : (m : ℕ) → (text : List ℕ) × Fine bad B (followed (due bad form) next) m text
    due_some m = let (r, fine) = (x a₀).some_text (m + 1) in (line_text l₀ ++ r, due_fine m l₀ r a₀ unbroken on_form_lem fine)

    due_completed : (s : Rest) (i k : ℕ) → k ≡ s.line + i → followed (due bad form) next s ≡ refused (bad k)
        → (text : List ℕ) × (first_lines i s.bytes ≡ first_lines i text) × Fine bad B (followed (due bad form) next) s.line text
    unfolding first_lines
    due_completed s zero k h e = let (text, fine) = due_some s.line in (text, refl, fine)
    due_completed s (suc i) k h e = by_line (due? bad form s)
      where
        by_line : Due bad form s
            → (text : List ℕ) × (first_lines (suc i) s.bytes ≡ first_lines (suc i) text) × Fine bad B (followed (due bad form) next) s.line text
        by_line (is_bad d) = let p = one_place bad B named s.line k (rw d at e) in let z : ⊥ = omega arith in absurd z
        by_line (is_good l r a f g d) =
            let (rest, same, fine) = (x a).completed (from (s.line + 1) r) i k (omega arith) (rw d at e) in
            let (_, u) = line_first s.bytes (l, r) f in (
              line_text l ++ rest,
              lines_some i s.bytes l r f ∙ ap (λ q. line_text l ++ q) same ∙ sym (lines_some i (line_text l ++ rest) l rest (first_line_lem l rest u)),
              due_fine s.line l rest a u g fine,
            )

    pub completes_due : Completes bad B (followed (due bad form) next)
    completes_due = record { some_text = due_some; completed = due_completed }

  -- the end of a text
  ended_completed : (r : Reply B) → ((k : ℕ) → r ≡ refused (bad k) → ⊥) → (s : Rest) (i k : ℕ) → k ≡ s.line + i
      → (ended bad s >>= λ _. r) ≡ refused (bad k)
      → (text : List ℕ) × (first_lines i s.bytes ≡ first_lines i text) × Fine bad B (λ s. ended bad s >>= λ _. r) s.line text
  unfolding first_lines
  ended_completed r good s zero k h e = ([], refl, good)
  ended_completed r good s (suc i) k h e = let (_, p) = left_over bad B named r good s k e in let z : ⊥ = omega arith in absurd z

  pub completes_ended : (r : Reply B) → ((k : ℕ) → r ≡ refused (bad k) → ⊥) → Completes bad B (λ s. ended bad s >>= λ _. r)
  completes_ended r good = record { some_text = λ m. ([], good); completed = ended_completed r good }
