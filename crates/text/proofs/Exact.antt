-- What is read exactly: a reader accepts the texts that a printer prints for the values of some kind, and no others.
use mathlib.Core.Path.{◌≡◌, refl, ap, sym, ◌∙◌, subst}
use mathlib.Core.Bool.{true}
use Rattle.std.specs.Prelude.{Option, Some, None}
use mathlib.Core.List.{List, [], ◌∷◌, ◌++◌, flat_map, append_assoc, append-nil}
use Prim.Native.Nat.{ℕ, zero, suc, ◌+◌}
use native.Mathlib.Omega.{arith}
use lib.ListN.{length}
use Rattle.laws.specs.Lists.{null}
use Rattle.laws.proofs.Tests.{true_false}
use Rattle.laws.proofs.EachMember.{Each}
use Rattle.database.specs.declared.Refusal.{Refusal}
use Rattle.database.specs.Refusals.{Reply, refused, accepted, ◌>>=◌}
use Rattle.database.proofs.Replies.{accepted_refused, accepted_same}
use Rattle.text.specs.Numbers.{newline}
use Rattle.text.specs.Lines.{Rest, first_line, due, many}
use Rattle.text.specs.Texts.{line_text}
use Rattle.text.proofs.Commas.{Without}
use Rattle.text.proofs.ReplyLaws.{bind_accepted}
use Rattle.text.proofs.FirstLine.{first_line_lem, line_first}

abbrev pub from : ℕ → List ℕ → Rest
from k text = record { line = k; bytes = text }

module _ {A : Type 0} where
  -- lines without their byte 10
  pub record ExactLine (form : List ℕ → Option A) (text : A → List ℕ) (Good : A → Type 0) : Type 0 where
    pub reads : (a : A) → Good a → form (text a) ≡ Some a
    pub unbroken : (a : A) → Good a → Without newline (text a)
    pub printed : (l : List ℕ) (a : A) → form l ≡ Some a → (text a ≡ l) × Good a

  -- parts of a text, of whole lines
  pub record Exact (part : Rest → Reply (A × Rest)) (text : A → List ℕ) (Good : A → Type 0) : Type 0 where
    pub reads : (a : A) → Good a → (k : ℕ) (rest : List ℕ) → (m : ℕ) × (part (from k (text a ++ rest)) ≡ accepted (a, from m rest))
    pub printed : (s t : Rest) (a : A) → part s ≡ accepted (a, t) → (s.bytes ≡ text a ++ t.bytes) × Good a

  pub due_accepted : (bad : ℕ → Refusal) (form : List ℕ → Option A) (s t : Rest) (a : A) → due bad form s ≡ accepted (a, t)
      → (l : List ℕ) × (s.bytes ≡ line_text l ++ t.bytes) × (form l ≡ Some a)
  unfolding due
  due_accepted bad form s t a e = by_line (first_line s.bytes) refl e
    where
      by_form_lem : (l rest : List ℕ) (o : Option A) → form l ≡ o
          → ◌≡◌ {A = Reply (A × Rest)} (elim o [ None ↦ refused (bad s.line) | Some a ↦ accepted (a, from (s.line + 1) rest) ]) (accepted (a, t))
          → (form l ≡ Some a) × (rest ≡ t.bytes)
      by_form_lem l rest None q e = accepted_refused (sym e)
      by_form_lem l rest (Some b) q e = let p = accepted_same e in (q ∙ ap (λ r. Some r.0) p, ap (λ r. r.1.bytes) p)

      by_line : (o : Option (List ℕ × List ℕ)) → first_line s.bytes ≡ o
          → ◌≡◌ {A = Reply (A × Rest)} (elim o [
            | None ↦ refused (bad s.line)
            | Some p ↦ elim (form p.0) [ None ↦ refused (bad s.line) | Some a ↦ accepted (a, from (s.line + 1) p.1) ]
          ]) (accepted (a, t))
          → (l : List ℕ) × (s.bytes ≡ line_text l ++ t.bytes) × (form l ≡ Some a)
      by_line None q e = accepted_refused (sym e)
      by_line (Some p) q e =
          let (f, r) = by_form_lem p.0 p.1 (form p.0) refl e in
          (p.0, (line_first s.bytes p q).0 ∙ ap (λ rest. line_text p.0 ++ rest) r, f)

  pub due_exact : (bad : ℕ → Refusal) {form : List ℕ → Option A} {text : A → List ℕ} {Good : A → Type 0}
      → ExactLine form text Good → Exact (due bad form) (λ a. line_text (text a)) Good
  unfolding due
  due_exact bad {form} {text} {Good} x = record {
    reads = λ a h k rest. (k + 1, rw (first_line_lem (text a) rest (x.unbroken a h), due) (rw (x.reads a h)));
    printed = λ s t a e.
        let (l, begins, read) = due_accepted bad form s t a e in
        let (same, good) = x.printed l a read in
        (begins ∙ ap (λ m. line_text m ++ t.bytes) (sym same), good);
  }

-- a part that is read, and then what follows it
pub reads_then : {A B : Type 0} (C : Reply B → Type 0) {part : Rest → Reply (A × Rest)} {text : A → List ℕ} {Good : A → Type 0} → Exact part text Good
    → (a : A) → Good a → (k : ℕ) (rest : List ℕ) (f : A × Rest → Reply B) → ((m : ℕ) → C (f (a, from m rest)))
    → C (part (from k (text a ++ rest)) >>= f)
reads_then C x a h k rest f g = let (m, e) = x.reads a h k rest in subst (λ r. C (r >>= f)) (sym e) (g m)

-- a text of three parts, one after the other, and a rest
pub regroup : (a b c rest : List ℕ) → (a ++ (b ++ c)) ++ rest ≡ a ++ (b ++ (c ++ rest))
regroup a b c rest = simp append_assoc

pub put_together : (a b c rest : List ℕ) {t s₁ s₂ : List ℕ} → t ≡ a ++ s₁ → s₁ ≡ b ++ s₂ → s₂ ≡ c ++ rest → t ≡ (a ++ (b ++ c)) ++ rest
put_together a b c rest p q r = p ∙ ap (λ s. a ++ s) (q ∙ ap (λ s. b ++ s) r) ∙ sym (regroup a b c rest)

pub nothing_after : (l rest : List ℕ) → null rest ≡ true → l ++ rest ≡ l
nothing_after l [] n = append-nil l
nothing_after l (b ∷ rest) n = true_false (sym n)

-- a part again and again, where what comes next may depend on the value before
pub record Again {S A : Type 0} (part : S → Rest → Reply (A × Rest)) (next : A → S) (loop : ℕ → S → Rest → Reply (List A × Rest)) : Type 0 where
  pub end : (c : S) (s : Rest) → loop zero c s ≡ accepted ([], s)
  pub more : (n : ℕ) (c : S) (s : Rest) → loop (suc n) c s ≡ (part c s >>= λ p. loop n (next p.0) p.1 >>= λ q. accepted (p.0 ∷ q.0, q.1))

-- each value is good after the one before it
abbrev pub Chain : {S A : Type 0} → (A → S) → (S → A → Type 0) → S → List A → Type 0
Chain next Good c [] = Unit {0}
Chain next Good c (a ∷ l) = Good c a × Chain next Good (next a) l

module _ {S A : Type 0} {part : S → Rest → Reply (A × Rest)} {next : A → S} {loop : ℕ → S → Rest → Reply (List A × Rest)}
    (again : Again part next loop) {text : A → List ℕ} {Good : S → A → Type 0} (x : (c : S) → Exact (part c) text (Good c)) where
  again_reads : (l : List A) (n : ℕ) (c : S) → Chain next Good c l → length l ≡ n → (k : ℕ) (rest : List ℕ)
      → (m : ℕ) × (loop n c (from k (flat_map text l ++ rest)) ≡ accepted (l, from m rest))
  unfolding flat_map
  again_reads [] zero c h e k rest = (k, again.end c (from k rest))
  again_reads [] (suc n) c h e k rest = let z : ⊥ = omega arith in absurd z
  again_reads (a ∷ l) zero c h e k rest = let z : ⊥ = omega arith in absurd z
  again_reads (a ∷ l) (suc n) c (h, hs) e k rest =
      let (m, f) = (x c).reads a h k (flat_map text l ++ rest) in
      let (i, g) = again_reads l n (next a) hs (omega arith) m rest in
      (i, rw (append_assoc (text a) (flat_map text l) rest) (rw (again.more n c) (rw f (rw g))))

  -- what was read from s, n times after c, is printed there and good
  abbrev Printed : Rest → ℕ → S → List A × Rest → Type 0
  Printed s n c (l, t) = (s.bytes ≡ flat_map text l ++ t.bytes) × (Chain next Good c l × (length l ≡ n))

  again_printed : (n : ℕ) (c : S) (s t : Rest) (l : List A) → loop n c s ≡ accepted (l, t) → Printed s n c (l, t)
  unfolding flat_map
  again_printed zero c s t l e = subst (Printed s zero c) (accepted_same (sym (again.end c s) ∙ e)) (refl, (tt, refl))
  again_printed (suc n) c s t l e =
      bind_accepted (part c s) _ (sym (again.more n c s) ∙ e) λ (a, s₁) first others.
      bind_accepted (loop n (next a) s₁) _ others λ (m, s₂) rest last.
      let (b₁, good) = (x c).printed s s₁ a first in
      let (b₂, (goods, count)) = again_printed n (next a) s₁ s₂ m rest in
      let same = b₁ ∙ ap (λ r. text a ++ r) b₂ ∙ sym (append_assoc (text a) (flat_map text m) s₂.bytes) in
      subst (Printed s (suc n) c) (accepted_same last) (same, ((good, goods), ap suc count))

  pub again_exact : (n : ℕ) (c : S) → Exact (loop n c) (flat_map text) (λ l. Chain next Good c l × (length l ≡ n))
  again_exact n c = record { reads = λ l (h, e). again_reads l n c h e; printed = again_printed n c }

-- the same part n times
each_chain : {A : Type 0} (Good : A → Type 0) (l : List A) → Each Good l → Chain {S = Unit {0}} (λ _. tt) (λ _. Good) tt l
each_chain Good [] h = tt
each_chain Good (a ∷ l) (h, hs) = (h, each_chain Good l hs)

chain_each : {A : Type 0} (Good : A → Type 0) (l : List A) → Chain {S = Unit {0}} (λ _. tt) (λ _. Good) tt l → Each Good l
chain_each Good [] h = tt
chain_each Good (a ∷ l) (h, hs) = (h, chain_each Good l hs)

pub many_again : {A : Type 0} (part : Rest → Reply (A × Rest)) → Again {S = Unit {0}} (λ _. part) (λ _. tt) (λ n _. many part n)
unfolding many
many_again part = record { end = λ _ _. refl; more = λ _ _ _. refl }

pub many_exact : {A : Type 0} {part : Rest → Reply (A × Rest)} {text : A → List ℕ} {Good : A → Type 0}
    → Exact part text Good → (n : ℕ) → Exact (many part n) (flat_map text) (λ l. Each Good l × (length l ≡ n))
many_exact {part = part} {Good = Good} x n =
    let y = again_exact (many_again part) (λ _. x) n tt in
    record {
      reads = λ l (h, e). y.reads l (each_chain Good l h, e);
      printed = λ s t l e. let (b, (h, n)) = y.printed s t l e in (b, (chain_each Good l h, n));
    }
