-- Readers that go line by line: where one refuses depends on the lines up to there only.
use mathlib.Core.Path.{◌≡◌, refl, ap, sym, ◌∙◌}
use mathlib.Core.Bool.{Bool, true, false}
use Rattle.std.specs.Prelude.{Option, Some, None}
use mathlib.Core.List.{List}
use Prim.Native.Nat.{ℕ, zero, suc, ◌+◌, ◌≤◌}
use native.Mathlib.Omega.{arith}
use Rattle.laws.specs.Lists.{null}
use Rattle.laws.proofs.Lists.{count}
use Rattle.database.specs.declared.Refusal.{Refusal}
use Rattle.database.specs.Refusals.{Reply, refused, accepted, require, place_of, ◌>>=◌}
use Rattle.database.proofs.Replies.{refused_same}
use Rattle.text.specs.Numbers.{newline}
use Rattle.text.specs.Lines.{Rest, first_line, due, ended}
use Rattle.text.proofs.Exact.{from}
use Rattle.text.proofs.Carried.{followed, Carries}
use Rattle.text.proofs.FirstBad.{first_lines}
use Rattle.text.proofs.FirstLines.{SameFirst, no_line, same_line, same_first, first_null, lines_count}

module _ (bad : ℕ → Refusal) (B : Type 0) where
  -- where read refuses a line, that line is reached, and other refuses it too on each text with the same lines up to it
  pub record Alike (read other : Rest → Reply B) : Type 0 where
    pub reached : (s : Rest) (k : ℕ) → read s ≡ refused (bad k) → (s.line ≤ k) × (k ≤ s.line + count newline s.bytes)
    pub same : (s t : Rest) (i k : ℕ) → k ≡ s.line + i → s.line ≡ t.line → first_lines (suc i) s.bytes ≡ first_lines (suc i) t.bytes
        → read s ≡ refused (bad k) → other t ≡ refused (bad k)

  -- a part that goes line by line
  abbrev pub Linewise : {A : Type 0} → (Rest → Reply (A × Rest)) → Type 0
  Linewise part = Carries Alike part

-- how a due line is read: there is none, or it is off the form, or it is on the form
module _ (bad : ℕ → Refusal) {A : Type 0} (form : List ℕ → Option A) (s : Rest) where
  due_gone : first_line s.bytes ≡ None → due bad form s ≡ refused (bad s.line)
  unfolding due
  due_gone e = rw (e, due)

  due_off : (l r : List ℕ) → first_line s.bytes ≡ Some (l, r) → form l ≡ None → due bad form s ≡ refused (bad s.line)
  unfolding due
  due_off l r e f = rw (e, due) (rw f)

  pub due_on : (l r : List ℕ) (a : A) → first_line s.bytes ≡ Some (l, r) → form l ≡ Some a → due bad form s ≡ accepted (a, from (s.line + 1) r)
  unfolding due
  due_on l r a e f = rw (e, due) (rw f)

  pub data Due : Type 0 where
    is_bad : due bad form s ≡ refused (bad s.line) → Due
    is_good : (l r : List ℕ) (a : A) → first_line s.bytes ≡ Some (l, r) → form l ≡ Some a
        → due bad form s ≡ accepted (a, from (s.line + 1) r) → Due

  pub due? : Due
  due? = by_line (first_line s.bytes) refl
    where
      by_form_lem : (l r : List ℕ) → first_line s.bytes ≡ Some (l, r) → (o : Option A) → form l ≡ o → Due
      by_form_lem l r f None g = is_bad (due_off l r f g)
      by_form_lem l r f (Some a) g = is_good l r a f g (due_on l r a f g)

      by_line : (o : Option (List ℕ × List ℕ)) → first_line s.bytes ≡ o → Due
      by_line None f = is_bad (due_gone f)
      by_line (Some p) f = by_form_lem p.0 p.1 f (form p.0) refl

module _ (bad : ℕ → Refusal) (B : Type 0) (named : (n : ℕ) → place_of (bad n) ≡ n) where
  pub one_place : (m n : ℕ) → ◌≡◌ {A = Reply B} (refused (bad m)) (refused (bad n)) → m ≡ n
  one_place m n e = sym (named m) ∙ ap place_of (refused_same e) ∙ named n

  module _ {A : Type 0} (form : List ℕ → Option A) (next next' : A → Rest → Reply B) (x : (a : A) → Alike bad B (next a) (next' a)) where
    due_reached : (s : Rest) (k : ℕ) → followed (due bad form) next s ≡ refused (bad k) → (s.line ≤ k) × (k ≤ s.line + count newline s.bytes)
    due_reached s k e = by_line (due? bad form s)
      where
        by_line : Due bad form s → (s.line ≤ k) × (k ≤ s.line + count newline s.bytes)
        by_line (is_bad d) = let p = one_place s.line k (rw d at e) in (omega arith, omega arith)
        by_line (is_good l r a f g d) =
            let (low, high) = (x a).reached (from (s.line + 1) r) k (rw d at e) in
            let more = lines_count s.bytes l r f in
            (omega arith, omega arith)

    due_same : (s t : Rest) (i k : ℕ) → k ≡ s.line + i → s.line ≡ t.line → first_lines (suc i) s.bytes ≡ first_lines (suc i) t.bytes
        → followed (due bad form) next s ≡ refused (bad k) → followed (due bad form) next' t ≡ refused (bad k)
    due_same s t i k h n f e = by_first (same_first i s.bytes t.bytes f)
      where
        at_once : due bad form s ≡ refused (bad s.line) → due bad form t ≡ refused (bad t.line)
            → followed (due bad form) next' t ≡ refused (bad k)
        at_once d d' = rw d' (ap (λ m. refused (bad m)) (sym n ∙ one_place s.line k (rw d at e)))

        later : (i : ℕ) → k ≡ s.line + i → (r q : List ℕ) (a : A) → first_lines i r ≡ first_lines i q
            → next a (from (s.line + 1) r) ≡ refused (bad k) → next' a (from (t.line + 1) q) ≡ refused (bad k)
        later zero h r q a p e = let (low, _) = (x a).reached (from (s.line + 1) r) k e in let z : ⊥ = omega arith in absurd z
        later (suc i) h r q a p e = (x a).same (from (s.line + 1) r) (from (t.line + 1) q) i k (omega arith) (omega arith) p e

        by_form_lem : (l r q : List ℕ) → first_line s.bytes ≡ Some (l, r) → first_line t.bytes ≡ Some (l, q) → first_lines i r ≡ first_lines i q
            → (o : Option A) → form l ≡ o → followed (due bad form) next' t ≡ refused (bad k)
        by_form_lem l r q f f' p None g = at_once (due_off bad form s l r f g) (due_off bad form t l q f' g)
        by_form_lem l r q f f' p (Some a) g = rw (due_on bad form t l q a f' g) (later i h r q a p (rw (due_on bad form s l r a f g) at e))

        by_first : SameFirst i s.bytes t.bytes → followed (due bad form) next' t ≡ refused (bad k)
        by_first (no_line f g) = at_once (due_gone bad form s f) (due_gone bad form t g)
        by_first (same_line l r q f g p) = by_form_lem l r q f g p (form l) refl

  pub linewise_due : {A : Type 0} (form : List ℕ → Option A) → Linewise bad B (due bad form)
  linewise_due form = record { carried = λ next next' x. record { reached = due_reached form next next' x; same = due_same form next next' x } }

  -- the end of a text, where what is replied then is no bad line
  module _ (r : Reply B) (good : (k : ℕ) → r ≡ refused (bad k) → ⊥) where
    pub left_over : (s : Rest) (k : ℕ) → (ended bad s >>= λ _. r) ≡ refused (bad k) → (null s.bytes ≡ false) × (s.line ≡ k)
    left_over s k e = by_test (null s.bytes) refl e
      where
        by_test : (t : Bool) → null s.bytes ≡ t → (require t (bad s.line) >>= λ _. r) ≡ refused (bad k)
            → (null s.bytes ≡ false) × (s.line ≡ k)
        by_test true n e = absurd (good k e)
        by_test false n e = (n, one_place s.line k e)

    pub alike_ended : (r' : Reply B) → Alike bad B (λ s. ended bad s >>= λ _. r) (λ s. ended bad s >>= λ _. r')
    alike_ended r' = record {
      reached = λ s k e. let (_, p) = left_over s k e in (omega arith, omega arith);
      same = λ s t i k h n f e.
          let (filled, p) = left_over s k e in
          let filled' = sym (first_null i t.bytes) ∙ ap null (sym f) ∙ first_null i s.bytes ∙ filled in
          rw filled' (ap (λ m. refused (bad m)) (sym n ∙ p));
    }
