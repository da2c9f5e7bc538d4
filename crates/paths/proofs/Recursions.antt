-- "recursion variables count up from 0 in order of fix lines", so no two fixes have one number.
use mathlib.Core.Path.{◌≡◌, refl, ap, ap₂, sym, ◌∙◌}
use mathlib.Core.Logic.{inl, inr}
use mathlib.Core.List.{List, [], ◌∷◌, ◌++◌, append_assoc, append-nil}
use Prim.Native.Nat.{ℕ, zero, suc, ◌+◌, ◌≤◌}
use native.Mathlib.Nat.{add_assoc, add-zero}
use native.Mathlib.Omega.{arith}
use Rattle.laws.specs.Lists.{tabulate}
use Rattle.laws.proofs.Tests.{same?}
use Rattle.laws.proofs.Lists.{count, count_append}
use Rattle.algebra.specs.Columns.{fix_numbers}
use Rattle.algebra.specs.WellFormed.{Distinct}
use Rattle.algebra.proofs.Distinct.{count_distinct}
use Rattle.paths.specs.Grammar.{PropertyPath, name, alternative, sequence, inverse, plus}
use Rattle.paths.specs.Sheets.{recursions, term_from}

-- n, n + 1, …: k numbers
abbrev pub up_from : ℕ → ℕ → List ℕ
up_from n k = tabulate (λ i. n + i) k

up_append : (n j k : ℕ) → up_from n (j + k) ≡ up_from n j ++ up_from (n + j) k
unfolding tabulate
up_append n j zero = ap (up_from n) (add-zero j) ∙ sym (append-nil (up_from n j))
up_append n j (suc k) =
    let e : j + suc k ≡ suc (j + k) = omega arith in
    ap (up_from n) e ∙ ap₂ ◌++◌ (up_append n j k) (ap (λ i. i ∷ []) (sym (add_assoc n j k))) ∙ append_assoc (up_from n j) (up_from (n + j) k) _

pub counts_up : (n : ℕ) (p : PropertyPath) → fix_numbers (term_from n p) ≡ up_from n (recursions p)
unfolding fix_numbers term_from recursions tabulate
counts_up n (name t) = refl
counts_up n (alternative p q) = ap₂ ◌++◌ (counts_up n p) (counts_up (n + recursions p) q) ∙ sym (up_append n (recursions p) (recursions q))
counts_up n (sequence p q) = ap₂ ◌++◌ (counts_up n p) (counts_up (n + recursions p) q) ∙ sym (up_append n (recursions p) (recursions q))
counts_up n (inverse p) = counts_up n p
counts_up n (plus p) =
    let r = recursions p in
    let e : suc (r + r) ≡ r + r + 1 = omega arith in
    ap₂ (λ (k l : List ℕ). k ++ (l ++ ((n + (r + r)) ∷ []))) (counts_up n p) (counts_up (n + r) p)
    ∙ sym (append_assoc (up_from n r) (up_from (n + r) r) _) ∙ ap (λ (l : List ℕ). l ++ ((n + (r + r)) ∷ [])) (sym (up_append n r r)) ∙ ap (up_from n) e

above_none : (v n k : ℕ) → n + k ≤ v → count v (up_from n k) ≡ 0
unfolding count tabulate
above_none v n zero h = refl
above_none v n (suc k) h =
    rw (count_append v (up_from n k) ((n + k) ∷ []), above_none v n k (omega arith))
    (elim (same? v (n + k)) [ inl s ↦ let e = s.0 in absurd (omega arith) | inr s ↦ rw s.1 refl ])

up_once : (v n k : ℕ) → count v (up_from n k) ≤ 1
unfolding count tabulate
up_once v n zero = omega arith
up_once v n (suc k) =
    rw (count_append v (up_from n k) ((n + k) ∷ []))
    (elim (same? v (n + k)) [
      | inl s ↦ let e = s.0 in rw (above_none v n k (omega arith), s.1) (omega arith)
      | inr s ↦ let z = up_once v n k in rw s.1 (omega arith)
    ])

pub numbers_distinct : (n : ℕ) (p : PropertyPath) → Distinct (fix_numbers (term_from n p))
numbers_distinct n p = count_distinct (fix_numbers (term_from n p)) (λ v. rw (counts_up n p) (up_once v n (recursions p)))
