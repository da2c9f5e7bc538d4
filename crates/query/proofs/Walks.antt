-- A pass over a term is a walk over its nodes.
use mathlib.Core.Path.{◌≡◌, refl, ap, ap₂, sym, ◌∙◌}
use mathlib.Core.List.{List, [], ◌∷◌, ◌++◌, append_assoc, append-nil}
use Prim.Native.Nat.{ℕ, ◌+◌}
use native.Mathlib.Omega.{arith}
use lib.ListN.{length, length-append}
use Rattle.laws.proofs.Passes.{walk, walk_append, walk_one}
use Rattle.algebra.specs.Term.{Term, table, var, fact, pair, filter, copy, drop, last, fix, mu}
use Rattle.algebra.specs.Columns.{Cols, Schema, cols, size, fix_numbers}
use Rattle.database.specs.declared.Refusal.{Refusal}
use Rattle.query.specs.Check.{first_pass, second_pass}
use Rattle.query.specs.Facts.{Visit, visits}
use Rattle.query.specs.Passes.{visit, fix_number, numbers, scope_faults, first_at, column_faults, second_at}
use Rattle.query.proofs.Visits.{visits_length}

pub numbers_append : (l m : List Visit) → numbers (l ++ m) ≡ numbers l ++ numbers m
unfolding numbers
numbers_append [] m = refl
numbers_append (x ∷ l) m = ap (λ (r : List ℕ). fix_number x.term ++ r) (numbers_append l m) ∙ sym (append_assoc (fix_number x.term) (numbers l) (numbers m))

-- a walk over the nodes of one or two operands and the line that takes them
module _ (f : List Visit → Visit → List Refusal) (s : List Visit) where
  pub walk_last : (l : List Visit) (x : Visit) {r : List Refusal} → walk f s l ≡ r → walk f s (l ++ (x ∷ [])) ≡ r ++ f (s ++ l) x
  walk_last l x e = walk_append f s l (x ∷ []) ∙ ap₂ (λ (p q : List Refusal). p ++ q) e (walk_one f (s ++ l) x)

  pub walk_two : (k l : List Visit) (x : Visit) {r q : List Refusal} → walk f s k ≡ r → walk f (s ++ k) l ≡ q
      → walk f s (k ++ (l ++ (x ∷ []))) ≡ r ++ (q ++ f ((s ++ k) ++ l) x)
  walk_two k l x e g =
      walk_append f s k (l ++ (x ∷ [])) ∙ ap₂ (λ (p q : List Refusal). p ++ q) e
      (walk_append f (s ++ k) l (x ∷ []) ∙ ap₂ (λ (p q : List Refusal). p ++ q) g (walk_one f ((s ++ k) ++ l) x))

module _ (G : Schema) where
  -- the fixes among the nodes of a term are the term's
  pub numbers_visits : (C : Cols) (v : List ℕ) (n : ℕ) (t : Term) → numbers (visits G C v n t) ≡ fix_numbers t
  unfolding numbers visits fix_numbers
  numbers_visits C v n (table t) = refl
  numbers_visits C v n (var u) = refl
  numbers_visits C v n (fact c x) = refl
  numbers_visits C v n (pair o a b) =
      let l = visits G C v (n + size a) b in
      numbers_append (visits G C v n a) (l ++ (visit n (pair o a b) C v ∷ []))
      ∙ ap₂ (λ (p q : List ℕ). p ++ q) (numbers_visits C v n a)
      (numbers_append l (visit n (pair o a b) C v ∷ []) ∙ append-nil (numbers l) ∙ numbers_visits C v (n + size a) b)
  numbers_visits C v n (filter f a) = numbers_append (visits G C v n a) (visit n (filter f a) C v ∷ []) ∙ append-nil _ ∙ numbers_visits C v n a
  numbers_visits C v n (copy c d a) = numbers_append (visits G C v n a) (visit n (copy c d a) C v ∷ []) ∙ append-nil _ ∙ numbers_visits C v n a
  numbers_visits C v n (drop c a) = numbers_append (visits G C v n a) (visit n (drop c a) C v ∷ []) ∙ append-nil _ ∙ numbers_visits C v n a
  numbers_visits C v n (last c a) = numbers_append (visits G C v n a) (visit n (last c a) C v ∷ []) ∙ append-nil _ ∙ numbers_visits C v n a
  numbers_visits C v n (fix u a b) =
      let l = visits G (cols G C a) (u ∷ v) (n + size a) b in
      numbers_append (visits G C v n a) (l ++ (visit n (fix u a b) C v ∷ []))
      ∙ ap₂ (λ (p q : List ℕ). p ++ q) (numbers_visits C v n a)
      (numbers_append l (visit n (fix u a b) C v ∷ []) ∙ ap (λ (p : List ℕ). p ++ (u ∷ [])) (numbers_visits (cols G C a) (u ∷ v) (n + size a) b))
  numbers_visits C v n (mu u a) = numbers_append (visits G C v n a) (visit n (mu u a) C v ∷ []) ∙ append-nil _ ∙ numbers_visits C v n a

  -- where a pass stands after some nodes
  pub seen_length : (s : List Visit) (C : Cols) (v : List ℕ) (n : ℕ) (t : Term) → length (s ++ visits G C v n t) ≡ length s + size t
  seen_length s C v n t = length-append s (visits G C v n t) ∙ ap (λ (k : ℕ). length s + k) (visits_length G C v n t)

  seen_numbers : (s : List Visit) (C : Cols) (v : List ℕ) (n : ℕ) (t : Term) → numbers (s ++ visits G C v n t) ≡ numbers s ++ fix_numbers t
  seen_numbers s C v n t = numbers_append s (visits G C v n t) ∙ ap (λ (l : List ℕ). numbers s ++ l) (numbers_visits C v n t)

  -- after both operands
  both_length : (s : List Visit) (C : Cols) (v : List ℕ) (n : ℕ) (a : Term) (D : Cols) (w : List ℕ) (m : ℕ) (b : Term)
      → length ((s ++ visits G C v n a) ++ visits G D w m b) + 1 ≡ length s + (size a + size b + 1)
  both_length s C v n a D w m b = omega (arith, seen_length (s ++ visits G C v n a) D w m b, seen_length s C v n a)

  both_numbers : (s : List Visit) (C : Cols) (v : List ℕ) (n : ℕ) (a : Term) (D : Cols) (w : List ℕ) (m : ℕ) (b : Term)
      → numbers ((s ++ visits G C v n a) ++ visits G D w m b) ≡ numbers s ++ (fix_numbers a ++ fix_numbers b)
  both_numbers s C v n a D w m b =
      seen_numbers (s ++ visits G C v n a) D w m b ∙ ap (λ (l : List ℕ). l ++ fix_numbers b) (seen_numbers s C v n a)
      ∙ append_assoc (numbers s) (fix_numbers a) (fix_numbers b)

  -- a line with one operand whose faults f don't ask which numbers are taken
  first_last : (t a : Term) (f : ℕ → List Refusal) (s : List Visit) (C : Cols) (v : List ℕ) (n : ℕ) → ((taken : List ℕ) (m : ℕ) → scope_faults t v taken m ≡ f m)
      → walk first_at s (visits G C v n a) ≡ first_pass a v (numbers s) (length s)
      → walk first_at s (visits G C v n a ++ (visit n t C v ∷ [])) ≡ first_pass a v (numbers s) (length s) ++ f (length s + (size a + 1))
  first_last t a f s C v n h e =
      let m : length (s ++ visits G C v n a) + 1 ≡ length s + (size a + 1) = omega (arith, seen_length s C v n a) in
      walk_last first_at s (visits G C v n a) (visit n t C v) e ∙ ap (λ (l : List Refusal). first_pass a v (numbers s) (length s) ++ l) (h _ _ ∙ ap f m)

  -- "First pass, lowest node first, then lowest number"
  pub first_walk : (t : Term) (s : List Visit) (C : Cols) (v : List ℕ) (n : ℕ)
      → walk first_at s (visits G C v n t) ≡ first_pass t v (numbers s) (length s)
  unfolding visits first_pass size
  first_walk (table t) s C v n = walk_one first_at s (visit n (table t) C v)
  first_walk (var u) s C v n = walk_one first_at s (visit n (var u) C v)
  first_walk (fact c x) s C v n = walk_one first_at s (visit n (fact c x) C v)
  first_walk (pair o a b) s C v n =
      let k = visits G C v n a in
      let l = visits G C v (n + size a) b in
      walk_two first_at s k l (visit n (pair o a b) C v) (first_walk a s C v n)
      (first_walk b (s ++ k) C v (n + size a) ∙ ap₂ (first_pass b v) (seen_numbers s C v n a) (seen_length s C v n a))
      ∙ ap (λ (m : ℕ). first_pass a v (numbers s) (length s) ++ (first_pass b v (numbers s ++ fix_numbers a) (length s + size a) ++ scope_faults (pair o a b) v [] m))
      (both_length s C v n a C v (n + size a) b)
  first_walk (filter f a) s C v n = walk_last first_at s (visits G C v n a) (visit n (filter f a) C v) (first_walk a s C v n) ∙ append-nil _
  first_walk (copy c d a) s C v n = walk_last first_at s (visits G C v n a) (visit n (copy c d a) C v) (first_walk a s C v n) ∙ append-nil _
  first_walk (drop c a) s C v n = walk_last first_at s (visits G C v n a) (visit n (drop c a) C v) (first_walk a s C v n) ∙ append-nil _
  first_walk (last c a) s C v n = first_last (last c a) a (scope_faults (last c a) v []) s C v n (λ _ _. refl) (first_walk a s C v n)
  first_walk (fix u a b) s C v n =
      let k = visits G C v n a in
      let D = cols G C a in
      let l = visits G D (u ∷ v) (n + size a) b in
      walk_two first_at s k l (visit n (fix u a b) C v) (first_walk a s C v n)
      (first_walk b (s ++ k) D (u ∷ v) (n + size a) ∙ ap₂ (first_pass b (u ∷ v)) (seen_numbers s C v n a) (seen_length s C v n a))
      ∙ ap₂ (λ (taken : List ℕ) (m : ℕ). first_pass a v (numbers s) (length s)
      ++ (first_pass b (u ∷ v) (numbers s ++ fix_numbers a) (length s + size a) ++ scope_faults (fix u a b) v taken m))
      (both_numbers s C v n a D (u ∷ v) (n + size a) b) (both_length s C v n a D (u ∷ v) (n + size a) b)
  first_walk (mu u a) s C v n = first_last (mu u a) a (scope_faults (mu u a) v []) s C v n (λ _ _. refl) (first_walk a s C v n)

  second_last : (t a : Term) (s : List Visit) (C : Cols) (v : List ℕ) (n : ℕ) → walk (second_at G) s (visits G C v n a) ≡ second_pass G a C (length s)
      → walk (second_at G) s (visits G C v n a ++ (visit n t C v ∷ [])) ≡ second_pass G a C (length s) ++ column_faults G t C (length s + (size a + 1))
  second_last t a s C v n e =
      let m : length (s ++ visits G C v n a) + 1 ≡ length s + (size a + 1) = omega (arith, seen_length s C v n a) in
      walk_last (second_at G) s (visits G C v n a) (visit n t C v) e ∙ ap (λ (m : ℕ). second_pass G a C (length s) ++ column_faults G t C m) m

  -- "Second pass, lowest node"
  pub second_walk : (t : Term) (s : List Visit) (C : Cols) (v : List ℕ) (n : ℕ)
      → walk (second_at G) s (visits G C v n t) ≡ second_pass G t C (length s)
  unfolding visits second_pass size
  second_walk (table t) s C v n = walk_one (second_at G) s (visit n (table t) C v)
  second_walk (var u) s C v n = walk_one (second_at G) s (visit n (var u) C v)
  second_walk (fact c x) s C v n = walk_one (second_at G) s (visit n (fact c x) C v)
  second_walk (pair o a b) s C v n =
      let k = visits G C v n a in
      let l = visits G C v (n + size a) b in
      walk_two (second_at G) s k l (visit n (pair o a b) C v) (second_walk a s C v n)
      (second_walk b (s ++ k) C v (n + size a) ∙ ap (second_pass G b C) (seen_length s C v n a))
      ∙ ap (λ (m : ℕ). second_pass G a C (length s) ++ (second_pass G b C (length s + size a) ++ column_faults G (pair o a b) C m))
      (both_length s C v n a C v (n + size a) b)
  second_walk (filter f a) s C v n = second_last (filter f a) a s C v n (second_walk a s C v n)
  second_walk (copy c d a) s C v n = second_last (copy c d a) a s C v n (second_walk a s C v n)
  second_walk (drop c a) s C v n = second_last (drop c a) a s C v n (second_walk a s C v n)
  second_walk (last c a) s C v n = second_last (last c a) a s C v n (second_walk a s C v n)
  second_walk (fix u a b) s C v n =
      let k = visits G C v n a in
      let D = cols G C a in
      let l = visits G D (u ∷ v) (n + size a) b in
      walk_two (second_at G) s k l (visit n (fix u a b) C v) (second_walk a s C v n)
      (second_walk b (s ++ k) D (u ∷ v) (n + size a) ∙ ap (second_pass G b D) (seen_length s C v n a))
      ∙ ap (λ (m : ℕ). second_pass G a C (length s) ++ (second_pass G b D (length s + size a) ++ column_faults G (fix u a b) C m))
      (both_length s C v n a D (u ∷ v) (n + size a) b)
  second_walk (mu u a) s C v n = second_last (mu u a) a s C v n (second_walk a s C v n) ∙ append-nil _
