-- Parts of a text read one after the other, and those that are left.
use mathlib.Core.Path.{◌≡◌, refl, ap, sym, ◌∙◌}
use mathlib.Core.List.{List, [], ◌∷◌, ◌++◌, append_assoc, append-nil}
use Prim.Native.Nat.{ℕ, suc, ◌+◌, ◌-◌, ◌<◌}
use native.Mathlib.Omega.{arith}
use lib.ListN.{length, length-append}
use Rattle.database.specs.declared.Refusal.{Refusal}
use Rattle.database.specs.Refusals.{Reply, refused, accepted, ◌>>=◌}
use Rattle.database.proofs.Replies.{accepted_refused, accepted_same}
use Rattle.text.specs.Lines.{Rest}
use Rattle.text.proofs.Exact.{Again}

module _ {A : Type 0} where
  -- what is read behind parts that have been read
  abbrev pub prefixed : List A → Reply (List A × Rest) → Reply (List A × Rest)
  prefixed xs (refused r) = refused r
  prefixed xs (accepted p) = accepted (xs ++ p.0, p.1)

  prefixed_none : (r : Reply (List A × Rest)) → prefixed [] r ≡ r
  prefixed_none (refused r) = refl
  prefixed_none (accepted p) = refl

  prefixed_more : (xs : List A) (a : A) (r : Reply (List A × Rest)) → prefixed xs (prefixed (a ∷ []) r) ≡ prefixed (xs ++ (a ∷ [])) r
  prefixed_more xs a (refused r) = refl
  prefixed_more xs a (accepted p) = ap (λ l. accepted (l, p.1)) (sym (append_assoc xs (a ∷ []) p.0))

  prefixed_accepted : (xs : List A) (r : Reply (List A × Rest)) (p : List A × Rest) → prefixed xs r ≡ accepted p → (l : List A) × (p.0 ≡ xs ++ l)
  prefixed_accepted xs (refused r) p e = accepted_refused (sym e)
  prefixed_accepted xs (accepted q) p e = (q.0, ap (λ p. p.0) (sym (accepted_same e)))

  -- the state behind parts that have been read, where each part leaves one
  abbrev pub behind_parts : {S : Type 0} → (A → S) → S → List A → S
  behind_parts next c [] = c
  behind_parts next c (a ∷ l) = behind_parts next (next a) l

  pub behind_more : {S : Type 0} (next : A → S) (c : S) (l : List A) (a : A) → behind_parts next c (l ++ (a ∷ [])) ≡ next a
  behind_more next c [] a = refl
  behind_more next c (b ∷ l) a = behind_more next (next b) l a

module _ {S A : Type 0} {part : S → Rest → Reply (A × Rest)} {next : A → S} {loop : ℕ → S → Rest → Reply (List A × Rest)}
    (again : Again part next loop) where
  again_more : (n : ℕ) (c : S) (s t : Rest) (a : A) → part c s ≡ accepted (a, t) → loop (suc n) c s ≡ prefixed (a ∷ []) (loop n (next a) t)
  again_more n c s t a e =
      again.more n c s
      ∙ ap (λ r. r >>= λ p. loop n (next p.0) p.1 >>= λ q. accepted (p.0 ∷ q.0, q.1)) e
      ∙ by_case (loop n (next a) t)
    where
      by_case : (r : Reply (List A × Rest)) → (r >>= λ q. accepted (a ∷ q.0, q.1)) ≡ prefixed (a ∷ []) r
      by_case (refused r) = refl
      by_case (accepted p) = refl

  again_stops : (n : ℕ) (c : S) (s : Rest) (r : Refusal) → part c s ≡ refused r → loop (suc n) c s ≡ refused r
  again_stops n c s r e = again.more n c s ∙ ap (λ r. r >>= λ p. loop n (next p.0) p.1 >>= λ q. accepted (p.0 ∷ q.0, q.1)) e

  -- n parts are read from s₀ on, of which those read so far come first and the others are left at s
  abbrev pub Left : ℕ → S → Rest → List A → Rest → Type 0
  Left n c₀ s₀ xs s = loop n c₀ s₀ ≡ prefixed xs (loop (n - length xs) (behind_parts next c₀ xs) s)

  pub left_none : (n : ℕ) (c : S) (s : Rest) → Left n c s [] s
  left_none n c s =
      let e : n ≡ n - 0 = omega arith in
      sym (prefixed_none (loop n c s)) ∙ ap (λ k. prefixed [] (loop k c s)) e

  module _ (n : ℕ) (c₀ : S) (s₀ s : Rest) (xs : List A) (left : Left n c₀ s₀ xs s) where
    abbrev state : S
    state = behind_parts next c₀ xs

    one_left : length xs < n → loop n c₀ s₀ ≡ prefixed xs (loop (suc (n - (length xs + 1))) state s)
    one_left h =
        let k : n - length xs ≡ suc (n - (length xs + 1)) = omega arith in
        left ∙ ap (λ k. prefixed xs (loop k state s)) k

    pub left_more : (a : A) (t : Rest) → length xs < n → part state s ≡ accepted (a, t) → Left n c₀ s₀ (xs ++ (a ∷ [])) t
    left_more a t h e =
        let k : n - (length xs + 1) ≡ n - length (xs ++ (a ∷ [])) = omega (arith, length-append xs (a ∷ [])) in
        one_left h
        ∙ ap (prefixed xs) (again_more (n - (length xs + 1)) state s t a e)
        ∙ prefixed_more xs a (loop (n - (length xs + 1)) (next a) t)
        ∙ ap (λ c. prefixed (xs ++ (a ∷ [])) (loop (n - (length xs + 1)) c t)) (sym (behind_more next c₀ xs a))
        ∙ ap (λ k. prefixed (xs ++ (a ∷ [])) (loop k (behind_parts next c₀ (xs ++ (a ∷ []))) t)) k

    pub left_stops : (r : Refusal) → length xs < n → part state s ≡ refused r → loop n c₀ s₀ ≡ refused r
    left_stops r h e = one_left h ∙ ap (prefixed xs) (again_stops (n - (length xs + 1)) state s r e)

    pub left_all : length xs ≡ n → loop n c₀ s₀ ≡ accepted (xs, s)
    left_all h =
        let k : n - length xs ≡ 0 = omega arith in
        left
        ∙ ap (λ k. prefixed xs (loop k state s)) k
        ∙ ap (prefixed xs) (again.end state s)
        ∙ ap (λ l. accepted (l, s)) (append-nil xs)

    -- what has been read comes first of all that is read
    pub left_first : (p : List A × Rest) → loop n c₀ s₀ ≡ accepted p → (l : List A) × (p.0 ≡ xs ++ l)
    left_first p e = prefixed_accepted xs (loop (n - length xs) state s) p (sym left ∙ e)
