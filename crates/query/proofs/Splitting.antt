-- The check's splitting: no fault exactly if no mu is left, and lines on the form stay so.
use mathlib.Core.Path.{◌≡◌, refl, ap, sym, ◌∙◌}
use mathlib.Core.Bool.{true}
use mathlib.Core.List.{List, [], ◌∷◌, ◌++◌}
use mathlib.Core.Logic.{◌↔◌, inl, inr}
use Prim.Native.Nat.{ℕ, ◌+◌}
use native.Mathlib.Omega.{arith}
use Rattle.laws.proofs.EachMember.{Each, each_append}
use Rattle.laws.proofs.EmptyLists.{true_or_false, append_none, each_split}
use Rattle.algebra.specs.Term.{Term, table, var, fact, pair, filter, copy, drop, last, fix, mu}
use Rattle.algebra.specs.Columns.{Schema, size}
use Rattle.algebra.specs.WellFormed.{Closed}
use Rattle.algebra.specs.Split.{split, splits, mus}
use Rattle.algebra.proofs.SplitTerms.{split_splits, mu_split, mu_stays, closed_mus}
use Rattle.algebra.proofs.SplitKeeps.{Carried, split_keeps}
use Rattle.database.specs.Refusals.{accepted, no_fault}
use Rattle.database.proofs.Replies.{accepted_same, accepted_then, no_fault_lem}
use Rattle.query.specs.declared.Node.{Node}
use Rattle.query.specs.declared.Node.TheVariants.{Pair, Filter, Copy, Drop, Fix, Mu, Last}
use Rattle.query.specs.Lines.{on_form, lines}
use Rattle.query.specs.Check.{split_faults, split_term}
use Rattle.query.proofs.FirstPass.{unless_none}

-- every mu of the term has a closed branch and an open one: then none is left
all_split : (t : Term) (n : ℕ) → split_faults t n ≡ [] → mus (split t) ≡ 0
unfolding split_faults split mus
all_split (table t) n e = refl
all_split (var v) n e = refl
all_split (fact c x) n e = refl
all_split (pair o a b) n e = let (i, j) = (append_none (split_faults a n) _).0 e in rw (all_split a n i, all_split b (n + size a) j)
all_split (filter f a) n e = all_split a n e
all_split (copy c d a) n e = all_split a n e
all_split (drop c a) n e = all_split a n e
all_split (last c a) n e = all_split a n e
all_split (fix v a b) n e = let (i, j) = (append_none (split_faults a n) _).0 e in rw (all_split a n i, all_split b (n + size a) j)
all_split (mu v a) n e =
    let (i, j) = (append_none (split_faults a n) _).0 e in
    mu_split v (split a) (split_splits a ∙ (unless_none (splits a) _).0 j) ∙ all_split a n i

-- and one that has not is left
none_left : (t : Term) (n : ℕ) → mus (split t) ≡ 0 → split_faults t n ≡ []
unfolding split_faults split mus
none_left (table t) n e = refl
none_left (var v) n e = refl
none_left (fact c x) n e = refl
none_left (pair o a b) n e = (append_none _ _).1 (none_left a n (omega arith), none_left b (n + size a) (omega arith))
none_left (filter f a) n e = none_left a n e
none_left (copy c d a) n e = none_left a n e
none_left (drop c a) n e = none_left a n e
none_left (last c a) n e = none_left a n e
none_left (fix v a b) n e = (append_none _ _).1 (none_left a n (omega arith), none_left b (n + size a) (omega arith))
none_left (mu v a) n e = elim (true_or_false (splits a)) [
  | inl s ↦ (append_none _ _).1 (none_left a n (sym (mu_split v (split a) (split_splits a ∙ s)) ∙ e), (unless_none (splits a) _).1 s)
  | inr s ↦
      let left : mus (mu v (split a)) ≡ 0 = sym (ap mus (mu_stays v (split a) (split_splits a ∙ s))) ∙ e in
      let z : ⊥ = omega arith in absurd z
]

-- 20 is not given exactly if each mu becomes a fix
pub split_iff : (t : Term) (n : ℕ) → (split_faults t n ≡ []) ↔ (mus (split t) ≡ 0)
split_iff t n = (all_split t n, none_left t n)

-- what the split replies where it is not given
pub split_accepted : (t : Term) {s : Term} → split_term t ≡ accepted s → (mus (split t) ≡ 0) × (split t ≡ s)
unfolding split_term
split_accepted t e =
    let (_, none, same) = accepted_then (no_fault (split_faults t 0)) (λ _. accepted (split t)) e in
    ((split_iff t 0).0 (no_fault_lem (split_faults t 0) none), accepted_same same)

-- so it is not given where the split term is well-formed
pub closed_split : {G : Schema} (t : Term) → Closed G (split t) → split_faults t 0 ≡ []
closed_split t p = (split_iff t 0).1 (closed_mus p)

-- each line of a term is on the form
abbrev pub LinesFormed : ℕ → Term → Type 0
LinesFormed w t = Each (λ (x : Node). on_form w x ≡ true) (lines t)

module _ (w : ℕ) where
  abbrev Formed : List Node → Type 0
  Formed = Each (λ (x : Node). on_form w x ≡ true)

  two_parts : (a b : List Node) (x : Node) → Formed (a ++ (b ++ (x ∷ []))) → Formed a × Formed b × (on_form w x ≡ true)
  two_parts a b x h = let (i, j) = each_split _ a _ h in let (k, l) = each_split _ b _ j in (i, k, l.0)

  two_formed : (a b : List Node) (x : Node) → on_form w x ≡ true → Formed a → Formed b → Formed (a ++ (b ++ (x ∷ [])))
  two_formed a b x e h k = each_append _ a _ h (each_append _ b _ k (e, tt))

  one_parts : (a : List Node) (x : Node) → Formed (a ++ (x ∷ [])) → Formed a × (on_form w x ≡ true)
  one_parts a x h = let (i, j) = each_split _ a _ h in (i, j.0)

  one_formed : (a : List Node) (x : Node) → on_form w x ≡ true → Formed a → Formed (a ++ (x ∷ []))
  one_formed a x e h = each_append _ a _ h (e, tt)

  lines_carried : Carried (LinesFormed w)
  unfolding lines
  lines_carried = record {
    of_pair = λ o a b h. let (i, j, e) = two_parts (lines a) (lines b) (Pair o) h in (i, j, λ x y k l. two_formed (lines x) (lines y) (Pair o) e k l);
    of_filter = λ f a h. let (i, e) = one_parts (lines a) (Filter f) h in (i, λ x k. one_formed (lines x) (Filter f) e k);
    of_copy = λ c d a h. let (i, e) = one_parts (lines a) (Copy c d) h in (i, λ x k. one_formed (lines x) (Copy c d) e k);
    of_drop = λ c a h. let (i, e) = one_parts (lines a) (Drop c) h in (i, λ x k. one_formed (lines x) (Drop c) e k);
    of_last = λ c a h. let (i, e) = one_parts (lines a) (Last c) h in (i, λ x k. one_formed (lines x) (Last c) e k);
    of_fix = λ v a b h. let (i, j, e) = two_parts (lines a) (lines b) (Fix v) h in (i, j, λ x y k l. two_formed (lines x) (lines y) (Fix v) e k l);
    of_mu_lem = λ v a h.
        let (i, e) = one_parts (lines a) (Mu v) h in
        (i, (λ x k. one_formed (lines x) (Mu v) e k), λ x y k l. two_formed (lines x) (lines y) (Fix v) e k l);
    unite = λ a b h k. two_formed (lines a) (lines b) _ refl h k;
  }

  -- the lines of the split sheet are on the form
  pub split_formed : (t : Term) → LinesFormed w t → LinesFormed w (split t)
  split_formed = split_keeps lines_carried
