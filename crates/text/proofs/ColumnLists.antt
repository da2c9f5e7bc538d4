-- The list of a set's columns: it ascends, lies below w and has the set's columns; and ascending lists are known by their members.
use mathlib.Core.Path.{◌≡◌, refl, ap, sym, ◌∙◌, subst}
use mathlib.Core.Bool.{Bool, true, false, not, ◌&&◌, ◌||◌}
use mathlib.Core.Logic.{◌⊎◌, inl, inr, ◌≢◌}
use mathlib.Core.List.{List, [], ◌∷◌, ◌++◌, append-nil}
use Prim.Native.Nat.{ℕ, zero, suc, ◌<◌, ◌≤◌}
use native.Mathlib.Omega.{arith}
use native.Mathlib.Nat.{not-suc-le-zero}
use native.Mathlib.Decide.{dec_lt}
use lib.Dec.{eqb, ltb}
use borrow.Author.Tests.{lt-ltb}
use Rattle.laws.specs.Lists.{when◌then◌else◌, null, any, member, all, sift, tabulate}
use Rattle.laws.proofs.Tests.{true_false, same?, and_true}
use Rattle.laws.proofs.Lists.{member_head, sift_append}
use Rattle.laws.proofs.EmptyLists.{member_append}
use Rattle.laws.proofs.EachMember.{Each, each_map, each_append, each_of_member, both_true}
use Rattle.algebra.specs.Columns.{Cols}
use Rattle.algebra.proofs.Narrow.{Below}
use Rattle.text.specs.Lines.{ascending}
use Rattle.text.specs.Texts.{column_list}
use Rattle.text.proofs.Filled.{below_all, ascending_other, ascending_tail}

-- what holds of no columns, and still holds after each column that is or isn't in the set, holds of its list
columns_hold : (P : ℕ → List ℕ → Type 0) (D : Cols) → P 0 [] → ((w : ℕ) (l : List ℕ) → D w ≡ true → P w l → P (suc w) (l ++ (w ∷ [])))
    → ((w : ℕ) (l : List ℕ) → D w ≡ false → P w l → P (suc w) l) → (w : ℕ) → P w (column_list w D)
unfolding sift tabulate
columns_hold P D z with without zero = z
columns_hold P D z with without (suc w) = rw (sift_append D (tabulate (λ c. c) w) (w ∷ [])) (by_test (D w) refl (columns_hold P D z with without w))
  where
    by_test : (b : Bool) → D w ≡ b → P w (column_list w D) → P (suc w) (column_list w D ++ (when b then w ∷ [] else []))
    by_test true e h = with w (column_list w D) e h
    by_test false e h = rw (append-nil (column_list w D)) (without w (column_list w D) e h)

pub columns_null : (w : ℕ) (D : Cols) → null (column_list w D) ≡ all (λ c. not (D c)) w
unfolding all
columns_null w D =
    columns_hold (λ w l. null l ≡ all (λ c. not (D c)) w) D refl
    (λ w l e h. null_more w l ∙ sym (rw e (and-false (all (λ c. not (D c)) w))))
    (λ w l e h. h ∙ sym (rw e (and_yes (all (λ c. not (D c)) w)))) w
  where
    null_more : (w : ℕ) (l : List ℕ) → null (l ++ (w ∷ [])) ≡ false
    null_more w [] = refl
    null_more w (c ∷ l) = refl

    and-false : (a : Bool) → a && false ≡ false
    and-false true = refl
    and-false false = refl

    and_yes : (a : Bool) → a && true ≡ a
    and_yes true = refl
    and_yes false = refl

or_no : (a : Bool) → a || false ≡ a
or_no true = refl
or_no false = refl

ascending_last : (n : ℕ) (l : List ℕ) → Each (λ c. c < n) l → ascending l ≡ true → ascending (l ++ (n ∷ [])) ≡ true
unfolding ascending
ascending_last n [] h e = refl
ascending_last n (c ∷ []) (h, _) e = and_true _ _ (lt-ltb c n h) refl
ascending_last n (c ∷ (d ∷ l)) (_, h) e =
    let (less, rest) = both_true (ltb c d) (ascending (d ∷ l)) e in
    and_true _ _ less (ascending_last n (d ∷ l) h rest)

pub columns_ascend : (w : ℕ) (D : Cols) → Each (λ c. c < w) (column_list w D) × (ascending (column_list w D) ≡ true)
unfolding ascending
columns_ascend w D =
    columns_hold (λ w l. Each (λ c. c < w) l × (ascending l ≡ true)) D (tt, refl)
    (λ w l _ (h, a). (each_append (λ c. c < suc w) l (w ∷ []) (weaker w l h) (omega arith, tt), ascending_last w l h a))
    (λ w l _ (h, a). (weaker w l h, a)) w
  where
    weaker : (w : ℕ) (l : List ℕ) → Each (λ c. c < w) l → Each (λ c. c < suc w) l
    weaker w l h = each_map l (λ c k. omega arith) h

-- the members of the list below w are those columns of the set
abbrev Members : Cols → ℕ → List ℕ → Type 0
Members D w l = (c : ℕ) → (c < w → member c l ≡ D c) × (w ≤ c → member c l ≡ false)

members_with : (D : Cols) (w : ℕ) (l : List ℕ) → D w ≡ true → Members D w l → Members D (suc w) (l ++ (w ∷ []))
unfolding any
members_with D w l e h c = by_same (same? c w) (h c)
  where
    by_same : ((c ≡ w) × (eqb c w ≡ true)) ⊎ ((c ≢ w) × (eqb c w ≡ false)) → (c < w → member c l ≡ D c) × (w ≤ c → member c l ≡ false)
        → (c < suc w → member c (l ++ (w ∷ [])) ≡ D c) × (suc w ≤ c → member c (l ++ (w ∷ [])) ≡ false)
    by_same (inl (s, t)) (_, f) = (λ _. member_append c l (w ∷ []) ∙ rw (f (omega arith), t, s) (sym e), λ k. let z : ⊥ = omega arith in absurd z)
    by_same (inr (s, t)) (f, g) = (
      λ k. member_append c l (w ∷ []) ∙ rw t (or_no (member c l) ∙ f (omega arith)),
      λ k. member_append c l (w ∷ []) ∙ rw t (or_no (member c l) ∙ g (omega arith)),
    )

members_without : (D : Cols) (w : ℕ) (l : List ℕ) → D w ≡ false → Members D w l → Members D (suc w) l
members_without D w l e h c = by_same (same? c w) (h c)
  where
    by_same : ((c ≡ w) × (eqb c w ≡ true)) ⊎ ((c ≢ w) × (eqb c w ≡ false)) → (c < w → member c l ≡ D c) × (w ≤ c → member c l ≡ false)
        → (c < suc w → member c l ≡ D c) × (suc w ≤ c → member c l ≡ false)
    by_same (inl (s, _)) (_, f) = (λ _. f (omega arith) ∙ sym (ap D s ∙ e), λ k. f (omega arith))
    by_same (inr (s, _)) (f, g) = (λ k. f (omega arith), λ k. g (omega arith))

pub columns_member : (w : ℕ) (D : Cols) → Below w D → (c : ℕ) → member c (column_list w D) ≡ D c
unfolding any
columns_member w D h c = by_test (D c) refl
  where
    none_yet : Members D 0 []
    none_yet c = (λ k. absurd (not-suc-le-zero k), λ _. refl)

    members : Members D w (column_list w D)
    members = columns_hold (Members D) D none_yet (members_with D) (members_without D) w

    by_test : (b : Bool) → D c ≡ b → member c (column_list w D) ≡ D c
    by_test true e = (members c).0 (h c e)
    by_test false e = elim (dec_lt c w) [ yes k ↦ (members c).0 k | no k ↦ (members c).1 (omega arith) ∙ sym e ]

-- ascending lists with the same members are the same
lower_head : (c d : ℕ) (l m : List ℕ) → c < d → ascending (d ∷ m) ≡ true → member c (c ∷ l) ≡ member c (d ∷ m) → ⊥
lower_head c d l m h b e = true_false (sym (member_head c l) ∙ e ∙ below_all c d m h b)

same_tail : (c : ℕ) (l m : List ℕ) → ascending (c ∷ l) ≡ true → ascending (c ∷ m) ≡ true → ((b : ℕ) → member b (c ∷ l) ≡ member b (c ∷ m))
    → (b : ℕ) → member b l ≡ member b m
unfolding any
same_tail c l m a a' h b = elim (same? b c) [
  | inl (s, _) ↦ ap (λ n. member n l) s ∙ ascending_other c l a ∙ sym (ap (λ n. member n m) s ∙ ascending_other c m a')
  | inr (_, s) ↦ rw s at (h b)
]

pub ascending_same : (l m : List ℕ) → ascending l ≡ true → ascending m ≡ true → ((c : ℕ) → member c l ≡ member c m) → l ≡ m
unfolding any
ascending_same [] [] a b h = refl
ascending_same [] (d ∷ m) a b h = true_false (sym (h d ∙ member_head d m))
ascending_same (c ∷ l) [] a b h = true_false (sym (member_head c l) ∙ h c)
ascending_same (c ∷ l) (d ∷ m) a b h = by_heads (dec_lt c d) (dec_lt d c) (ascending_same l m (ascending_tail c l a) (ascending_tail d m b))
  where
    equal : c ≡ d → (((n : ℕ) → member n l ≡ member n m) → l ≡ m) → c ∷ l ≡ d ∷ m
    equal s f =
        let b' : ascending (c ∷ m) ≡ true = rw s b in
        rw s (ap (λ r. d ∷ r) (f (same_tail c l m a b' (subst (λ x. (n : ℕ) → member n (c ∷ l) ≡ member n (x ∷ m)) (sym s) h))))

    by_heads : Dec (c < d) → Dec (d < c) → (((n : ℕ) → member n l ≡ member n m) → l ≡ m) → c ∷ l ≡ d ∷ m
    by_heads (yes k) _ f = absurd (lower_head c d l m k b (h c))
    by_heads (no k) (yes j) f = absurd (lower_head d c m l j a (sym (h d)))
    by_heads (no k) (no j) f = equal (omega arith) f

-- ascending columns below w are the list of their set
pub columns_own : (w : ℕ) (cs : List ℕ) → ascending cs ≡ true → Each (λ c. c < w) cs → column_list w (λ c. member c cs) ≡ cs
columns_own w cs a h =
    let D : Cols = λ c. member c cs in
    ascending_same (column_list w D) cs (columns_ascend w D).1 a (columns_member w D (each_of_member (λ c. c < w) cs h))
