-- Lists that are made of the parts that each member gives, and arrays filled from a table, over any element.
use mathlib.Core.Path.{◌≡◌, refl, ap, sym, ◌∙◌}
use mathlib.Core.List.{List, [], ◌∷◌, ◌++◌, flat_map, append-nil}
use Prim.Native.Nat.{ℕ, ◌+◌, ◌-◌, ◌<◌}
use native.Mathlib.Omega.{arith}
use native.Mathlib.Numerals.{add-one}
use lib.ListN.{length, take, get_or, set, replicate}
use lib.Seq.{take-suc}
use Rattle.laws.specs.Lists.{tabulate}
use Rattle.laws.proofs.Tabulated.{length_tabulate}
use Rattle.laws.proofs.Passes.{filled, filled_more}
use Rattle.laws.proofs.EachMember.{flat_map_append}

module _ {A B : Type 0} (f : A → List B) where
  pub flat_map_none : flat_map f [] ≡ []
  unfolding flat_map
  flat_map_none = refl

  pub flat_map_one : (a : A) → flat_map f (a ∷ []) ≡ f a
  unfolding flat_map
  flat_map_one a = append-nil (f a)

  -- a member behind others
  pub flat_map_snoc : (l : List A) (a : A) → flat_map f l ++ f a ≡ flat_map f (l ++ (a ∷ []))
  flat_map_snoc l a = sym (flat_map_append f l (a ∷ []) ∙ ap (λ r. flat_map f l ++ r) (flat_map_one a))

  -- one more of the first members
  pub flat_map_more : (l : List A) (i : ℕ) (d : A) → i < length l → flat_map f (take i l) ++ f (get_or l i d) ≡ flat_map f (take (i + 1) l)
  flat_map_more l i d h = flat_map_snoc (take i l) (get_or l i d) ∙ ap (flat_map f) (sym (take-suc l i d h) ∙ ap (λ k. take k l) (sym (add-one i)))

-- an array of n entries that is filled with f 0, f 1, …
module _ {A : Type 0} (n : ℕ) (d : A) (f : ℕ → A) where
  pub filled_tabulate_more : (i : ℕ) → i < n → set (filled n d (tabulate f i)) i (f i) ≡ filled n d (tabulate f (i + 1))
  unfolding tabulate
  filled_tabulate_more i h = filled_more n d (tabulate f i) (f i) i (length_tabulate f i) h ∙ ap (λ k. filled n d (tabulate f k)) (sym (add-one i))

  pub filled_tabulate : filled n d (tabulate f n) ≡ tabulate f n
  filled_tabulate = ap (λ k. tabulate f n ++ replicate k d) {x = n - length (tabulate f n)} {y = 0} (omega (arith, length_tabulate f n)) ∙ append-nil (tabulate f n)
