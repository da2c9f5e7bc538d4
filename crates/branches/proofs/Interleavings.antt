-- Two editors' lists, with steps of kinds 1 to 6 at or under two nodes that are apart, "both given the same book": however they are interleaved they end in the
-- same sheet, and each editor is told of each step what he would be told alone.
use mathlib.Core.Path.{◌≡◌, sym, ◌∙◌}
use mathlib.Core.List.{List}
use Prim.Native.Nat.{ℕ}
use Rattle.laws.proofs.EachMember.{Each}
use Rattle.database.specs.declared.Database.{Database}
use Rattle.query.specs.declared.Query.{Query}
use Rattle.rewrite.specs.Rewrite.{Step, held}
use Rattle.branches.specs.Branches.{Apart, Given, OnBranch, Interleaved, told}
use Rattle.branches.proofs.Sides.{Sides, one_after_other, told_apart}

module _ (w limit : ℕ) (d : Database) (store : List ℕ) (q : Query) (m m' : ℕ) (apart : Apart q m m') (xs ys : List Step)
    (first : Each (λ (s : Step). Given limit d store q s × OnBranch q m s) xs) (second : Each (λ (s : Step). Given limit d store q s × OnBranch q m' s) ys) where
  sides : Sides w limit d store q m m' xs ys
  sides = record { apart = apart; first = first; second = second }

  -- any two interleavings end in the same sheet
  pub interleavings_agree : (zs zs' : List Step) → Interleaved xs ys zs → Interleaved xs ys zs' → held w q zs ≡ held w q zs'
  interleavings_agree zs zs' h h' = one_after_other w limit d store h q sides ∙ sym (one_after_other w limit d store h' q sides)

  -- each list's verdicts, in an interleaving as alone
  pub told_as_alone : (zs : List Step) → Interleaved xs ys zs → Interleaved (told w q xs) (told w q ys) (told w q zs)
  told_as_alone zs h = told_apart w limit d store h q sides
