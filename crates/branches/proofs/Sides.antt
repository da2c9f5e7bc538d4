-- The proof of `interleavings_agree` and `told_as_alone`: a step on one branch leaves both branches where they are, so it commutes with every step on the other, however
-- many have been made; one by one the steps of the second list go behind the first.
use mathlib.Core.Path.{◌≡◌, refl, ap, ap₂, sym, ◌∙◌, subst}
use mathlib.Core.List.{List, [], ◌∷◌}
use Prim.Native.Nat.{ℕ, ◌≤◌}
use Rattle.laws.proofs.EachMember.{Each, each_map}
use Rattle.database.specs.declared.Database.{Database}
use Rattle.database.specs.Refusals.{Verdict}
use Rattle.query.specs.declared.Query.{Query}
use Rattle.rewrite.specs.Rewrite.{Step, held}
use Rattle.branches.specs.Branches.{Apart, stepped, Given, Commute, OnBranch, Interleaved, nothing, from_first, from_second, told}
use Rattle.branches.proofs.Stretches.{apart_sym, apart_under}
use Rattle.branches.proofs.GivenSteps.{given_after}
use Rattle.branches.proofs.StepsCommute.{steps_commute}
use Rattle.branches.proofs.BranchesKept.{SameStretch, branches_kept}

module _ (w limit : ℕ) (d : Database) (store : List ℕ) where
  -- a list on the branch of node m
  abbrev pub On : Query → ℕ → List Step → Type 0
  On q m steps = Each (λ (s : Step). Given limit d store q s × OnBranch q m s) steps

  -- two lists on two branches of a sheet
  pub record Sides (q : Query) (m m' : ℕ) (xs ys : List Step) : Type 0 where
    pub apart : Apart q m m'
    pub first : On q m xs
    pub second : On q m' ys

  swapped : {q : Query} {m m' : ℕ} {xs ys : List Step} → Sides q m m' xs ys → Sides q m' m ys xs
  swapped s = record { apart = apart_sym s.apart; first = s.second; second = s.first }

  module _ {m m' : ℕ} where
    -- after a step of the first list they are still
    after_first : {xs ys : List Step} (q : Query) (x : Step) → Sides q m m' (x ∷ xs) ys → Sides (stepped w q x) m m' xs ys
    after_first {xs} {ys} q x s =
        let (g, b) = s.first.0 in
        let k = branches_kept w x.limit x.database x.store q m x.node b.node x.kind b.kind in
        let own = k.own in
        let other = k.other m' s.apart in
        record {
          apart = record {
            different = s.apart.different;
            not_under = λ u. s.apart.not_under (record { other = u.other; among = (other m).1 u.among });
            not_over = λ u. s.apart.not_over (record { other = u.other; among = (own m').1 u.among });
          };
          first = kept q x b.kind g own xs s.first.1;
          second = kept q x b.kind g other ys s.second;
        }
      where
        kept : {n : ℕ} (q : Query) (x : Step) → x.kind ≤ 6 → Given limit d store q x → SameStretch q (stepped w q x) n → (steps : List Step) → On q n steps → On (stepped w q x) n steps
        kept q x low g same steps h =
            each_map steps (λ s (i, b). (given_after w limit d store q x s low g i, record { kind = b.kind; node = (same s.node).0 b.node })) h

    commute : {xs ys : List Step} (q : Query) (x y : Step) → Sides q m m' (x ∷ xs) (y ∷ ys) → Commute w q x y
    commute q x y s =
        let (g, b) = s.first.0 in
        let (g', b') = s.second.0 in
        let nodes : Apart q x.node y.node =
        apart_sym (apart_under q m' x.node y.node (apart_sym (apart_under q m m' x.node s.apart b.node)) b'.node) in
        steps_commute w limit d store q x y g g' b.kind b'.kind nodes

  module _ {m m' : ℕ} where
    after_second : {xs ys : List Step} (q : Query) (y : Step) → Sides q m m' xs (y ∷ ys) → Sides (stepped w q y) m m' xs ys
    after_second q y s = swapped (after_first q y (swapped s))

    -- a step of the second list after the whole first one, or before it
    passes : (xs : List Step) {ys : List Step} (q : Query) (y : Step) → Sides q m m' xs (y ∷ ys) → stepped w (held w q xs) y ≡ held w (stepped w q y) xs
    unfolding held
    passes [] q y s = refl
    passes (x ∷ xs) q y s =
        passes xs (stepped w q x) y (after_first q x s) ∙ ap (λ (p : Query). held w p xs) (commute q x y s).same_sheet

    -- what the first list is told is the same after it
    told_after_lem : (xs : List Step) {ys : List Step} (q : Query) (y : Step) → Sides q m m' xs (y ∷ ys) → told w (stepped w q y) xs ≡ told w q xs
    unfolding told
    told_after_lem [] q y s = refl
    told_after_lem (x ∷ xs) q y s =
        let c = commute q x y s in
        ap₂ (λ (v : Verdict) (l : List (Step × Verdict)). (x, v) ∷ l) c.first_after_lem
        (ap (λ (p : Query). told w p xs) (sym c.same_sheet) ∙ told_after_lem xs (stepped w q x) y (after_first q x s))

  module _ {m m' : ℕ} where
    pub one_after_other : {xs ys zs : List Step} → Interleaved xs ys zs → (q : Query) → Sides q m m' xs ys → held w q zs ≡ held w (held w q xs) ys
    unfolding held
    one_after_other nothing q s = refl
    one_after_other (from_first {x = x} h) q s = one_after_other h (stepped w q x) (after_first q x s)
    one_after_other (from_second {x = y} {l = xs} {m = ys} h) q s =
        one_after_other h (stepped w q y) (after_second q y s) ∙ ap (λ (p : Query). held w p ys) (sym (passes xs q y s))

    pub told_apart : {xs ys zs : List Step} → Interleaved xs ys zs → (q : Query) → Sides q m m' xs ys → Interleaved (told w q xs) (told w q ys) (told w q zs)
    unfolding told
    told_apart nothing q s = nothing
    told_apart (from_first {x = x} {l = xs} {m = ys} {n = zs} h) q s =
        let p = stepped w q x in
        from_first (subst (λ (l : List (Step × Verdict)). Interleaved (told w p xs) l (told w p zs)) (told_after_lem ys q x (swapped s)) (told_apart h p (after_first q x s)))
    told_apart (from_second {x = y} {l = xs} {m = ys} {n = zs} h) q s =
        let p = stepped w q y in
        from_second (subst (λ (l : List (Step × Verdict)). Interleaved l (told w p ys) (told w p zs)) (told_after_lem xs q y s) (told_apart h p (after_second q y s)))
