-- A step on one of two branches leaves both where they are: each keeps its stretch of lines.
use mathlib.Core.Path.{◌≡◌, refl, ap, sym, ◌∙◌, subst}
use mathlib.Core.Logic.{◌↔◌}
use Rattle.std.specs.Prelude.{Some}
use mathlib.Core.List.{List}
use Prim.Native.Nat.{ℕ, ◌≤◌}
use native.Mathlib.Omega.{arith}
use Rattle.laws.proofs.Options.{some_inj}
use Rattle.algebra.specs.Term.{Term}
use Rattle.algebra.specs.Columns.{size}
use Rattle.database.specs.declared.Database.{Database}
use Rattle.database.specs.Refusals.{Reply, refused, accepted, ◌>>=◌}
use Rattle.query.specs.declared.Node.{Node}
use Rattle.query.specs.declared.Query.{Query}
use Rattle.query.specs.Lines.{lines}
use Rattle.query.specs.Check.{check_over}
use Rattle.rewrite.specs.Rewrite.{ended_at, replaced, with_nodes, handed_back}
use Rattle.rewrite.proofs.Inside.{found_ended, ended_found, Inside, puts, puts_lines, puts_size, inside_found, ended_over}
use Rattle.branches.specs.Branches.{split_lines, Stretch, Apart, stepped}
use Rattle.branches.proofs.Stretches.{index, index_place, stretch_inside, apart_under}
use Rattle.branches.proofs.BranchSteps.{split_lines_lem, step_at, Writes, core, hand, step_applied, Leaves, leaves, other_ended}
use Rattle.branches.proofs.GivenSteps.{unchecked_stays}

-- the stretch of m is the same in both
abbrev pub SameStretch : Query → Query → ℕ → Type 0
SameStretch q p m = (i : ℕ) → Stretch q m i ↔ Stretch p m i

pub same_stretch : (q : Query) (m : ℕ) → SameStretch q q m
same_stretch q m i = ((λ s. s), (λ s. s))

by_ended : {q p : Query} {m : ℕ} → ended_at (split_lines q) m ≡ ended_at (split_lines p) m → (i : ℕ) → Stretch q m i → Stretch p m i
by_ended e i s = record { node = s.node; ends = sym e ∙ s.ends; from = s.from; to = s.to }

by_size : {q p : Query} {m : ℕ} {a b : Term} → ended_at (split_lines q) m ≡ Some a → ended_at (split_lines p) m ≡ Some b → size a ≡ size b
    → (i : ℕ) → Stretch q m i → Stretch p m i
by_size {b = b} e f g i s =
    let h : size s.node ≡ size b = ap size (some_inj (sym s.ends ∙ e)) ∙ g in
    let k = s.from in
    record { node = b; ends = f; from = omega arith; to = s.to }

module _ (w limit : ℕ) (d : Database) (store : List ℕ) (q : Query) (m n : ℕ) (s : Stretch q m n) where
  -- what is said of both branches once a step at node n, on the branch of m, has left p
  pub record BranchesKept (p : Query) : Type 0 where
    pub own : SameStretch q p m
    pub other : (m' : ℕ) → Apart q m m' → SameStretch q p m'

  stayed : BranchesKept q
  stayed = record { own = same_stretch q m; other = λ m' x. same_stretch q m' }

  module _ (t : Term) (over : check_over w limit q d store ≡ accepted t) (a b : Term) (l : Leaves w limit d store q t over n a b) where
    abbrev p : Query
    p = with_nodes q (replaced (lines t) n a b)

    split_before : split_lines q ≡ lines t
    split_before = split_lines_lem w limit q d store t over

    split_after : split_lines p ≡ lines (puts l.here b)
    split_after = split_lines_lem w limit p d store (puts l.here b) l.checked

    -- the step's node in the branch's term
    part : Inside a (index q m n s) s.node
    part = stretch_inside q m n s a (ap (λ (ns : List Node). ended_at ns n) split_before ∙ inside_found l.here)

    own_ended : ended_at (split_lines p) m ≡ Some (puts part b)
    own_ended =
        ap (λ (ns : List Node). ended_at ns m) (split_after ∙ puts_lines l.here b ∙ ap (λ (ns : List Node). replaced ns n a b) (sym split_before))
        ∙ ended_found (ended_over n (found_ended s.ends) part (index_place q m n s) b l.same_size)

    moved : BranchesKept p
    moved = record {
      own = λ i.
          let e = puts_size part b l.same_size in
          (by_size s.ends own_ended (sym e) i, by_size own_ended s.ends e i);
      other = λ m' x i.
          let e : ended_at (split_lines q) m' ≡ ended_at (split_lines p) m' =
          ap (λ (ns : List Node). ended_at ns m') split_before ∙ sym (other_ended w limit d store q t over n a b l m' (apart_under q m m' n x s))
          ∙ ap (λ (ns : List Node). ended_at ns m') (sym split_after) in
          (by_ended e i, by_ended (sym e) i);
    }

  pub branches_kept : (k : ℕ) → k ≤ 6 → BranchesKept (stepped w q (step_at limit d store k n))
  branches_kept k low = by_check (check_over w limit q d store) refl
    where
      by_core : (t : Term) (over : check_over w limit q d store ≡ accepted t) (c : Reply Writes) → core w limit d store q t over k n ≡ c
          → BranchesKept (handed_back q (c >>= hand q (lines t) n))
      by_core t over (refused r) e = stayed
      by_core t over (accepted (a, b)) e = moved t over a b (leaves w limit d store q t over k n a b low e)

      by_check : (c : Reply Term) → check_over w limit q d store ≡ c → BranchesKept (stepped w q (step_at limit d store k n))
      by_check (refused r) e = subst BranchesKept (sym (unchecked_stays w limit q d store r e k n)) stayed
      by_check (accepted t) e =
          subst BranchesKept (ap (handed_back q) (sym (step_applied w limit d store q t e k n low))) (by_core t e (core w limit d store q t e k n) refl)
