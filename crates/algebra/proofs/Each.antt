-- A fact of each column that a filter names.
use mathlib.Core.Path.{◌≡◌, refl, sym, ◌∙◌}
use mathlib.Core.Bool.{Bool, true}
use mathlib.Core.List.{List, [], ◌∷◌}
use Prim.Native.Nat.{ℕ}
use Rattle.laws.specs.Lists.{every, member}
use Rattle.laws.proofs.Tests.{and_true, and_true_left, and_true_right}
use Rattle.laws.proofs.Lists.{member_head, member_tail}
use Rattle.algebra.specs.declared.Condition.{Condition}
use Rattle.algebra.specs.declared.Condition.TheVariants.{Eq, Ne, Max, Same}
use Rattle.algebra.specs.Mapping.{Mapping}
use Rattle.algebra.specs.Term.{Holds}
use Rattle.algebra.specs.Columns.{named}
use Rattle.algebra.specs.WellFormed.{Each}

pub each_map : (l : List ℕ) {P Q : ℕ → Type 0} → ((c : ℕ) → P c → Q c) → Each P l → Each Q l
each_map [] g h = tt
each_map (c ∷ l) g (h, k) = (g c h, each_map l g k)

pub each_zip : (l : List ℕ) {P Q R : ℕ → Type 0} → ((c : ℕ) → P c → Q c → R c) → Each P l → Each Q l → Each R l
each_zip [] g h k = tt
each_zip (c ∷ l) g (h, i) (k, j) = (g c h k, each_zip l g i j)

pub each_member : (l : List ℕ) {P : ℕ → Type 0} → ((c : ℕ) → member c l ≡ true → P c) → Each P l
each_member [] g = tt
each_member (c ∷ l) g = (g c (member_head c l), each_member l (λ d e. g d (member_tail d c l e)))

pub every_each : (l : List ℕ) (p : ℕ → Bool) → every p l ≡ true → Each (λ c. p c ≡ true) l
unfolding every
every_each [] p e = tt
every_each (c ∷ l) p e = (and_true_left (p c) (every p l) e, every_each l p (and_true_right (p c) (every p l) e))

pub each_every : (l : List ℕ) (p : ℕ → Bool) → Each (λ c. p c ≡ true) l → every p l ≡ true
unfolding every
each_every [] p h = refl
each_every (c ∷ l) p (e, h) = and_true (p c) (every p l) e (each_every l p h)

-- a filter sees only the columns that it names
pub holds_same : (f : Condition) (x y : Mapping) → Each (λ c. x c ≡ y c) (named f) → Holds f x → Holds f y
unfolding Holds
holds_same (Eq c w) x y (e, _) h = sym e ∙ h
holds_same (Ne c w) x y (e, _) (u, h, k) = (u, sym e ∙ h, k)
holds_same (Max c w) x y (e, _) (u, h, k) = (u, sym e ∙ h, k)
holds_same (Same c d) x y (e, (g, _)) (u, h, k) = (u, sym e ∙ h, sym g ∙ k)
