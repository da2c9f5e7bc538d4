-- Tests and lists, over any element. Nothing here comes from document 01.
use Rattle.std.specs.Prelude.{Bool, true, false, not, ◌&&◌, ◌||◌, List, [], ◌∷◌, ◌++◌, ℕ, zero, suc, eqb}
use Rattle.std.specs.Prelude.{Option, Some, None}

infix 10 when◌then◌else◌
infixl 60 ◌iff◌
abbrev pub when◌then◌else◌ {ℓ} : {A : Type ℓ} → Bool → A → A → A
when true then a else b = a
when false then a else b = b

-- both tests agree
abbrev pub ◌iff◌ : Bool → Bool → Bool
true iff b = b
false iff b = not b

abbrev pub null : {A : Type 0} → List A → Bool
null [] = true
null (a ∷ l) = false

-- every member passes; some member passes
unfoldable pub every : {A : Type 0} → (A → Bool) → List A → Bool
every p [] = true
every p (a ∷ l) = p a && every p l

unfoldable pub any : {A : Type 0} → (A → Bool) → List A → Bool
any p [] = false
any p (a ∷ l) = p a || any p l

abbrev pub member : ℕ → List ℕ → Bool
member n l = any (eqb n) l

-- the members that pass, in their order
unfoldable pub sift : {A : Type 0} → (A → Bool) → List A → List A
sift p [] = []
sift p (a ∷ l) = when p a then a ∷ sift p l else sift p l

-- every number below n passes
unfoldable pub all : (ℕ → Bool) → ℕ → Bool
all p zero = true
all p (suc n) = all p n && p n

-- the lowest number below n that fails
unfoldable pub lowest : (ℕ → Bool) → ℕ → Option ℕ
lowest p zero = None
lowest p (suc n) = elim (lowest p n) [ None ↦ when p n then None else Some n | Some i ↦ Some i ]

-- f 0, …, f (n - 1)
unfoldable pub tabulate : {A : Type 0} → (ℕ → A) → ℕ → List A
tabulate f zero = []
tabulate f (suc n) = tabulate f n ++ (f n ∷ [])
