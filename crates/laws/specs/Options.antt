-- Options: a value changed, and a value handed on.
use Rattle.std.specs.Prelude.{Bool, true, false}
use Rattle.std.specs.Prelude.{Option, Some, None}

abbrev pub mapped : {A B : Type 0} → (A → B) → Option A → Option B
mapped f None = None
mapped f (Some a) = Some (f a)

infixl 25 ◌then◌
-- what is made of a value, if there is one
abbrev pub ◌then◌ : {A B : Type 0} → Option A → (A → Option B) → Option B
None then f = None
Some a then f = f a

abbrev pub present : {A : Type 0} → Option A → Bool
present None = false
present (Some a) = true
