-- What a class tells of its byte: a digit's range and value, and that a byte with another class is no digit.
use Prim.Native.Nat.{ℕ, ◌-◌, ◌≤◌}
use mathlib.Core.Path.{◌≡◌, ◌∙◌}
use mathlib.Core.Bool.{false}
use mathlib.Core.Logic.{inl, inr}
use Rattle.laws.specs.Lists.{any}
use Rattle.byte_classes.specs.declared.ByteClass.{ByteClass}
use Rattle.byte_classes.specs.declared.ByteClass.TheVariants.{Digit}
use Rattle.byte_classes.specs.Classes.{within, class_of, Belongs}
use Rattle.byte_classes.proofs.Ranges.{inside, range?, outside}
use Rattle.byte_classes.proofs.Characters.{digit_placed}
use Rattle.byte_classes.proofs.OneClass.{one_class}

-- a digit is in its range, and its value is counted from the first
pub digit_byte : (b d : ℕ) → class_of b ≡ Digit d → (48 ≤ b) × ((b ≤ 57) × (d ≡ b - 48))
unfolding Belongs
digit_byte b d e = digit_placed b d ((one_class b (Digit d)).1 e)

-- a byte whose class is no digit's
pub no_digit : (b : ℕ) (x : ByteClass) → x ≡ class_of b → ((d : ℕ) → x ≡ Digit d → ⊥) → within 48 57 b ≡ false
unfolding class_of any
no_digit b x e h = elim (range? 48 57 b) [
  | inl (k, l) ↦ absurd (h (b - 48) (e ∙ simp (inside 48 57 b k l)))
  | inr k ↦ outside 48 57 b k
]
