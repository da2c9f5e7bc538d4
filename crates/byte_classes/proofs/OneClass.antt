-- "each of the 256 values gets the one class it belongs to": a byte, as any number, belongs to the class that `class_of` gives it and to no other.
use Prim.Native.Nat.{ℕ}
use mathlib.Core.Path.{◌≡◌, subst}
use mathlib.Core.Logic.{◌↔◌}
use Rattle.byte_classes.specs.declared.ByteClass.{ByteClass}
use Rattle.byte_classes.specs.Classes.{class_of, Belongs}
use Rattle.byte_classes.proofs.Classed.{only, belongs}

pub one_class : (b : ℕ) (c : ByteClass) → Belongs b c ↔ (class_of b ≡ c)
one_class b c = (only b c, λ e. subst (Belongs b) e (belongs b))
