-- What a test for one variant of an enum tells of a value that is another.
use mathlib.Core.Bool.{true, false}
use mathlib.Core.List.{List, [], ◌∷◌}
use mathlib.Core.Logic.{⊎_elim}
use mathlib.Core.Path.{◌≡◌, ap, sym, ◌∙◌}
use Prim.Native.Nat.{ℕ}
use borrow.Author.Tests.{eq-eqb}
use denote.Enum.Declared.{Declared, tag_of}
use lib.Dec.{eqb}
use types.Run.{OneOf}
use Rattle.laws.specs.Lists.{any, member}
use Rattle.laws.proofs.Tests.{true_false, or_true_left, or_true_right}

one_of : (ks : List ℕ) (n : ℕ) → OneOf ks n → member n ks ≡ true
unfolding any
one_of [] n h = absurd h
one_of (k ∷ []) n h = or_true_left (eqb n k) _ (eq-eqb n k h)
one_of (k ∷ (j ∷ ks)) n h = ⊎_elim (λ e. or_true_left (eqb n k) _ (eq-eqb n k e)) (λ l. or_true_right (eqb n k) _ (one_of (j ∷ ks) n l)) h

-- a value whose variant is one of ks is no value of a variant that is not among them
pub other_variant : (T : Declared) (ks : List ℕ) (x y : T.D) → OneOf ks (tag_of T x) → member (tag_of T y) ks ≡ false → x ≡ y → ⊥
other_variant T ks x y h e q = true_false (sym (one_of ks (tag_of T x) h) ∙ ap (λ z. member (tag_of T z) ks) q ∙ e)
