-- `class_of`: a byte in a range is in no range before it, and one that is no key is none of them.
use borrow.Author.Tests.{ne_eqb}
use native.Mathlib.Omega.{arith}
use Prim.Native.Nat.{ℕ}
use mathlib.Core.Path.{◌≡◌, sym, ap}
use mathlib.Core.Bool.{false}
use lib.Dec.{eqb}
use Rattle.byte_classes.specs.Classes.{class_of}
use Rattle.byte_classes.proofs.Ranges.{inside, below, above}
use Rattle.byte_classes.proofs.class_of.Goals as goal

-- none of the keys
abbrev Unkeyed : ℕ → Type 0
Unkeyed b = (eqb b 44 ≡ false) × ((eqb b 61 ≡ false) × (eqb b 10 ≡ false))

unkeyed : (b : ℕ) → (b ≡ 44 → ⊥) → (b ≡ 61 → ⊥) → (b ≡ 10 → ⊥) → Unkeyed b
unkeyed b h i j = (ne_eqb _ _ h, (ne_eqb _ _ i, ne_eqb _ _ j))

pub returns-in-44 : goal.returns-in-44
unfolding class_of
returns-in-44 c = ap class_of (sym c.in-44.is)

pub returns-in-61 : goal.returns-in-61
unfolding class_of
returns-in-61 c = ap class_of (sym c.in-61.is)

pub returns-in-10 : goal.returns-in-10
unfolding class_of
returns-in-10 c = ap class_of (sym c.in-10.is)

pub returns-in-48-to-57 : goal.returns-in-48-to-57
unfolding class_of
returns-in-48-to-57 c = simp (inside 48 57 c.args.b (omega arith) (omega arith))

pub returns-in-97-to-122 : goal.returns-in-97-to-122
unfolding class_of
returns-in-97-to-122 c =
    simp (above 48 57 c.args.b (omega arith), inside 97 122 c.args.b (omega arith) (omega arith))

pub returns-in_default : goal.returns-in_default
unfolding class_of
returns-in_default c =
    let k = unkeyed c.args.b (λ e. omega arith) (λ e. omega arith) (λ e. omega arith) in
    simp (below 48 57 c.args.b (omega arith), below 97 122 c.args.b (omega arith), k.0, k.1.0, k.1.1)

pub returns-in_default-2 : goal.returns-in_default-2
unfolding class_of
returns-in_default-2 c =
    let k = unkeyed c.args.b (λ e. omega arith) (λ e. omega arith) (λ e. omega arith) in
    simp (above 48 57 c.args.b (omega arith), below 97 122 c.args.b (omega arith), k.0, k.1.0, k.1.1)

pub returns-in_default-3 : goal.returns-in_default-3
unfolding class_of
returns-in_default-3 c =
    let k = unkeyed c.args.b (λ e. omega arith) (λ e. omega arith) (λ e. omega arith) in
    simp (above 48 57 c.args.b (omega arith), above 97 122 c.args.b (omega arith), k.0, k.1.0, k.1.1)
