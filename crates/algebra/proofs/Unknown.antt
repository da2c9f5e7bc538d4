-- What `max` keeps, and unknown values: "Value 0 stands for unknown".
use mathlib.Core.Path.{◌≡◌, refl, sym, ◌∙◌, subst}
use mathlib.Core.Logic.{◌≢◌, ◌↔◌}
use Rattle.std.specs.Prelude.{Some}
use Prim.Native.Nat.{ℕ, ◌≤◌}
use Rattle.laws.proofs.Options.{some_inj}
use Rattle.algebra.specs.declared.Condition.TheVariants.{Max}
use Rattle.algebra.specs.Mapping.{Mapping}
use Rattle.algebra.specs.Term.{Term, filter, Holds, Environment, meaning}

-- a row whose column holds x is kept exactly if x is not 0 and at most the bound
pub max_exact : (T : Environment) (c w x : ℕ) (a : Term) (ρ : Environment) (m : Mapping) → m c ≡ Some x
    → meaning T (filter (Max c w) a) ρ m ↔ (meaning T a ρ m × ((x ≢ 0) × (x ≤ w)))
unfolding Holds meaning
max_exact T c w x a ρ m e = (
  λ (r, (y, h, k)). (r, subst (λ (z : ℕ). (z ≢ 0) × (z ≤ w)) (some_inj (sym h ∙ e)) k),
  λ (r, k). (r, (x, e, k)),
)

-- U2: "A row whose column holds 0 passes no `max`, whatever the bound."
pub no_unknown : (T : Environment) (c w : ℕ) (a : Term) (ρ : Environment) (m : Mapping) → m c ≡ Some 0 → ¬ meaning T (filter (Max c w) a) ρ m
no_unknown T c w a ρ m e r = let (_, (known, _)) = (max_exact T c w 0 a ρ m e).0 r in known refl
