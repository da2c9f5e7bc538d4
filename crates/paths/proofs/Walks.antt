-- The reader's states along a text.
use mathlib.Core.Path.{◌≡◌, refl, ap, ◌∙◌}
use Rattle.std.specs.Prelude.{Option, Some, None}
use mathlib.Core.List.{List, [], ◌∷◌, ◌++◌}
use Prim.Native.Nat.{ℕ}
use Rattle.laws.specs.Options.{◌then◌}
use Rattle.laws.proofs.Options.{none_some}
use Rattle.paths.specs.Grammar.{PropertyPath}
use Rattle.paths.specs.Reader.{State, step, finished}

-- the state after a text, if each byte has a next one
unfoldable pub walk : State → List ℕ → Option State
walk s [] = Some s
walk s (b ∷ l) = step s b then λ n. walk n l

pub walk_append : (s : State) (l m : List ℕ) → walk s (l ++ m) ≡ (walk s l then λ n. walk n m)
unfolding walk
walk_append s [] m = refl
walk_append s (b ∷ l) m = by_step (step s b) (λ n. walk_append n l m)
  where
    by_step : (o : Option State) → ((n : State) → walk n (l ++ m) ≡ (walk n l then λ n. walk n m))
        → (o then λ n. walk n (l ++ m)) ≡ ((o then λ n. walk n l) then λ n. walk n m)
    by_step None e = refl
    by_step (Some n) e = e n

-- one text after another
pub walked_append : (s : State) (l m : List ℕ) {n o : State} → walk s l ≡ Some n → walk n m ≡ Some o → walk s (l ++ m) ≡ Some o
walked_append s l m e f = walk_append s l m ∙ ap (λ (x : Option State). x then λ n. walk n m) e ∙ f

-- one byte before a text
pub walked_cons : (s : State) (b : ℕ) (l : List ℕ) {n o : State} → step s b ≡ Some n → walk n l ≡ Some o → walk s (b ∷ l) ≡ Some o
unfolding walk
walked_cons s b l e f = ap (λ (x : Option State). x then λ n. walk n l) e ∙ f

pub walked_one : (s : State) (b : ℕ) {n : State} → step s b ≡ Some n → walk s (b ∷ []) ≡ Some n
unfolding walk
walked_one s b e = walked_cons s b [] e refl

-- a text that is read to p: its first byte has a next state, from which the rest is read to p
pub read_next : (s : State) (b : ℕ) (rest : List ℕ) {p : PropertyPath} → (walk s (b ∷ rest) then finished) ≡ Some p
    → (n : State) × (step s b ≡ Some n) × ((walk n rest then finished) ≡ Some p)
unfolding walk
read_next s b rest {p} e = by_step (step s b) refl e
  where
    by_step : (o : Option State) → step s b ≡ o → ((o then λ n. walk n rest) then finished) ≡ Some p
        → (n : State) × (step s b ≡ Some n) × ((walk n rest then finished) ≡ Some p)
    by_step None e f = none_some f
    by_step (Some n) e f = (n, e, f)
