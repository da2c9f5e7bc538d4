-- What it is that a line is the first bad one of a text.
use mathlib.Core.Path.{◌≡◌}
use Rattle.std.specs.Prelude.{Some, None}
use mathlib.Core.List.{List, [], ◌++◌}
use Prim.Native.Nat.{ℕ, zero, suc, ◌+◌, ◌-◌, ◌≤◌, ◌<◌}
use Rattle.laws.proofs.Lists.{count}
use Rattle.database.specs.declared.Refusal.{Refusal}
use Rattle.database.specs.Refusals.{Reply, refused}
use Rattle.text.specs.Numbers.{newline}
use Rattle.text.specs.Lines.{first_line}
use Rattle.text.specs.Texts.{line_text}

-- the first k lines of a text, each with its byte 10; all of a text that has fewer
unfoldable pub first_lines : ℕ → List ℕ → List ℕ
first_lines zero text = []
first_lines (suc k) text = elim (first_line text) [ None ↦ text | Some p ↦ line_text p.0 ++ first_lines k p.1 ]

-- line k is the first bad one of a text: the lines before it are there, no text with the same lines before it is refused at one of them, and
-- every text with the same lines up to it is refused at it
pub record FirstBad {B : Type 0} (bad : ℕ → Refusal) (read : List ℕ → Reply B) (text : List ℕ) (k : ℕ) : Type 0 where
  pub counted : 1 ≤ k
  pub reached : k ≤ count newline text + 1
  pub before : (text' : List ℕ) → first_lines (k - 1) text ≡ first_lines (k - 1) text' → (j : ℕ) → j < k → read text' ≡ refused (bad j) → ⊥
  pub there : (text' : List ℕ) → first_lines k text ≡ first_lines k text' → read text' ≡ refused (bad k)
