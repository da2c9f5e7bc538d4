-- `put_two` meets its contract: the key, the first number, and the second one behind a comma.
use mathlib.Core.Path.{◌≡◌}
use mathlib.Core.List.{List, [], ◌∷◌, ◌++◌, append_assoc}
use Prim.Native.Nat.{ℕ}
use Rattle.text.specs.Numbers.{comma, digits, comma_digits}
use Rattle.text.specs.Texts.{line_text}
use Rattle.output.proofs.Puts.{puts_then, puts_as}
use Rattle.output.proofs.put_two.Goals as goal

-- the second number stands in a line of its own, whose key is the comma
two_line : (key : List ℕ) (m n : ℕ) → (key ++ digits m) ++ line_text (comma ∷ digits n) ≡ line_text (key ++ comma_digits (m ∷ (n ∷ [])))
unfolding comma_digits
two_line key m n = simp append_assoc

pub returns : goal.returns
returns g c =
    puts_as (two_line c.args.key.now c.args.m c.args.n)
    (puts_then (puts_then c.put_bytes.ensures c.put_number.ensures) c.put_one.ensures)
