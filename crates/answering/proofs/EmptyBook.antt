-- "A book of zero bytes shall mean the same as `guide=1` and `tables=0`": over both `answer` prints the same, whatever the sheet and the steps.
use mathlib.Core.Path.{◌≡◌, refl}
use mathlib.Core.List.{List, []}
use Prim.Native.Nat.{ℕ}
use Rattle.text.specs.Numbers.{bytes}
use Rattle.text.specs.Texts.{read_database}
use Rattle.text.specs.Replies.{load_tables}
use Rattle.answering.specs.Answer.{answer, answer_bytes}

pub empty_book : (sheet steps : List ℕ) → answer_bytes sheet [] steps ≡ answer_bytes sheet (bytes "guide=1\ntables=0\n") steps
unfolding bytes read_database load_tables answer
empty_book sheet steps = refl
