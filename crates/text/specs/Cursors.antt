-- A place in a text as the code holds it, and a due line read there. A cursor stands for what is left of the text (`Rest`).
use Rattle.std.specs.Prelude.{List, ℕ, ◌+◌, ◌-◌, ◌≤◌, leb, ltb, length, take, drop}
use Rattle.std.specs.Prelude.{Option, Some, None, Result, Ok, Err}
use Rattle.laws.specs.Lists.{when◌then◌else◌}
use Rattle.laws.specs.Options.{mapped}
use Rattle.text.specs.declared.line_reader.Cursor.{Cursor}
use Rattle.text.specs.declared.line_reader.BadLine.{BadLine}
use Rattle.text.specs.Numbers.{bytes, newline}
use Rattle.text.specs.Lines.{Rest, if_one, in_range}
use Rattle.text.specs.Readings.{before, is_word, numbers_behind}

abbrev pub rest_at : List ℕ → Cursor → Rest
rest_at text c = record { line = c.line; bytes = drop c.at text }

abbrev pub cursor : ℕ → ℕ → Cursor
cursor at line = record { at = at; line = line }

-- each line before has at least one byte
abbrev pub Placed : Cursor → Type 0
Placed c = c.line ≤ c.at + 1

-- where the line at a cursor ends, and the cursor behind it
abbrev pub line_end : List ℕ → Cursor → ℕ
line_end text c = c.at + before newline (drop c.at text)

abbrev pub behind_line : Cursor → ℕ → Cursor
behind_line c end = record { at = end + 1; line = c.line + 1 }

-- the line at a cursor, by its form, and the cursor behind it; none where it is off the form or isn't there
unfoldable pub due_line : {A : Type 0} → (List ℕ → Option A) → List ℕ → Cursor → Option (A × Cursor)
due_line form text c =
    when ltb (line_end text c) (length text)
    then mapped (λ a. (a, behind_line c (line_end text c))) (form (take (line_end text c - c.at) (drop c.at text)))
    else None

-- where the next line begins, and the same of what a line holds and where, whatever the number of the line
abbrev pub behind : {A : Type 0} → A × Cursor → Cursor
behind p = p.1

abbrev pub unnumbered : {A : Type 0} → A × Cursor → A × ℕ
unnumbered p = (p.0, p.1.at)

-- a word, and a key with a number behind it, by their bytes
abbrev pub word_form : List ℕ → List ℕ → Option (Unit {0})
word_form s l = when is_word s l then Some tt else None

abbrev pub count_form : List ℕ → ℕ → List ℕ → Option ℕ
count_form key most l = in_range (λ n. leb n most) (if_one (λ n. n) (numbers_behind key l))

-- the lines that open a text: "`guide=1`", and a line with a count
abbrev pub start : Cursor
start = record { at = 0; line = 1 }

abbrev pub Opened : Type 0
Opened = Result (ℕ × Cursor) BadLine

abbrev pub bad_line : ℕ → Opened
bad_line n = Err (record { line = n })

abbrev pub counted : Cursor → Option (ℕ × Cursor) → Opened
counted c None = bad_line c.line
counted c (Some p) = Ok p

abbrev pub headed : List ℕ → ℕ → List ℕ → Option (Unit {0} × Cursor) → Opened
headed key most text None = bad_line start.line
headed key most text (Some p) = counted p.1 (due_line (count_form key most) text p.1)

abbrev pub opened_at : List ℕ → ℕ → List ℕ → Opened
opened_at key most text = headed key most text (due_line (word_form (bytes "guide=1")) text start)
