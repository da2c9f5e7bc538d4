-- How many bytes a printed refusal or answer takes at most. w is the number of columns.
use Rattle.std.specs.Prelude.{ℕ, ◌+◌, ◌*◌}

-- the digits of a place or a count that the code holds
abbrev pub place_digits : ℕ
place_digits = 20

-- "values 0–4,294,967,295"
abbrev pub value_digits : ℕ
value_digits = 10

-- the digits of a refusal's number
abbrev pub number_digits : ℕ
number_digits = 2

-- a line of a key of k bytes and n digits
abbrev pub line_room : ℕ → ℕ → ℕ
line_room k n = k + n + 1

-- the values of w columns, with a comma for each
abbrev pub values_room : ℕ → ℕ
values_room w = w * (value_digits + 1)

-- "A refusal prints `refused=number,place`"
abbrev pub refusal_room : ℕ
refusal_room = line_room 8 (number_digits + 1 + place_digits)

-- a row's line, `row=` and its values
abbrev pub row_room : ℕ → ℕ
row_room w = line_room 4 (values_room w)

-- "header, columns, row count, rows ascending, lines run": the lines `guide=1`, `cols=`, `rows=`, a `row=` for each row, and `ran=`
abbrev pub answer_room : ℕ → ℕ → ℕ
answer_room w rows =
    line_room 7 0 + (line_room 5 (values_room w) + (line_room 5 place_digits + rows * row_room w) + line_room 4 value_digits)
