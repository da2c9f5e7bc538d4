-- What `answer` prints for the texts of document 01's table of numbers, and at the edges of the text forms.
use mathlib.Core.List.{List, [], ◌∷◌, ◌++◌, flat_map}
use Rattle.std.specs.Prelude.{ℕ, replicate}
use Prim.Native.String.{String}
use Prim.Native.String as Str
use Rattle.laws.specs.Lists.{tabulate}
use Rattle.text.specs.Numbers.{bytes, digits, newline}

-- the bytes of the three files, and of what is printed
pub record Example : Type 0 where
  pub sheet : List ℕ
  pub book : List ℕ
  pub steps : List ℕ
  pub printed : List ℕ

abbrev pub doors : String
doors = "guide=1\ntables=1\ncols=0,1\nrows=2\nrow=1,2\nrow=2,3\n"

-- objects with the year in column 4, the first one undated
abbrev pub objects : String
objects = "guide=1\ntables=1\ncols=0,4\nrows=3\nrow=1,0\nrow=2,1850\nrow=3,1901\n"

-- doors from object to object, with the year of the one they lead from; the doors without it
abbrev pub tours : String
tours = "guide=1\ntables=2\ncols=0,1,4\nrows=3\nrow=1,2,1790\nrow=2,3,0\nrow=3,4,1901\ncols=0,1\nrows=3\nrow=1,2\nrow=2,3\nrow=3,4\n"

-- a sheet over a book, its steps, and what is printed
abbrev pub over : String → String → String → String → Example
over b s k p = record { sheet = bytes s; book = bytes b; steps = bytes k; printed = bytes p }

-- over the doors
abbrev pub steps : String → String → String → Example
steps s k p = over doors s k p

abbrev pub sheet : String → String → Example
sheet s p = steps s "" p

-- a book under a sheet that is fine
abbrev pub book : String → String → Example
book b p = record { sheet = bytes "guide=1\nnodes=1\nfact=0,1\n"; book = bytes b; steps = []; printed = bytes p }

abbrev pub reach : String
reach = "table=0\nvar=1\ncopy=1,2\ndrop=1\ntable=0\ncopy=0,2\ndrop=0\npair=join\ndrop=2\nfix=1\n"

-- Reach with lines behind it
abbrev pub reach_and : String → String → String
reach_and count more = Str.◌++◌ "guide=1\nnodes=" (Str.◌++◌ count (Str.◌++◌ "\n" (Str.◌++◌ reach more)))

-- Reach over the tours from dated objects up to 1850, and what it prints
abbrev pub early_tour : String
early_tour = "guide=1\nnodes=11\ntable=0\nvar=1\ncopy=1,2\ndrop=1\ntable=1\ncopy=0,2\ndrop=0\npair=join\ndrop=2\nfix=1\nmax=4,1850\n"

abbrev pub early_objects : String
early_objects = "guide=1\ncols=0,1,4\nrows=3\nrow=1,2,1790\nrow=1,3,1790\nrow=1,4,1790\nran=21\n"

-- Reach from room 1 over the same doors as facts
abbrev pub fact_doors : String
fact_doors = "fact=0,1\nfact=1,2\npair=join\nfact=0,2\nfact=1,3\npair=join\npair=union\n"

abbrev pub fact_reach : String
fact_reach =
    Str.◌++◌ "guide=1\nnodes=23\n" (Str.◌++◌ fact_doors (Str.◌++◌ "var=1\ncopy=1,2\ndrop=1\n"
    (Str.◌++◌ fact_doors "copy=0,2\ndrop=0\npair=join\ndrop=2\nfix=1\neq=0,1\n")))

-- n times a node line, under the count given
abbrev pub repeated : String → ℕ → String → Example
repeated count n p =
    record {
      sheet = bytes (Str.◌++◌ "guide=1\nnodes=" (Str.◌++◌ count "\n")) ++ flat_map (λ (l : List ℕ). l) (replicate n (bytes "fact=0,1\n"));
      book = bytes doors;
      steps = [];
      printed = bytes p;
    }

-- a book of one column with the rows 0 to n - 1, all of it asked for
abbrev pub rows : String → ℕ → String → Example
rows count n p =
    record {
      sheet = bytes "guide=1\nnodes=1\ntable=0\n";
      book = bytes (Str.◌++◌ "guide=1\ntables=1\ncols=0\nrows=" (Str.◌++◌ count "\n"))
          ++ flat_map (λ i. bytes "row=" ++ (digits i ++ (newline ∷ []))) (tabulate (λ i. i) n);
      steps = [];
      printed = bytes p;
    }

-- each number's example of document 01's table
abbrev pub numbers : List Example
numbers =
    sheet "guide=1\nnodes=07\n" "refused=1,2\n"
    ∷ (sheet "guide=1\nnodes=0\n" "refused=2,2\n"
    ∷ (sheet "guide=1\nnodes=1\npair=join\n" "refused=3,1\n"
    ∷ (sheet "guide=1\nnodes=1\nvar=1\n" "refused=4,1\n"
    ∷ (sheet "guide=1\nnodes=5\ntable=0\ntable=0\nvar=1\npair=except\nfix=1\n" "refused=5,4\n"
    ∷ (sheet "guide=1\nnodes=5\ntable=0\nvar=1\nvar=1\npair=join\nfix=1\n" "refused=6,4\n"
    ∷ (sheet "guide=1\nnodes=5\ntable=0\nvar=1\nvar=2\nfix=2\nfix=1\n" "refused=7,4\n"
    ∷ (sheet "guide=1\nnodes=3\ntable=0\ntable=0\nfix=1\n" "refused=8,3\n"
    ∷ (sheet "guide=1\nnodes=2\ntable=0\ndrop=5\n" "refused=9,2\n"
    ∷ (sheet "guide=1\nnodes=1\ntable=9\n" "refused=10,1\n"
    ∷ (book "guide=1\ntables=1\ncols=0,1\nrows=2\nrow=2,3\nrow=1,2\n" "refused=11,6\n"
    ∷ (steps "guide=1\nnodes=1\ntable=0\n" "step=1,1\n" "refused=12,0\n"
    ∷ (steps (reach_and "11" "eq=1,3\n") "step=1,11\n" "refused=13,0\n"
    ∷ (steps (reach_and "11" "drop=1\n") "step=5,11\n" "refused=14,0\n"
    ∷ (steps (Str.◌++◌ "guide=1\nnodes=16\ntable=0\ndrop=1\n" (Str.◌++◌ reach "var=2\npair=join\ndrop=1\nfix=2\n")) "step=2,14\n" "refused=15,0\n"
    ∷ (rows "385" 385 "refused=17,0\n"
    ∷ (rows "25" 25 "refused=18,0\n"
    ∷ []))))))))))))))))

-- what is accepted, and what it prints
abbrev pub answers : List Example
answers =
    sheet (reach_and "10" "") "guide=1\ncols=0,1\nrows=3\nrow=1,2\nrow=1,3\nrow=2,3\nran=15\n"
    -- without columns: the one row without values, or none
    ∷ (sheet "guide=1\nnodes=2\nfact=0,5\ndrop=0\n" "guide=1\ncols=\nrows=1\nrow=\nran=2\n"
    ∷ (sheet "guide=1\nnodes=3\nfact=0,5\neq=0,6\ndrop=0\n" "guide=1\ncols=\nrows=0\nran=3\n"
    -- `same=C,C` is allowed
    ∷ (sheet "guide=1\nnodes=2\ntable=0\nsame=1,1\n" "guide=1\ncols=0,1\nrows=2\nrow=1,2\nrow=2,3\nran=2\n"
    -- 0 passes no `max`, whatever the bound; the other filters compare it
    ∷ (over objects "guide=1\nnodes=2\ntable=0\nmax=4,1850\n" "" "guide=1\ncols=0,4\nrows=1\nrow=2,1850\nran=2\n"
    ∷ (over objects "guide=1\nnodes=2\ntable=0\nmax=4,4294967295\n" "" "guide=1\ncols=0,4\nrows=2\nrow=2,1850\nrow=3,1901\nran=2\n"
    ∷ (over objects "guide=1\nnodes=2\ntable=0\nmax=4,0\n" "" "guide=1\ncols=0,4\nrows=0\nran=2\n"
    ∷ (over objects "guide=1\nnodes=2\ntable=0\neq=4,0\n" "" "guide=1\ncols=0,4\nrows=1\nrow=1,0\nran=2\n"
    ∷ (over objects "guide=1\nnodes=2\ntable=0\nne=4,0\n" "" "guide=1\ncols=0,4\nrows=2\nrow=2,1850\nrow=3,1901\nran=2\n"
    ∷ (over objects "guide=1\nnodes=3\ntable=0\ncopy=4,5\nsame=4,5\n" "" "guide=1\ncols=0,4,5\nrows=3\nrow=1,0,0\nrow=2,1850,1850\nrow=3,1901,1901\nran=3\n"
    -- before and after rearranging alike
    ∷ (over tours early_tour "" early_objects
    ∷ (over tours early_tour "step=1,11\n" early_objects
    -- except without shared columns keeps its left side only where the right one is empty
    ∷ (sheet "guide=1\nnodes=3\ntable=0\nfact=3,1\npair=except\n" "guide=1\ncols=0,1\nrows=0\nran=3\n"
    ∷ (sheet "guide=1\nnodes=4\ntable=0\nfact=3,1\nne=3,1\npair=except\n" "guide=1\ncols=0,1\nrows=2\nrow=1,2\nrow=2,3\nran=4\n"
    -- rows sharing no column always fit
    ∷ (sheet "guide=1\nnodes=3\nfact=2,7\ntable=0\npair=join\n" "guide=1\ncols=0,1,2\nrows=2\nrow=1,2,7\nrow=2,3,7\nran=3\n"
    -- steps one after the other, and none
    ∷ (steps (reach_and "12" "eq=0,1\nne=0,2\n") "step=1,11\nstep=1,12\n" "guide=1\ncols=0,1\nrows=2\nrow=1,2\nrow=1,3\nran=17\n"
    -- a book without tables, a book of zero bytes under facts and under a recursion with a step, and a table without rows
    ∷ (book "guide=1\ntables=0\n" "guide=1\ncols=0\nrows=1\nrow=1\nran=1\n"
    ∷ (book "" "guide=1\ncols=0\nrows=1\nrow=1\nran=1\n"
    ∷ (over "" fact_reach "" "guide=1\ncols=0,1\nrows=2\nrow=1,2\nrow=1,3\nran=28\n"
    ∷ (over "" fact_reach "step=1,23\n" "guide=1\ncols=0,1\nrows=2\nrow=1,2\nrow=1,3\nran=28\n"
    ∷ (book "guide=1\ntables=1\ncols=7\nrows=0\n" "guide=1\ncols=0\nrows=1\nrow=1\nran=1\n"
    ∷ (book "guide=1\ntables=1\ncols=0,7\nrows=2\nrow=0,4294967295\nrow=1,0\n" "guide=1\ncols=0\nrows=1\nrow=1\nran=1\n"
    ∷ [])))))))))))))))))))))

-- the edges of the text forms
abbrev pub edges : List Example
edges =
    -- an empty text, a last line without byte 10, byte 13, something behind the last line
    sheet "" "refused=1,1\n"
    ∷ (sheet "guide=1\nnodes=1\nfact=0,1" "refused=1,3\n"
    ∷ (sheet "guide=1\r\nnodes=1\r\nfact=0,1\r\n" "refused=1,1\n"
    ∷ (sheet "guide=1\nnodes=1\nfact=0,1\nfact=0,1\n" "refused=1,4\n"
    ∷ (sheet "guide=1\nnodes=1\nfact=0,1\n\n" "refused=1,4\n"
    ∷ (sheet "guide=1\nnodes=1\nfact=0,1\nx" "refused=1,4\n"
    -- 1 comes before 2, and 2 before 3
    ∷ (sheet "guide=1\nnodes=0\ntable=0\n" "refused=1,3\n"
    ∷ (sheet "guide=1\nnodes=4294967295\ntable=0\n" "refused=1,4\n"
    ∷ (sheet "guide=1\nnodes=4294967296\ntable=0\n" "refused=1,2\n"
    ∷ (repeated "200" 200 "refused=2,2\n"
    ∷ (repeated "200" 199 "refused=1,202\n"
    ∷ (repeated "25" 25 "refused=2,2\n"
    ∷ (repeated "24" 24 "refused=3,24\n"
    -- numbers: leading zeros, signs, blanks, none, out of range, too many
    ∷ (sheet "guide=1\nnodes=1\nfact=00,1\n" "refused=1,3\n"
    ∷ (sheet "guide=1\nnodes=1\nfact=0,+1\n" "refused=1,3\n"
    ∷ (sheet "guide=1\nnodes=1\nfact= 0,1\n" "refused=1,3\n"
    ∷ (sheet "guide=1\nnodes=1\nfact=0,\n" "refused=1,3\n"
    ∷ (sheet "guide=1\nnodes=1\nfact=8,1\n" "refused=1,3\n"
    ∷ (sheet "guide=1\nnodes=1\nfact=0,4294967296\n" "refused=1,3\n"
    ∷ (sheet "guide=1\nnodes=1\nfact=0,1,2\n" "refused=1,3\n"
    ∷ (sheet "guide=1\nnodes=1\ntable=16\n" "refused=1,3\n"
    ∷ (sheet "guide=1\nnodes=1\npair=unions\n" "refused=1,3\n"
    ∷ (sheet "guide=01\nnodes=1\nfact=0,1\n" "refused=1,1\n"
    -- several roots; a var in the seed of its own fix only; two equal fix numbers; the lowest number at a node
    ∷ (sheet "guide=1\nnodes=2\ntable=0\ntable=0\n" "refused=3,2\n"
    ∷ (sheet "guide=1\nnodes=3\nvar=1\ntable=0\nfix=1\n" "refused=4,1\n"
    ∷ (sheet "guide=1\nnodes=7\ntable=0\nvar=1\nfix=1\ntable=0\nvar=1\nfix=1\npair=union\n" "refused=4,6\n"
    ∷ (sheet "guide=1\nnodes=5\ntable=0\nvar=1\nfix=1\ntable=0\nfix=1\n" "refused=4,5\n"
    -- the first pass ends before the second begins; unequal sides; `copy=A,A`
    ∷ (sheet "guide=1\nnodes=4\ntable=0\ndrop=5\nvar=1\npair=join\n" "refused=4,3\n"
    ∷ (sheet "guide=1\nnodes=3\ntable=0\nfact=0,1\npair=union\n" "refused=9,3\n"
    ∷ (sheet "guide=1\nnodes=5\ntable=0\nvar=1\ntable=0\npair=union\nfix=1\n" "refused=8,4\n"
    ∷ (sheet "guide=1\nnodes=4\ntable=0\nvar=1\ndrop=1\nfix=1\n" "refused=9,4\n"
    ∷ (sheet "guide=1\nnodes=2\ntable=0\ncopy=0,0\n" "refused=9,2\n"
    -- a book of zero bytes has no table; a sheet of zero bytes is refused over it too; one byte is no book
    ∷ (over "" "guide=1\nnodes=3\nfact=0,1\ntable=0\npair=join\n" "" "refused=10,2\n"
    ∷ (over "" "" "" "refused=1,1\n"
    ∷ (book "\n" "refused=11,1\n"
    ∷ (book "g" "refused=11,1\n"
    -- books: too many tables, the columns' line, too many rows, a row's values, equal rows; before the sheet
    ∷ (book "guide=1\ntables=17\n" "refused=11,2\n"
    ∷ (book "guide=1\ntables=1\ncols=\nrows=0\n" "refused=11,3\n"
    ∷ (book "guide=1\ntables=1\ncols=1,0\nrows=0\n" "refused=11,3\n"
    ∷ (book "guide=1\ntables=1\ncols=0,0\nrows=0\n" "refused=11,3\n"
    ∷ (book "guide=1\ntables=1\ncols=0,8\nrows=0\n" "refused=11,3\n"
    ∷ (book "guide=1\ntables=1\ncols=0\nrows=4097\n" "refused=11,4\n"
    ∷ (book "guide=1\ntables=1\ncols=0\nrows=1\nrow=1,2\n" "refused=11,5\n"
    ∷ (book "guide=1\ntables=1\ncols=0,1\nrows=1\nrow=1\n" "refused=11,5\n"
    ∷ (book "guide=1\ntables=1\ncols=0\nrows=2\nrow=1\nrow=1\n" "refused=11,6\n"
    ∷ (book "guide=1\ntables=1\ncols=0\nrows=2\nrow=1\n" "refused=11,6\n"
    ∷ (over "\n" "" "" "refused=11,1\n"
    -- steps: off the form, without byte 10, a node and a kind that are none; the first refusal ends
    ∷ (steps (reach_and "10" "") "step=1\n" "refused=12,0\n"
    ∷ (steps (reach_and "11" "eq=0,1\n") "step=1,11" "refused=12,0\n"
    ∷ (steps (reach_and "11" "eq=0,1\n") "step=1,0\n" "refused=12,0\n"
    ∷ (steps (reach_and "11" "eq=0,1\n") "step=1,12\n" "refused=12,0\n"
    ∷ (steps (reach_and "11" "eq=0,1\n") "step=12,11\n" "refused=12,0\n"
    ∷ (steps (reach_and "12" "eq=0,1\neq=1,3\n") "step=1,11\nstep=1,12\nstep\n" "refused=13,0\n"
    -- a file over its length, before all else
    ∷ (record { sheet = replicate 8193 48; book = []; steps = []; printed = bytes "refused=17,0\n" }
    ∷ [])))))))))))))))))))))))))))))))))))))))))))))))))))))
