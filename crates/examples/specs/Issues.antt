-- The commentary that replaces another (document 02, U9): what `answer` prints for sheets with a `last`.
use Rattle.std.specs.Prelude.{List, [], ◌∷◌}
use Prim.Native.String.{String}
use Prim.Native.String as Str
use Rattle.examples.specs.Texts.{Example, over, steps, sheet, reach_and}

-- stop, language and issue
abbrev pub recordings : String
recordings = "guide=1\ntables=1\ncols=0,1,2\nrows=5\nrow=1,1,1\nrow=1,1,3\nrow=1,2,2\nrow=2,1,1\nrow=2,1,2\n"

-- issue, stop and language; stop, issue and language: rows that replace each other don't stand together
abbrev pub issue_first : String
issue_first = "guide=1\ntables=1\ncols=0,1,2\nrows=4\nrow=1,1,1\nrow=1,2,1\nrow=2,1,2\nrow=3,1,1\n"

abbrev pub issue_between : String
issue_between = "guide=1\ntables=1\ncols=0,1,2\nrows=4\nrow=1,1,1\nrow=1,2,2\nrow=1,3,1\nrow=2,1,1\n"

-- Reach's lines behind its seed
abbrev pub way : String
way = "var=1\ncopy=1,2\ndrop=1\ntable=0\ncopy=0,2\ndrop=0\npair=join\ndrop=2\n"

abbrev pub printed : List Example
printed =
    over recordings "guide=1\nnodes=2\ntable=0\nlast=2\n" "" "guide=1\ncols=0,1,2\nrows=3\nrow=1,1,3\nrow=1,2,2\nrow=2,1,2\nran=2\n"
    ∷ (over issue_first "guide=1\nnodes=2\ntable=0\nlast=0\n" "" "guide=1\ncols=0,1,2\nrows=3\nrow=1,2,1\nrow=2,1,2\nrow=3,1,1\nran=2\n"
    ∷ (over issue_between "guide=1\nnodes=2\ntable=0\nlast=1\n" "" "guide=1\ncols=0,1,2\nrows=3\nrow=1,2,2\nrow=1,3,1\nrow=2,1,1\nran=2\n"
    -- without another column the one greatest row
    ∷ (sheet "guide=1\nnodes=3\ntable=0\ndrop=0\nlast=1\n" "guide=1\ncols=1\nrows=1\nrow=3\nran=3\n"
    -- over a recursion, in its seed, and in a closed operand of its step
    ∷ (sheet (reach_and "11" "last=0\n") "guide=1\ncols=0,1\nrows=2\nrow=1,2\nrow=2,3\nran=16\n"
    ∷ (sheet (Str.◌++◌ "guide=1\nnodes=11\ntable=0\nlast=0\n" (Str.◌++◌ way "fix=1\n")) "guide=1\ncols=0,1\nrows=3\nrow=1,2\nrow=1,3\nrow=2,3\nran=16\n"
    ∷ (sheet "guide=1\nnodes=7\ntable=0\nvar=1\ntable=0\ndrop=0\nlast=1\npair=join\nfix=1\n" "guide=1\ncols=0,1\nrows=2\nrow=1,2\nrow=2,3\nran=7\n"
    -- an open operand is 5, a missing column 9; 5 comes first
    ∷ (sheet "guide=1\nnodes=4\ntable=0\nvar=1\nlast=1\nfix=1\n" "refused=5,3\n"
    ∷ (sheet "guide=1\nnodes=4\ntable=0\nvar=1\nlast=5\nfix=1\n" "refused=5,3\n"
    ∷ (sheet "guide=1\nnodes=2\ntable=0\nlast=2\n" "refused=9,2\n"
    ∷ (sheet "guide=1\nnodes=2\ntable=0\nlast=8\n" "refused=1,4\n"
    -- no kind at a `last`; a step under it
    ∷ (steps (reach_and "11" "last=0\n") "step=1,11\n" "refused=12,0\n"
    ∷ (steps (reach_and "11" "last=0\n") "step=5,11\n" "refused=12,0\n"
    ∷ (steps (reach_and "12" "eq=0,1\nlast=1\n") "step=1,11\n" "guide=1\ncols=0,1\nrows=1\nrow=1,3\nran=17\n"
    ∷ (steps (reach_and "12" "eq=0,1\nlast=1\n") "" "guide=1\ncols=0,1\nrows=1\nrow=1,3\nran=17\n"
    ∷ []))))))))))))))
