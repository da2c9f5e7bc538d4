-- Recursion typed in one piece (document 02, U4): what a term is split into, what `answer` prints, and what a step hands back.
use Rattle.std.specs.Prelude.{List, [], ◌∷◌, ◌++◌, ℕ}
use Prim.Native.String.{String}
use Prim.Native.String as Str
use Rattle.algebra.specs.declared.Pairing.TheVariants.{Union, Join}
use Rattle.algebra.specs.declared.Condition.TheVariants.{Eq}
use Rattle.algebra.specs.Term as T
use Rattle.query.specs.declared.Node.{Node}
use Rattle.query.specs.declared.Node.TheVariants.{Table, Var, Pair, Filter, Copy, Drop, Fix, Mu}
use Rattle.engine.specs.Starred.{reach, reach_step}
use Rattle.examples.specs.Texts.{Example, sheet, steps}
use Rattle.examples.specs.Values.{Rewriting, writes, refuses, over}

-- a term as typed, and split
pub record Splitting : Type 0 where
  pub typed : T.Term
  pub expected : T.Term

abbrev pub union : T.Term → T.Term → T.Term
union a b = T.pair Union a b

abbrev pub splittings : List Splitting
splittings =
    -- "left to right and grouped to the left", whatever was typed: three closed branches and three open ones
    record {
      typed = T.mu 1 (union (union (T.table 0) (T.var 1)) (union (T.drop 2 (T.var 1)) (union (T.table 1) (union (T.table 2) (T.drop 3 (T.var 1))))));
      expected = T.fix 1 (union (union (T.table 0) (T.table 1)) (T.table 2)) (union (union (T.var 1) (T.drop 2 (T.var 1))) (T.drop 3 (T.var 1)));
    }
    -- "Inner lines are split before outer ones": an inner mu is a branch, closed here
    ∷ (record {
      typed = T.mu 1 (union (T.mu 2 (union (T.var 2) (T.table 0))) (T.var 1));
      expected = T.fix 1 (T.fix 2 (T.table 0) (T.var 2)) (T.var 1);
    }
    -- a union under another line is no cut
    ∷ (record {
      typed = T.mu 1 (union (T.table 0) (T.drop 2 (union (T.var 1) (T.table 1))));
      expected = T.fix 1 (T.table 0) (T.drop 2 (union (T.var 1) (T.table 1)));
    }
    -- a mu with no closed or no open branch stays; the one within it does not
    ∷ (record {
      typed = T.mu 1 (T.mu 2 (union (T.table 0) (T.var 2)));
      expected = T.mu 1 (T.fix 2 (T.table 0) (T.var 2));
    }
    ∷ [])))

-- Reach with one body: the doors, or a way and one door more
abbrev pub way : String
way = "var=1\ncopy=1,2\ndrop=1\ntable=0\ncopy=0,2\ndrop=0\npair=join\ndrop=2\n"

abbrev pub reach_mu : String
reach_mu = Str.◌++◌ "table=0\n" (Str.◌++◌ way "pair=union\nmu=1\n")

-- a sheet of so many lines
abbrev pub lined : String → String → String
lined count text = Str.◌++◌ "guide=1\nnodes=" (Str.◌++◌ count (Str.◌++◌ "\n" text))

abbrev pub reach_rows : String
reach_rows = "guide=1\ncols=0,1\nrows=3\nrow=1,2\nrow=1,3\nrow=2,3\n"

abbrev pub printed : List Example
printed =
    sheet (lined "11" reach_mu) (Str.◌++◌ reach_rows "ran=15\n")
    -- branches in another order; more of them, grouped to the right
    ∷ (sheet (lined "11" (Str.◌++◌ way "table=0\npair=union\nmu=1\n")) (Str.◌++◌ reach_rows "ran=15\n")
    ∷ (sheet (lined "15" (Str.◌++◌ "var=1\ntable=0\n" (Str.◌++◌ way "table=0\npair=union\npair=union\npair=union\nmu=1\n"))) (Str.◌++◌ reach_rows "ran=19\n")
    -- a recursion in the seed of another, and beside a fix
    ∷ (sheet (lined "14" (Str.◌++◌ reach_mu "var=2\npair=union\nmu=2\n")) (Str.◌++◌ reach_rows "ran=17\n")
    ∷ (sheet (lined "15" (Str.◌++◌ reach_mu "table=0\nvar=2\nfix=2\npair=join\n")) "guide=1\ncols=0,1\nrows=2\nrow=1,2\nrow=2,3\nran=19\n"
    -- 20: no open branch, no closed one; the lowest of two; of an inner one and an outer one
    ∷ (sheet "guide=1\nnodes=2\ntable=0\nmu=1\n" "refused=20,2\n"
    ∷ (sheet "guide=1\nnodes=4\nvar=1\nvar=1\npair=union\nmu=1\n" "refused=20,4\n"
    ∷ (sheet "guide=1\nnodes=5\ntable=0\nmu=1\ntable=0\nmu=2\npair=union\n" "refused=20,2\n"
    ∷ (sheet "guide=1\nnodes=3\nvar=1\nmu=2\nmu=1\n" "refused=20,2\n"
    ∷ (sheet "guide=1\nnodes=5\ntable=0\nvar=1\npair=union\nmu=1\nmu=2\n" "refused=20,5\n"
    -- a union under a filter is no cut
    ∷ (sheet "guide=1\nnodes=5\ntable=0\nvar=1\npair=union\neq=0,1\nmu=1\n" "refused=20,5\n"
    -- 20 comes after 3 and before 4
    ∷ (sheet "guide=1\nnodes=3\ntable=0\nmu=1\ntable=0\n" "refused=3,3\n"
    ∷ (sheet "guide=1\nnodes=4\nvar=2\ntable=0\nmu=1\npair=join\n" "refused=20,3\n"
    ∷ (sheet "guide=1\nnodes=1\nmu=1\n" "refused=3,1\n"
    ∷ (sheet "guide=1\nnodes=2\ntable=0\nmu=16\n" "refused=1,4\n"
    -- later places count in the split sheet: a number taken by a mu and by a fix, a branch that holds only the variable of an outer mu, columns
    ∷ (sheet (lined "9" "table=0\nvar=1\npair=union\nmu=1\ntable=0\nvar=1\npair=union\nmu=1\npair=union\n") "refused=4,6\n"
    ∷ (sheet (lined "8" "table=0\nvar=1\nfix=1\ntable=0\nvar=1\npair=union\nmu=1\npair=union\n") "refused=4,6\n"
    ∷ (sheet (lined "9" "table=0\ntable=0\nvar=1\npair=union\nvar=2\npair=union\nmu=2\npair=union\nmu=1\n") "refused=7,6\n"
    ∷ (sheet (lined "5" "table=0\nvar=1\npair=union\nmu=1\ndrop=5\n") "refused=9,4\n"
    -- a step names its node in the split sheet
    ∷ (steps (lined "12" (Str.◌++◌ reach_mu "eq=0,1\n")) "step=1,11\n" "guide=1\ncols=0,1\nrows=2\nrow=1,2\nrow=1,3\nran=16\n"
    ∷ (steps (lined "12" (Str.◌++◌ reach_mu "eq=0,1\n")) "step=1,12\n" "refused=12,0\n"
    ∷ []))))))))))))))))))))

-- the same as values: what a step hands back where it is accepted has each mu split, also one elsewhere
abbrev pub one_piece : ℕ → List Node
one_piece v =
    Table 0 ∷ (Var v ∷ (Copy 1 2 ∷ (Drop 1 ∷ (Table 0 ∷ (Copy 0 2 ∷ (Drop 0 ∷ (Pair Join ∷ (Drop 2 ∷ (Pair Union ∷ (Mu v ∷ []))))))))))

abbrev pub rewritings : List Rewriting
rewritings =
    over (one_piece 1 ++ (Filter (Eq 0 1) ∷ [])) 1 11 (writes (Table 0 ∷ (Filter (Eq 0 1) ∷ reach_step)))
    ∷ (over (one_piece 1 ++ (Filter (Eq 0 1) ∷ [])) 1 12 (refuses 12 0)
    ∷ (over (Table 0 ∷ (Var 2 ∷ (Pair Union ∷ (Mu 2 ∷ (reach ++ (Filter (Eq 0 1) ∷ (Pair Join ∷ []))))))) 1 14
    (writes (Table 0 ∷ (Var 2 ∷ (Fix 2 ∷ (Table 0 ∷ (Filter (Eq 0 1) ∷ (reach_step ++ (Pair Join ∷ []))))))))
    ∷ (over (Table 0 ∷ (Mu 1 ∷ [])) 1 1 (refuses 20 2)
    ∷ [])))
