-- Runs that are broken off and gone on with, pauses that were changed in between, and what is told of each.
use Rattle.std.specs.Prelude.{Bool, true, false, List, [], ◌∷◌, ℕ, eqb, set, take, replicate}
use Rattle.laws.specs.Lists.{every}
use Rattle.relation.specs.Rows.{columns, entries}
use Rattle.database.specs.declared.Database.{Database}
use Rattle.database.specs.Refusals.{Reply, refused, accepted, number, place_of}
use Rattle.query.specs.declared.Query.{Query}
use Rattle.text.specs.Texts.{query_value, database_value, table_entries}
use Rattle.machine.specs.declared.Pause.{Pause}
use Rattle.machine.specs.Limits.{Limits, desk_limits, panel_limits}
use Rattle.machine.specs.Pauses.{pause_of, Part, ended, paused, begins_with, goes_on_with, resume_each}
use Rattle.engine.specs.Starred.{doors, reach}

-- what is told in the end: the answer's row entries and the lines run; the next line and the lines run; number and place. And whether the workspace is zeros
pub data Ending : Type 0 where
  answers : List ℕ → ℕ → Bool → Ending
  pauses : ℕ → ℕ → Bool → Ending
  refuses : ℕ → ℕ → Bool → Ending

abbrev pub ending_of : Reply Part × List ℕ → Ending
ending_of (refused r, ws) = refuses (number r) (place_of r) (every (eqb 0) ws)
ending_of (accepted (ended a), ws) = answers (entries a.rows) a.ran (every (eqb 0) ws)
ending_of (accepted (paused s), ws) = let p = pause_of s in pauses p.next p.ran (every (eqb 0) ws)

-- a run begun with a budget in a workspace of so many entries; its pause and workspace, changed so, are gone on with by the further allowances
pub record Session : Type 0 where
  pub limits : Limits
  pub query : Query
  pub database : Database
  pub store : List ℕ
  pub budget : ℕ
  pub space : ℕ
  pub answer : ℕ
  pub pause : Pause → Pause
  pub workspace : List ℕ → List ℕ
  pub more : List ℕ
  pub expected : Ending

module _ (x : Session) where
  abbrev pub slice : List ℕ
  slice = replicate x.answer 0

  -- the first further allowance meets the changed pause
  abbrev pub onward : List ℕ → Reply Part × List ℕ → Reply Part × List ℕ
  onward [] y = y
  onward (first ∷ rest) (refused r, ws) = (refused r, ws)
  onward (first ∷ rest) (accepted (ended a), ws) = (accepted (ended a), ws)
  onward (first ∷ rest) (accepted (paused s), ws) =
      let (reply, left) = goes_on_with columns x.limits.nodes x.query x.database x.store x.limits.rows slice first
      (x.pause (pause_of s)) (x.workspace ws) in
      resume_each columns x.limits.nodes x.query x.database x.store x.limits.rows slice rest reply left

  abbrev pub tells : Ending
  tells = ending_of (onward x.more
      (begins_with columns x.limits.nodes x.query x.database x.store x.limits.rows slice x.budget (replicate x.space 7)))

-- Reach over two doors: ten registers of a node each, of 1 + 8 * L entries, then the newest rows'. Its plan has ten lines: the table, the closed operand
-- (registers 4 to 6), start, then copy, drop, join and drop of the path (2, 3, 7, 8), again. With L = 3 a run takes 15 lines and 275 entries.
abbrev pub within : Limits → ℕ → ℕ → ℕ → (Pause → Pause) → (List ℕ → List ℕ) → List ℕ → Ending → Session
within l space answer budget p ws more e = record {
  limits = l;
  query = query_value reach;
  database = database_value columns doors;
  store = table_entries doors;
  budget = budget;
  space = space;
  answer = answer;
  pause = p;
  workspace = ws;
  more = more;
  expected = e;
}

abbrev pub same : {A : Type 0} → A → A
same x = x

-- as it was given
abbrev pub parts : ℕ → List ℕ → Ending → Session
parts budget more e = within (desk_limits 3) 275 24 budget same same more e

-- with another next line, or other lines run
abbrev pub next_at : ℕ → Pause → Pause
next_at n p = record { next = n; ran = p.ran }

abbrev pub ran_as : ℕ → Pause → Pause
ran_as n p = record { next = p.next; ran = n }

-- with other entries in the workspace
abbrev pub change : List (ℕ × ℕ) → List ℕ → List ℕ
change [] ws = ws
change ((i, x) ∷ l) ws = change l (set ws i x)

-- broken off after seven lines, before the join, with two entries more than are needed
abbrev pub changed : List (ℕ × ℕ) → Session
changed l = within (desk_limits 3) 277 24 7 same (change l) (8 ∷ []) (refuses 23 0 false)

abbrev pub reach_rows : List ℕ
reach_rows = 1 ∷ (2 ∷ (0 ∷ (0 ∷ (0 ∷ (0 ∷ (0 ∷ (0 ∷ (1 ∷ (3 ∷ (0 ∷ (0 ∷ (0 ∷ (0 ∷ (0 ∷ (0 ∷ (2 ∷ (3 ∷ (0 ∷ (0 ∷ (0 ∷ (0 ∷ (0 ∷ (0 ∷ [])))))))))))))))))))))))

abbrev pub door_rows : List ℕ
door_rows = 1 ∷ (2 ∷ (0 ∷ (0 ∷ (0 ∷ (0 ∷ (0 ∷ (0 ∷ (2 ∷ (3 ∷ (0 ∷ (0 ∷ (0 ∷ (0 ∷ (0 ∷ (0 ∷ [])))))))))))))))

abbrev pub sessions : List Session
sessions =
    -- in one part, broken off before the first line and before each, and before the last
    parts 15 [] (answers reach_rows 15 true)
    ∷ (parts 0 (replicate 15 1) (answers reach_rows 15 true)
    ∷ (parts 14 (1 ∷ []) (answers reach_rows 15 true)
    ∷ (parts 9 (0 ∷ (2 ∷ (0 ∷ (100 ∷ (5 ∷ []))))) (answers reach_rows 15 true)
    ∷ (within panel_limits 5643 24 7 same same (8 ∷ []) (answers reach_rows 15 true)
    -- a pause again, and the same one with no further allowance
    ∷ (parts 5 (2 ∷ []) (pauses 8 7 false)
    ∷ (parts 7 (0 ∷ []) (pauses 8 7 false)
    -- to 18, and to 17 of the answer slice
    ∷ (within (desk_limits 2) 187 24 5 same same (10 ∷ []) (refuses 18 0 true)
    ∷ (within (desk_limits 3) 275 23 5 same same (10 ∷ []) (refuses 17 0 true)
    -- next lines that aren't in the plan, and one that is
    ∷ (within (desk_limits 3) 275 24 7 (next_at 0) same (8 ∷ []) (refuses 23 0 false)
    ∷ (within (desk_limits 3) 275 24 7 (next_at 11) same (8 ∷ []) (refuses 23 0 false)
    ∷ (within (desk_limits 3) 275 24 7 (next_at 10) same (8 ∷ []) (answers door_rows 8 true)
    -- a count over L, rows that don't ascend or are equal, a slot outside the line's columns and, of the newest rows, the fix's, a `var`'s count
    ∷ (changed ((0, 4) ∷ [])
    ∷ (changed ((1, 3) ∷ [])
    ∷ (changed ((9, 1) ∷ ((10, 2) ∷ []))
    ∷ (changed ((3, 1) ∷ [])
    ∷ (changed ((253, 1) ∷ [])
    ∷ (changed ((25, 1) ∷ [])
    -- entries outside counts and held rows: behind a register's rows, in a `var`'s stretch, behind the last register
    ∷ (changed ((17, 1) ∷ [])
    ∷ (changed ((26, 1) ∷ [])
    ∷ (changed ((276, 1) ∷ [])
    -- lines run with the further allowance at the ceiling and over it
    ∷ (within (desk_limits 3) 275 24 7 (ran_as 4294967287) same (8 ∷ []) (answers reach_rows 4294967295 true)
    ∷ (within (desk_limits 3) 275 24 7 (ran_as 4294967287) same (9 ∷ []) (refuses 23 0 false)
    -- 17 before 23
    ∷ (within (desk_limits 3) 275 24 7 (next_at 0) (take 274) (8 ∷ []) (refuses 17 0 false)
    -- from elsewhere: of the newest rows only the second is left, so the loop finds no row more
    ∷ (within (desk_limits 3) 275 24 5 same (change ((250, 1) ∷ ((251, 2) ∷ ((252, 3) ∷ ((259, 0) ∷ ((260, 0) ∷ [])))))) (10 ∷ []) (answers door_rows 10 true)
    ∷ []))))))))))))))))))))))))
