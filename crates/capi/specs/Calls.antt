-- What the calls over flat slices reply, and what the slices hold afterwards. limit is the highest node count.
use Rattle.std.specs.Prelude.{◌≡◌, Bool, ◌&&◌, List, ℕ, leb, length}
use Rattle.algebra.specs.Term.{Term}
use Rattle.relation.specs.Rows.{columns}
use Rattle.database.specs.declared.Database.{Database}
use Rattle.database.specs.declared.Refusal.TheVariants.{ShortSlice}
use Rattle.database.specs.Refusals.{Verdict, Reply, refused, accepted, verdict, require, ◌>>=◌}
use Rattle.query.specs.declared.Node.{Node}
use Rattle.query.specs.declared.Query.{Query}
use Rattle.query.specs.Check.{check_over}
use Rattle.plan.specs.declared.Slot.{Slot}
use Rattle.plan.specs.Plan.{compile}
use Rattle.rewrite.specs.Rewrite.{rewrite}
use Rattle.machine.specs.Run.{Answer, Enough, allowance, begin, run_query}
use Rattle.machine.specs.Pauses.{pause_of, Part, ended, paused, begin_run, begin_again, resume}
use Rattle.text.specs.Texts.{Table, read_nodes, database_value}
use Rattle.text.specs.Replies.{load_tables}
use Rattle.paths.specs.Sheets.{path_nodes}
use Rattle.flat.specs.Flat.{query_room, query_of, over, database_room, database_of, have_room, flat_database, run_room, pause_room, flat_pause, pause_in, plan_room, allowance_room}

-- "lent slice short": a slice with less than the layout's room, before anything else is tested
abbrev pub room_for : ℕ → List ℕ → Reply (Unit {0})
room_for n s = require (leb n (length s)) ShortSlice

-- a call on a query and a database in flat slices
abbrev pub with_flat : {A : Type 0} → List ℕ → List ℕ → (Query → Database → Reply A) → Reply A
with_flat query database f = do
  _ ← require (have_room query database) ShortSlice
  f (query_of query) (database_of database)

-- and one that writes into a slice with room for n entries besides
abbrev pub with_room : {A : Type 0} → List ℕ → List ℕ → ℕ → List ℕ → (Query → Database → Reply A) → Reply A
with_room query database n out f = with_flat query database (λ q d. room_for n out >>= λ _. f q d)

-- what an accepted call writes; "Refusals … change no" slice
abbrev pub after : {A : Type 0} → (A → List ℕ) → Reply A → List ℕ → List ℕ
after f (refused r) s = s
after f (accepted a) s = over (f a) s

-- what a call tells, before it is a number, and what a slice that held s holds afterwards
abbrev pub Told : {A : Type 0} → (A → List ℕ) → List ℕ → Reply A → Verdict → List ℕ → Type 0
Told f s reply told left = (told ≡ verdict reply) × (left ≡ after f reply s)

-- reading a sheet's text into a flat query
abbrev pub read_flat : ℕ → List ℕ → List ℕ → Reply (List Node)
read_flat limit text query = do
  _ ← room_for query_room query
  read_nodes columns limit text

-- reading a property path over a flat database into a flat query
abbrev pub path_flat : ℕ → List ℕ → List ℕ → List ℕ → List ℕ → Reply (List Node)
path_flat limit path database store query = with_flat query database (λ _ d. path_nodes columns limit path d store)

-- reading a book's text into a flat database, its rows into a store
abbrev pub load_flat : List ℕ → List ℕ → List ℕ → Reply (List Table)
load_flat text database store = do
  _ ← room_for database_room database
  load_tables columns text store

abbrev pub flat_tables : List Table → List ℕ
flat_tables ts = flat_database (database_value columns ts)

-- "A sheet is checked over a book if neither gets a number from 1 to 11."
abbrev pub check_flat : ℕ → List ℕ → List ℕ → List ℕ → Reply Term
check_flat limit query database store = with_flat query database (λ q d. check_over columns limit q d store)

-- "Steps test the book and the sheet as a run does, then 12 to 15 in order."
abbrev pub rewrite_flat : ℕ → List ℕ → List ℕ → List ℕ → ℕ → ℕ → Reply Query
rewrite_flat limit query database store kind node = with_flat query database (λ q d. rewrite columns limit q d store kind node)

-- a run, with three entries for what it tells
module _ (limit : ℕ) (query database store : List ℕ) (rows budget : ℕ) (workspace out : List ℕ) where
  -- the term that is run once it begins
  abbrev pub begin_flat : Reply Term
  begin_flat = with_room query database run_room out (λ q d. begin columns limit q d store rows budget workspace)

  abbrev pub run_flat : List ℕ → Reply Answer
  run_flat answer = with_room query database run_room out (λ q d. run_query columns limit q d store rows budget workspace answer)

-- a run that can be gone on with: two entries more, for its pause
abbrev pub part_room : List ℕ → List ℕ → List ℕ → List ℕ → Bool
part_room query database out pause = have_room query database && (leb run_room (length out) && leb pause_room (length pause))

abbrev pub with_pause : {A : Type 0} → List ℕ → List ℕ → List ℕ → List ℕ → (Query → Database → Reply A) → Reply A
with_pause query database out pause f = do
  _ ← require (part_room query database out pause) ShortSlice
  f (query_of query) (database_of database)

module _ (limit : ℕ) (query database store : List ℕ) (rows budget : ℕ) (workspace out pause : List ℕ) where
  -- the term that is run once it begins, and once it goes on
  abbrev pub begin_part_flat : Reply Term
  begin_part_flat = with_pause query database out pause (λ q d. begin columns limit q d store rows budget workspace)

  abbrev pub begin_again_flat : Reply Term
  begin_again_flat = with_pause query database out pause (λ q d. begin_again columns limit q d store rows budget (pause_in pause) workspace)

  abbrev pub begin_run_flat : List ℕ → Reply Part
  begin_run_flat answer = with_pause query database out pause (λ q d. begin_run columns limit q d store rows budget workspace answer)

  abbrev pub resume_flat : List ℕ → Reply Part
  resume_flat answer = with_pause query database out pause (λ q d. resume columns limit q d store rows budget (pause_in pause) workspace answer)

-- "answers 19 with a pause": nothing else is written into its slice
abbrev pub paused_after : Reply Part → List ℕ → List ℕ
paused_after (refused r) s = s
paused_after (accepted (ended a)) s = s
paused_after (accepted (paused x)) s = over (flat_pause (pause_of x)) s

-- the plan of a checked query
abbrev pub compile_flat : ℕ → List ℕ → List ℕ → List ℕ → List ℕ → Reply (List Slot)
compile_flat limit query database store plan = with_room query database plan_room plan (λ q d. compile columns limit q d store)

-- the plan, and beside it the product, with one entry for that
abbrev pub allowance_flat : ℕ → List ℕ → List ℕ → List ℕ → ℕ → List ℕ → List ℕ → Reply Enough
allowance_flat limit query database store rows plan out =
    with_room query database plan_room plan (λ q d. room_for allowance_room out >>= λ _. allowance columns limit q d store rows)
