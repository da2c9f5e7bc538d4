-- `run_rewritten` meets its contract: `run` of what `rewrite_each` leaves.
use Prim.Native.Nat.{ℕ, min}
use mathlib.Core.Path.{◌≡◌, subst}
use mathlib.Core.List.{List}
use Rattle.std.specs.Prelude.{Result}
use Rattle.relation.specs.Rows.{columns}
use Rattle.database.specs.declared.Refusal.{Refusal}
use Rattle.database.specs.declared.Database.{Database}
use Rattle.query.specs.declared.Query.{Query}
use Rattle.query.specs.Lines.{node_limit}
use Rattle.machine.specs.declared.Ran.{Ran}
use Rattle.machine.specs.Run.{run_query, begin, ran_of, workspace_after, answer_after}
use Rattle.run.proofs.Meaning.{run_ended, means_as}
use Rattle.engine.specs.Demands.{left_by}
use Rattle.engine.proofs.LeftMeans.{left_means}
use Rattle.engine.proofs.steps.run_rewritten.Goals as goal

-- what a run replies and leaves, of any query
abbrev Ends : ℕ → Query → Database → List ℕ → ℕ → ℕ → List ℕ → List ℕ → Result Ran Refusal → List ℕ → List ℕ → Type 0
Ends limit q d store rows budget ws answer r ws' answer' =
    (r ≡ ran_of (run_query columns limit q d store rows budget ws answer))
    × (ws' ≡ workspace_after (begin columns limit q d store rows budget ws) ws)
    × (answer' ≡ answer_after (run_query columns limit q d store rows budget ws answer) answer)

ends_as : (limit : ℕ) (q p : Query) (d : Database) (store : List ℕ) (rows budget : ℕ) (ws answer : List ℕ) {r : Result Ran Refusal} {ws' answer' : List ℕ} → q ≡ p
    → Ends limit q d store rows budget ws answer r ws' answer' → Ends limit p d store rows budget ws answer r ws' answer'
ends_as limit q p d store rows budget ws answer {r} {ws'} {answer'} e h =
    subst (λ (x : Query). Ends limit x d store rows budget ws answer r ws' answer') e h

pub returns : goal.returns
returns c =
    let limit = min c.args.limit node_limit in
    let q = left_by columns limit c.args.query c.args.database c.args.store.now c.args.steps.now in
    let e = ends_as limit _ q c.args.database c.args.store.now c.args.rows c.args.budget c.args.workspace.now c.args.answer.now c.rewrite_each-held.ensures
    c.run.ensures.value in record { value = e; meaning = λ told ended. let x = run_ended columns limit q c.args.database c.args.store.now c.args.rows c.args.budget c.args.workspace.now c.args.answer.now c.run.result e.0 _ e.2 told ended in means_as columns limit c.args.query c.args.database c.args.store.now x.columns x.rows (left_means columns limit c.args.database c.args.store.now c.args.query c.args.steps.now c.args.rows c.args.budget c.args.workspace.now c.args.answer.now x.answer x.accepts) }
