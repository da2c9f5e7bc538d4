-- `rewrite_each` meets its contract: what is left of the list, for the query held there, leaves what the list does for the first query.
use native.Mathlib.Omega.{arith}
use Prim.Native.Nat.{ℕ, ◌+◌, ◌*◌, min}
use mathlib.Core.Path.{◌≡◌, ap, sym, ◌∙◌}
use mathlib.Core.List.{List}
use lib.ListN.{get_or, drop}
use Rattle.std.specs.Prelude.{Ok, Err}
use Rattle.relation.specs.Rows.{columns}
use Rattle.database.specs.Refusals.{Reply, refused, accepted}
use Rattle.query.specs.declared.Query.{Query}
use Rattle.query.specs.Lines.{node_limit}
use Rattle.rewrite.specs.declared.Unchanged.{Unchanged}
use Rattle.rewrite.specs.Rewrite.{rewrite, held, handed_back, rewritten}
use Rattle.engine.specs.Demands.{steps_over}
use Rattle.engine.proofs.StepLists.{steps_none, steps_more}
use Rattle.engine.proofs.steps.rewrite_each.Goals.{in-Ok, in-Err, In-loop-i}
use Rattle.engine.proofs.steps.rewrite_each.Goals as goal

-- the query that a step leaves

accepted_next : (q : Query) (r : Reply Query) {next : Query} → Ok next ≡ rewritten q r → next ≡ handed_back q r
accepted_next q (refused x) e = let z : ◌≡◌ {A = ℕ} 0 1 = cc in absurd (omega arith)
accepted_next q (accepted p) e = cc

refused_next : (q : Query) (r : Reply Query) {unchanged : Unchanged} → Err unchanged ≡ rewritten q r → unchanged.query ≡ handed_back q r
refused_next q (refused x) {unchanged = unchanged} e = let same : unchanged ≡ record { query = q; refusal = x } = cc in ap (λ (u : Unchanged). u.query) same
refused_next q (accepted p) e = let z : ◌≡◌ {A = ℕ} 0 1 = cc in absurd (omega arith)

pub loop-i-preserved : goal.loop-i-preserved
loop-i-preserved c =
    let most = min c.args.limit node_limit in
    let store : List ℕ = c.args.store.now in
    let steps : List ℕ = c.args.steps.now in
    let reply : Reply Query =
    rewrite columns most c.loop-i.held c.args.database store (get_or steps (2 * c.loop-i.i) 0) (get_or steps (2 * c.loop-i.i + 1) 0) in
    let turn = steps_more columns most c.args.database store c.loop-i.held steps (2 * c.loop-i.i) (omega (arith, c.loop-i-test.true)) in
    let behind : 2 * c.loop-i.i + 2 ≡ 2 * (c.loop-i.i + 1) = omega arith in
    let rest = λ (q : Query). held columns q (steps_over most c.args.database store (drop (2 * c.loop-i.i + 2) steps)) in
    let next : c.match-rewrite.held ≡ handed_back c.loop-i.held reply = elim c.match-rewrite.branch [
      | in-Ok w ↦ w.held-is ∙ accepted_next c.loop-i.held reply (sym w.in-Ok.is ∙ c.rewrite.ensures)
      | in-Err w ↦ w.held-is ∙ refused_next c.loop-i.held reply (sym w.in-Err.is ∙ c.rewrite.ensures)
    ] in
    c.loop-i.invariant ∙ turn ∙ ap rest (sym next)
    ∙ ap (λ (n : ℕ). held columns c.match-rewrite.held (steps_over most c.args.database store (drop n steps))) behind

pub returns : goal.returns
returns c =
    sym (c.loop-i.invariant
    ∙ steps_none columns (min c.args.limit node_limit) c.args.database c.args.store.now c.loop-i.held c.args.steps.now (2 * c.loop-i.i) (omega (arith, c.loop-i-test.false)))
