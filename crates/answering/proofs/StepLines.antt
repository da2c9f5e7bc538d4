-- The lines of a steps file: what is left of them after each.
use mathlib.Core.Path.{◌≡◌, refl, ap, sym, ◌∙◌}
use mathlib.Core.Bool.{false}
use Rattle.std.specs.Prelude.{Option, Some, None, Result, Ok, Err}
use mathlib.Core.List.{List, []}
use Prim.Native.Nat.{ℕ, zero, suc, ◌+◌, ◌-◌, ◌≤◌, ◌<◌}
use native.Mathlib.Omega.{arith}
use lib.ListN.{length, drop, drop_of_length-le}
use lib.Seq.{drop-cons}
use Rattle.laws.specs.Lists.{null}
use Rattle.laws.specs.Options.{mapped}
use Rattle.relation.specs.Rows.{columns}
use Rattle.database.specs.declared.Database.{Database}
use Rattle.database.specs.declared.Refusal.{Refusal}
use Rattle.database.specs.declared.Refusal.TheVariants.{NoMatch}
use Rattle.database.specs.Refusals.{Reply, refused, accepted, ◌>>=◌}
use Rattle.query.specs.declared.Query.{Query}
use Rattle.text.specs.declared.Step.{Step}
use Rattle.text.specs.declared.line_reader.Cursor.{Cursor}
use Rattle.text.specs.Lines.{Rest, due, whole, step_line}
use Rattle.text.specs.Cursors.{cursor, rest_at, due_line, unnumbered}
use Rattle.text.proofs.ReaderLawsDue.{due_reply, due_reply_lem, due_behind, mapped_none, count_next}
use Rattle.rewrite.specs.declared.Unchanged.{Unchanged}
use Rattle.rewrite.specs.Rewrite.{rewrite, told, rewritten}
use Rattle.answering.specs.Answer.{limits, apply_steps}

-- what a step's rewrite replies, by what is told of it
rewrite_refused : (q : Query) (r : Reply Query) {u : Unchanged} → Err u ≡ rewritten q r → r ≡ refused u.refusal
rewrite_refused q (refused r) {u} e =
    let is : u ≡ record { query = q; refusal = r } = cc in
    ap (λ (x : Unchanged). refused x.refusal) (sym is)
rewrite_refused q (accepted p) e = let z : ◌≡◌ {A = ℕ} 0 1 = cc in absurd (omega arith)

pub rewrite_accepted : (q : Query) (r : Reply Query) {p : Query} → Ok p ≡ rewritten q r → r ≡ accepted p
rewrite_accepted q (refused r) e = let z : ◌≡◌ {A = ℕ} 0 1 = cc in absurd (omega arith)
rewrite_accepted q (accepted p) e = cc

no_lines : (n line : ℕ) (m : List ℕ) → m ≡ [] → (d : Database) (store : List ℕ) (p : Query)
    → apply_steps n (record { line = line; bytes = m }) d store p ≡ accepted p
unfolding apply_steps
no_lines zero line m e d store p = refl
no_lines (suc n) line m e d store p = rw (e, apply_steps)

-- a steps file: the lines from a place on, for the query that is held there, reply what all lines do for the first query
pub record Due (d : Database) (store text : List ℕ) (q : Query) (place : ℕ) (p : Query) : Type 0 where
  pub left : ℕ
  pub line : ℕ
  pub room : length text ≤ place + left
  pub same : apply_steps (length text) (whole text) d store q ≡ apply_steps left (rest_at text (cursor place line)) d store p

module _ (d : Database) (store text : List ℕ) (q : Query) where
  pub due_first : Due d store text q 0 q
  due_first = record { left = length text; line = 1; room = omega arith; same = refl }

  module _ (place : ℕ) (p : Query) (x : Due d store text q place p) where
    pub due_none : length text ≤ place → apply_steps (length text) (whole text) d store q ≡ accepted p
    due_none h = x.same ∙ no_lines x.left x.line (drop place text) (drop_of_length-le text h) d store p

    -- what a line replies, with n lines at most behind it
    abbrev behind : ℕ → Reply (Step × Rest) → Reply Query
    behind n r = r >>= (λ s. rewrite columns limits.nodes p d store s.0.kind s.0.node >>= (λ u. apply_steps n s.1 d store u))

    module _ (h : place < length text) where
      reads : (n : ℕ) → x.left ≡ suc n
          → apply_steps (length text) (whole text) d store q ≡ behind n (due (λ line. NoMatch) step_line (rest_at text (cursor place x.line)))
      unfolding apply_steps
      reads n e =
          let s : Rest = rest_at text (cursor place x.line) in
          let some_bytes : null s.bytes ≡ false = ap null (drop-cons text place 0 h) in
          x.same ∙ ap (λ k. apply_steps k s d store p) e ∙ rw (apply_steps, some_bytes)

      -- by what is read there
      read_as : (o : Option (Step × Cursor)) → due_line step_line text (cursor place x.line) ≡ o
          → (n : ℕ) × (x.left ≡ suc n)
          × (apply_steps (length text) (whole text) d store q ≡ behind n (due_reply step_line text (cursor place x.line) (λ line. NoMatch) o))
      read_as o e =
          let k : x.left ≡ suc (x.left - 1) = omega (arith, x.room) in
          let c : Cursor = cursor place x.line in (
            x.left - 1,
            k,
            reads (x.left - 1) k ∙ ap (behind (x.left - 1)) (due_reply_lem step_line text c (λ line. NoMatch) ∙ ap (due_reply step_line text c (λ line. NoMatch)) e),
          )

      pub due_bad : ((line : ℕ) → None ≡ mapped unnumbered (due_line step_line text (cursor place line)))
          → apply_steps (length text) (whole text) d store q ≡ refused NoMatch
      due_bad e = (read_as None (mapped_none unnumbered _ (e x.line))).2

      module _ (step : Step) (at : ℕ) (e : (line : ℕ) → Some (step, at) ≡ mapped unnumbered (due_line step_line text (cursor place line))) where
        found : due_line step_line text (cursor place x.line) ≡ Some (step, cursor at (x.line + 1))
        found = count_next step_line text (cursor place x.line) step at (e x.line)

        pub due_on : place < at
        due_on =
            let (_, later, _) = due_behind step_line text (cursor place x.line) _ found in
            omega arith

        due_refused : (r : Refusal) → rewrite columns limits.nodes p d store step.kind step.node ≡ refused r
            → apply_steps (length text) (whole text) d store q ≡ refused r
        due_refused r f =
            let (m, _, same) = read_as _ found in
            same ∙ rw f

        -- the refusal of the step's rewrite is told
        pub due_fails : {x : Result Query Unchanged} → x ≡ rewritten p (rewrite columns limits.nodes p d store step.kind step.node)
            → {y : Result Query Refusal} → (u : Unchanged) × (x ≡ Err u) × (y ≡ Err u.refusal)
            → y ≡ told (apply_steps (length text) (whole text) d store q)
        due_fails is (u, failed, e) = e ∙ ap told (sym (due_refused u.refusal (rewrite_refused p _ (sym failed ∙ is))))

        pub due_more : (u : Query) → rewrite columns limits.nodes p d store step.kind step.node ≡ accepted u → Due d store text q at u
        due_more u f =
            let (m, e, same) = read_as _ found in
            let on = due_on in
            record { left = m; line = x.line + 1; room = omega (arith, x.room); same = same ∙ rw f }
