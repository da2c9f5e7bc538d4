-- The fixes and the operands of a checked query, by the indices of their lines: their columns, which are stable and which are used in their steps, whether they are closed.
use mathlib.Core.Path.{◌≡◌, refl, ap, ap₂, sym, ◌∙◌}
use mathlib.Core.Bool.{Bool, true, false, not, ◌&&◌, ◌||◌}
use mathlib.Core.Logic.{inl, inr}
use mathlib.Core.List.{[]}
use Prim.Native.Nat.{ℕ, zero, suc, ◌+◌, ◌-◌, ◌≤◌, ◌<◌}
use native.Mathlib.Omega.{arith}
use lib.Dec.{ltb}
use borrow.Author.Tests.{ltb-true}
use lib.ListN.{length, length-append}
use Rattle.laws.specs.Lists.{◌iff◌, every, all}
use Rattle.laws.proofs.Lists.{count, count_append, count_head, count_absent}
use Rattle.laws.proofs.Tests.{and_true_left, not_not}
use Rattle.laws.proofs.Passes.{every_split, every_at}
use Rattle.algebra.specs.Term.{Term}
use Rattle.algebra.specs.Columns.{Cols, no_cols, Schema, cols, is_closed, size, fix_numbers, stable, used}
use Rattle.algebra.specs.WellFormed.{Closed, c_fix, Path}
use Rattle.algebra.specs.Rules.{Loop, shared_stable, others_unused}
use Rattle.algebra.proofs.Distinct.{distinct_count}
use Rattle.algebra.proofs.Redex.{fix_of}
use Rattle.relation.specs.declared.Columns.{Columns}
use Rattle.relation.specs.Rows.{columns, cols_of}
use Rattle.database.specs.declared.Database.{Database}
use Rattle.database.specs.Stored.{schema, table_limit}
use Rattle.query.specs.declared.Node.TheVariants.{Table}
use Rattle.query.specs.declared.Query.{Query}
use Rattle.query.specs.declared.Facts.{Facts}
use Rattle.query.specs.Lines.{node_limit, nodes, on_form, lines}
use Rattle.query.specs.Facts.{visits, facts_of}
use Rattle.query.specs.FreeSets.{none_in}
use Rattle.query.proofs.CheckReply.{Checked}
use Rattle.query.proofs.Parts.{of_node}
use Rattle.query.proofs.PartsFine.{Fine, parts_fine}
use Rattle.query.proofs.Reading.{flat, size_lines}
use Rattle.query.proofs.ScopeNodes.{closed_set}
use Rattle.query.proofs.Starts.{size_pos, begins_low}
use Rattle.query.proofs.TermLines.{term_lines}
use Rattle.query.proofs.Visits.{visits_starts}
use Rattle.rewrite.specs.Places.{start_at, free_at, last, Told, Stands, StartsLow, LoopAt}
use Rattle.rewrite.proofs.GrownColumns.{columns_back}
use Rattle.rewrite.proofs.OnPath.{stands_told}
use Rattle.rewrite.proofs.AlongPath.{loop_used}
use Rattle.origins.proofs.StepOrigins.{loop_unstable}
use Rattle.rewrite.proofs.RuleSheet.{few_numbers}
use Rattle.matching.specs.Found.{cols_at, unstable_at, used_at, shared_kept, others_fresh}
use Rattle.matching.proofs.Standing.{Here, here_stands, here_reads, here_lines, here_place, under}

-- tests that agree on each number below n
all_same : (p r : ℕ → Bool) (n : ℕ) → ((c : ℕ) → c < n → p c ≡ r c) → all p n ≡ all r n
unfolding all
all_same p r zero h = refl
all_same p r (suc n) h = ap₂ ◌&&◌ (all_same p r n (λ c k. h c (omega arith))) (h n (omega arith))

-- a column that both have, and one that the operand has and the fix lacks
shared_same : (d e m : Bool) → not (e && (d iff true)) || not (not m) ≡ not (d && e) || m
shared_same true true m = not_not m
shared_same true false m = refl
shared_same false true m = refl
shared_same false false m = refl

others_same : (d e m : Bool) → not (e && (d iff false)) || not m ≡ not (e && not d) || not m
others_same true e m = refl
others_same false e m = refl

module _ (d : Database) (limit : ℕ) (q : Query) (t : Term) (checked : Checked limit q (schema columns d) t) (counted : length (nodes q) ≡ q.count) (fits : q.count ≤ node_limit) where
  abbrev G : Schema
  G = schema columns d

  abbrev facts : Facts
  facts = facts_of G (visits G no_cols [] 0 t)

  abbrev At : Cols → ℕ → Term → Type 0
  At C n a = Here d q t checked.written C n a

  pub low : StartsLow facts
  low j = rw (visits_starts G no_cols [] 0 t) (begins_low t j)

  -- every line is on the form
  formed : every (on_form columns) (nodes q) ≡ true
  formed = every_at (on_form columns) (Table 0) (nodes q) (λ i h. checked.on_form_lem i (omega arith))

  pub here_formed : {C : Cols} {n : ℕ} {a : Term} → At C n a → every (on_form columns) (lines a) ≡ true
  here_formed {C} {n} {a} h =
      let e = here_lines d q t checked.written h (n + size a) refl in
      let split = (every_split (on_form columns) (flat (under d q t checked.written h (n + size a) refl)) _ (ap (every (on_form columns)) (sym e) ∙ formed)).1 in
      (every_split (on_form columns) (lines a) _ split).0

  pub here_told : {C : Cols} {n : ℕ} {a : Term} → At C n a → Told G q facts C n a
  here_told {a = a} h = stands_told G q facts a (here_stands d q t checked.written h)

  -- a node ends within the query
  pub here_within : {C : Cols} {n : ℕ} {a : Term} → At C n a → n + size a ≤ q.count
  here_within {C} {n} {a} h =
      let k : ℕ = n + size a in
      let e = here_lines d q t checked.written h k refl in
      let p = here_place d q t checked.written h k refl in
      omega (arith, size_lines a, simp length-append at (ap length e))

  -- its columns
  pub here_cols : {C : Cols} {n : ℕ} {a : Term} → At C n a → (c : ℕ) → c < columns → cols_at q facts (last n a) c ≡ cols G C a c
  here_cols {C} {n} {a} h c k = ap (λ (x : Columns). cols_of columns x c) (here_told h).columns ∙ columns_back columns (cols G C a) c k

  pub here_closed : {C : Cols} {n : ℕ} {a : Term} → At C n a → none_in (free_at facts (last n a)) ≡ is_closed a
  here_closed {a = a} h = ap none_in (here_told h).variables ∙ closed_set a (here_formed h)

  -- closed, or on a path
  pub here_fine : {C : Cols} {n : ℕ} {a : Term} → At C n a → Fine G a
  here_fine {C} {n} {a} h =
      parts_fine G (nodes q) t ((term_lines (nodes q) t).1 checked.written) (n + size a) a _ (here_reads d q t checked.written h (n + size a) refl) checked.well_formed.closed

  pub here_numbers : {C : Cols} {n : ℕ} {a : Term} → At C n a → (v : ℕ) → count v (fix_numbers a) ≤ 1
  here_numbers {C} {n} {a} h =
      of_node few_numbers (nodes q) t ((term_lines (nodes q) t).1 checked.written) (n + size a) a _ (here_reads d q t checked.written h (n + size a) refl)
      (distinct_count (fix_numbers t) checked.well_formed.distinct)

  pub fix_closed : {C : Cols} {n : ℕ} (x : Loop) → At C n (fix_of x) → Closed G (fix_of x)
  fix_closed x h = elim (here_fine h) [ inl p ↦ p | inr (v, D, p) ↦ elim p [ ] ]

  fix_path : (x : Loop) → Closed G (fix_of x) → Path G x.var (cols G no_cols x.seed) x.step
  fix_path x c = elim c [ c_fix p r e ↦ r ]

  fix_formed : (x : Loop) → every (on_form columns) (lines (fix_of x)) ≡ true → x.var < table_limit
  unfolding lines every
  fix_formed x e =
      let f = (every_split (on_form columns) (lines x.seed) _ e).1 in
      let g = (every_split (on_form columns) (lines x.step) _ f).1 in
      ltb-true x.var table_limit (and_true_left (ltb x.var table_limit) true g)

  -- a fix by the index of its line
  pub loop_at : {C : Cols} {n : ℕ} (x : Loop) → At C n (fix_of x) → LoopAt G q facts C (last n (fix_of x)) x
  unfolding size fix_numbers
  loop_at {C} {n} x h =
      let v = x.var in
      let end = here_within h in
      let once = simp (count_append, count_head) at (here_numbers h v) in
      record {
        first = n;
        place = omega arith;
        stands = here_stands d q t checked.written h;
        inner = cols G no_cols x.seed;
        path = fix_path x (fix_closed x h);
        apart = count_absent v (fix_numbers x.step) (omega arith);
        number = fix_formed x (here_formed h);
        formed = checked.on_form_lem;
        within = omega arith;
        fits = fits;
        low = low;
      }

  -- its step starts behind its seed
  pub step_start : {C : Cols} {n : ℕ} (x : Loop) → At C n (fix_of x) → start_at facts (last n (fix_of x) - 1) ≡ n + size x.seed
  unfolding Stands size
  step_start {C} {n} x h =
      let pos = size_pos x.step in
      let e : last n (fix_of x) - 1 ≡ last (n + size x.seed) x.step = omega arith in
      let (r, s, w) = here_stands d q t checked.written h in
      ap (start_at facts) e ∙ (stands_told G q facts x.step w).start

  module _ {C : Cols} {n : ℕ} (x : Loop) (h : At C n (fix_of x)) where
    abbrev f : ℕ
    f = last n (fix_of x)

    abbrev kept : Cols
    kept = stable (cols G C x.seed) x.step

    pub unstable_is : (c : ℕ) → c < columns → unstable_at q facts f c ≡ not (kept c)
    unstable_is c k = ap (λ (s : Columns). cols_of columns s c) (loop_unstable (loop_at x h)) ∙ columns_back columns (λ c. not (kept c)) c k

    pub used_is : (c : ℕ) → c < columns → used_at q facts f c ≡ used G x.step c
    used_is c k = ap (λ (s : Columns). cols_of columns s c) (loop_used (loop_at x h)) ∙ columns_back columns (used G x.step) c k

    fix_cols : (c : ℕ) → c < columns → cols_at q facts f c ≡ cols G C x.seed c
    unfolding cols
    fix_cols c k = here_cols h c k

    pub shared_is : {m : ℕ} {a : Term} → At C m a → (D : Cols) → ((c : ℕ) → cols G C a c ≡ D c) → shared_kept q facts f (last m a) ≡ shared_stable G C x D
    unfolding shared_stable
    shared_is {m} {a} o D same = all_same _ _ columns λ c k.
        ap₂ (λ (u v : Bool). not (cols_at q facts (last m a) c && (u iff true)) || not v) (fix_cols c k) (unstable_is c k)
        ∙ ap (λ (e : Bool). not (e && (cols G C x.seed c iff true)) || not (not (kept c))) (here_cols o c k ∙ same c)
        ∙ shared_same (cols G C x.seed c) (D c) (kept c)

    pub others_is : {m : ℕ} {a : Term} → At C m a → (D : Cols) → ((c : ℕ) → cols G C a c ≡ D c) → others_fresh q facts f (last m a) ≡ others_unused G C x D
    unfolding others_unused
    others_is {m} {a} o D same = all_same _ _ columns λ c k.
        ap₂ (λ (u v : Bool). not (cols_at q facts (last m a) c && (u iff false)) || not v) (fix_cols c k) (used_is c k)
        ∙ ap (λ (e : Bool). not (e && (cols G C x.seed c iff false)) || not (used G x.step c)) (here_cols o c k ∙ same c)
        ∙ others_same (cols G C x.seed c) (D c) (used G x.step c)
