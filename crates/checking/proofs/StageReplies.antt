-- The stages of the check, one after the other: what the verdict of each says of the reply, and the facts beside it.
use mathlib.Core.Path.{◌≡◌, refl, ap, ap₂, sym, ◌∙◌, subst}
use mathlib.Core.Bool.{true}
use mathlib.Core.List.{List, [], map}
use Prim.Native.Nat.{ℕ, ◌≤◌}
use native.Mathlib.Omega.{arith}
use lib.ListN.{length, get_or}
use Rattle.laws.proofs.EachMember.{each_at}
use Rattle.laws.proofs.EmptyLists.{each_index}
use Rattle.algebra.specs.Term.{Term}
use Rattle.algebra.specs.Columns.{no_cols, Schema, size}
use Rattle.algebra.specs.Split.{split, mus}
use Rattle.algebra.proofs.SplitTerms.{split_counts}
use Rattle.relation.specs.declared.Columns.{Columns}
use Rattle.relation.specs.Rows.{columns}
use Rattle.database.specs.declared.Database.{Database}
use Rattle.database.specs.declared.Refusal.{Refusal}
use Rattle.database.specs.Refusals.{Verdict, no_refusal}
use Rattle.std.specs.Prelude.{Result, Ok, Err}
use Rattle.database.specs.Stored.{schema, check_database}
use Rattle.database.specs.Refusals.{Reply, refused, accepted, verdict, no_fault, ◌>>=◌}
use Rattle.database.proofs.Verdicts.{accepted_not_refused, verdict_accepted, verdict_refused}
use Rattle.database.proofs.Replies.{accepted_refused}
use Rattle.query.specs.declared.Node.{Node}
use Rattle.query.specs.declared.Node.TheVariants.{Table}
use Rattle.query.specs.declared.Query.{Query}
use Rattle.query.specs.declared.Variables.{Variables}
use Rattle.query.specs.declared.Checked.{Checked}
use Rattle.query.specs.Lines.{node_limit, nodes, lines, on_form, check_form, term_of}
use Rattle.query.specs.Check.{split_term, split_sheet, split_of, first_pass, second_pass, faults, check_query, check_over}
use Rattle.query.specs.Facts.{Visit, padded, visited, facts_of, checked_value}
use Rattle.query.specs.Shape.{starts, shape_of, Shaped, Formed}
use Rattle.query.specs.Passes.{visits_of, first_of}
use Rattle.query.specs.FreeSets.{free_sets}
use Rattle.query.proofs.Reading.{size_lines}
use Rattle.query.proofs.TermLines.{term_lines}
use Rattle.query.proofs.FormNodes.{nodes_formed, form_accepted}
use Rattle.query.proofs.Starts.{size_pos}
use Rattle.query.proofs.Visits.{visits_starts}
use Rattle.query.proofs.ShapedNodes.{nodes_are}
use Rattle.query.proofs.PassLoops.{first_of_faults}
use Rattle.query.proofs.Splitting.{split_accepted, LinesFormed, split_formed}
use Rattle.query.proofs.SplitSheet.{lines_back}
use Rattle.splitting.specs.SplitValue.{split_reply, split_value}
use Rattle.node_columns.specs.NodeColumns.{column_sets}
use Rattle.checking.specs.CheckStages.{pass_term, check_term}

-- 11
module _ (w limit : ℕ) (q : Query) (d : Database) (store : List ℕ) where
  pub book_refused : {x : Refusal} → Err x ≡ verdict (check_database w d store) → check_over w limit q d store ≡ refused x
  unfolding check_over
  book_refused e = ap (λ (r : Reply (Unit {0})). r >>= λ _. check_query limit q (schema w d)) (verdict_refused (check_database w d store) e)

  pub book_passed : no_refusal ≡ verdict (check_database w d store) → check_over w limit q d store ≡ check_query limit q (schema w d)
  unfolding check_over
  book_passed e = ap (λ (r : Reply (Unit {0})). r >>= λ _. check_query limit q (schema w d)) (verdict_accepted (check_database w d store) e).1

-- 2 and 1
module _ (q : Query) (G : Schema) (limit : ℕ) where
  -- the split and the two passes are one stage behind the form and the shape
  later_stages : (r : Reply Term) → (r >>= λ typed. split_term typed >>= λ t. no_fault (faults G t) >>= λ _. accepted t) ≡ pass_term G (r >>= split_term)
  later_stages (refused x) = refl
  later_stages (accepted t) = refl

  by_stages : check_query limit q G ≡ (check_form G.width limit q >>= λ _. check_term q G)
  unfolding check_query
  by_stages = ap (λ (x : Reply Term). check_form G.width limit q >>= λ _. x) (later_stages (term_of (nodes q)))

  pub form_refused : {x : Refusal} → Err x ≡ verdict (check_form G.width limit q) → check_query limit q G ≡ refused x
  form_refused e = by_stages ∙ ap (λ (r : Reply (Unit {0})). r >>= λ _. check_term q G) (verdict_refused (check_form G.width limit q) e)

  pub form_passed : no_refusal ≡ verdict (check_form G.width limit q) → check_query limit q G ≡ check_term q G
  form_passed e = by_stages ∙ ap (λ (r : Reply (Unit {0})). r >>= λ _. check_term q G) (verdict_accepted (check_form G.width limit q) e).1

pub form_says : (q : Query) (limit : ℕ) → no_refusal ≡ verdict (check_form columns limit q) → (1 ≤ q.count) × (q.count ≤ limit) × Formed q
form_says q limit e =
    let (h, k, f) = form_accepted columns q limit (verdict_accepted (check_form columns limit q) e).1 in
    (h, k, nodes_formed columns q f)

-- 3
shape_accepted : (r : Reply Term) {start : List ℕ} → Ok start ≡ shape_of r → (t : Term) × (r ≡ accepted t) × (start ≡ padded 0 (starts 0 t))
shape_accepted (refused x) e = let z : ◌≡◌ {A = ℕ} 0 1 = cc in absurd (omega arith)
shape_accepted (accepted t) e = (t, refl, cc)

module _ (q : Query) where
  pub shape_refused : {x : Refusal} → Err x ≡ shape_of (term_of (nodes q)) → term_of (nodes q) ≡ refused x
  shape_refused {x} e = by_reply (term_of (nodes q)) e
    where
      by_reply : (r : Reply Term) → Err x ≡ shape_of r → r ≡ refused x
      by_reply (refused y) e = cc
      by_reply (accepted t) e = let z : ◌≡◌ {A = ℕ} 0 1 = cc in absurd (omega arith)

  pub shape_passed : {start : List ℕ} → Ok start ≡ shape_of (term_of (nodes q)) → length (nodes q) ≡ q.count → q.count ≤ node_limit → Shaped q start
  shape_passed e n k =
      let (t, f, b) = shape_accepted (term_of (nodes q)) e in
      record {
        term = t;
        reads = f;
        counted = sym (size_lines t) ∙ ap length (sym ((term_lines (nodes q) t).0 f)) ∙ n;
        fits = k;
        begins = b;
      }

-- the sheet p that the passes see once q is split: it reads to what the split replied, and its shape and form are tested already
pub record SheetOf (q p : Query) : Type 0 where
  pub reads : term_of (nodes p) ≡ split_reply q
  pub given : p ≡ split_of q (term_of (nodes p))
  pub term : Term
  pub is : term_of (nodes p) ≡ accepted term
  pub range : (1 ≤ p.count) × (p.count ≤ node_limit)
  pub counted : length (nodes p) ≡ p.count
  pub formed : Formed p

-- 20
module _ (q : Query) where
  pub split_refused : {c : Refusal} → Err c ≡ split_value q (split_reply q) → split_reply q ≡ refused c
  split_refused {c} e = by_reply (split_reply q) e
    where
      by_reply : (r : Reply Term) → Err c ≡ split_value q r → r ≡ refused c
      by_reply (refused y) e = cc
      by_reply (accepted t) e = let z : ◌≡◌ {A = ℕ} 0 1 = cc in absurd (omega arith)

  split_replied : (r : Reply Term) {p : Query} → Ok p ≡ split_value q r → (t : Term) × (r ≡ accepted t) × (p ≡ split_sheet q t)
  split_replied (refused x) e = let z : ◌≡◌ {A = ℕ} 0 1 = cc in absurd (omega arith)
  split_replied (accepted t) e = (t, refl, cc)

  module _ (start : List ℕ) (s : Shaped q start) (formed : Formed q) {p : Query} (passed : Ok p ≡ split_value q (split_reply q)) where
    abbrev typed : Term
    typed = s.term

    split_term_lem : (t : Term) × (split_reply q ≡ accepted t) × (p ≡ split_sheet q t)
    split_term_lem = split_replied (split_reply q) passed

    abbrev term : Term
    term = split_term_lem.0

    -- each mu was split
    all_split : (mus (split typed) ≡ 0) × (split typed ≡ term)
    all_split = split_accepted typed (ap (λ (r : Reply Term). r >>= split_term) (sym s.reads) ∙ split_term_lem.1)

    sheet_is : p ≡ split_sheet q term
    sheet_is = split_term_lem.2

    sheet_lines : nodes p ≡ lines term
    sheet_lines = ap nodes sheet_is ∙ lines_back q (lines term)

    sheet_reads : term_of (nodes p) ≡ split_reply q
    sheet_reads = (term_lines (nodes p) term).1 sheet_lines ∙ sym split_term_lem.1

    sheet_accepted : term_of (nodes p) ≡ accepted term
    sheet_accepted = sheet_reads ∙ split_term_lem.1

    sheet_count : p.count ≡ size term
    sheet_count = ap (λ (x : Query). x.count) sheet_is ∙ size_lines term

    -- it has a node, and no more than the typed query
    sheet_range : (1 ≤ p.count) × (p.count ≤ node_limit)
    sheet_range =
        let n = split_counts typed in
        (omega (arith, sheet_count, size_pos term), omega (arith, sheet_count, n, all_split.0, ap size all_split.1, s.counted, s.fits))

    sheet_length : length (nodes p) ≡ p.count
    sheet_length = ap length sheet_lines ∙ size_lines term ∙ sym sheet_count

    sheet_formed : Formed p
    sheet_formed i h =
        let own : LinesFormed columns typed =
        rw (← (term_lines (nodes q) typed).0 s.reads)
        (each_index _ (Table 0) (nodes q) (λ j k. formed j (omega (arith, ap length ((term_lines (nodes q) typed).0 s.reads), size_lines typed, s.counted)))) in
        let all : LinesFormed columns term = subst (LinesFormed columns) all_split.1 (split_formed columns typed own) in
        subst (λ (l : List Node). on_form columns (get_or l i (Table 0)) ≡ true) (sym sheet_lines)
        (each_at _ (Table 0) (lines term) all i (omega (arith, sheet_count, size_lines term)))

    sheet_given : p ≡ split_of q (term_of (nodes p))
    sheet_given = sheet_is ∙ ap (split_of q) (sym sheet_accepted)

    pub split_passed : SheetOf q p
    split_passed = record {
      reads = sheet_reads;
      given = sheet_given;
      term = term;
      is = sheet_accepted;
      range = sheet_range;
      counted = sheet_length;
      formed = sheet_formed;
    }

-- 4 to 8, then 9 and 10
module _ (G : Schema) where
  abbrev by_faults : Term → Reply (Unit {0}) → Reply Term
  by_faults t r = r >>= λ _. accepted t

  verdict_kept : (t : Term) (r : Reply (Unit {0})) → verdict r ≡ verdict (by_faults t r)
  verdict_kept t (refused x) = refl
  verdict_kept t (accepted u) = refl

  pub passes_verdict : (r : Reply Term)
      → first_of (verdict (r >>= λ t. no_fault (first_pass t [] [] 0))) (verdict (r >>= λ t. no_fault (second_pass G t no_cols 0))) ≡ verdict (pass_term G r)
  unfolding faults
  passes_verdict (refused x) = refl
  passes_verdict (accepted t) = first_of_faults (first_pass t [] [] 0) (second_pass G t no_cols 0) ∙ verdict_kept t (no_fault (faults G t))

  -- the term is what the lines read to
  passes_passed_lem : (r : Reply Term) → no_refusal ≡ verdict (pass_term G r) → pass_term G r ≡ r
  passes_passed_lem (refused x) e = refl
  passes_passed_lem (accepted t) e = by_faults_lem (no_fault (faults G t)) e
    where
      by_faults_lem : (r : Reply (Unit {0})) → no_refusal ≡ verdict (by_faults t r) → by_faults t r ≡ accepted t
      by_faults_lem (refused x) e = accepted_not_refused e
      by_faults_lem (accepted u) e = refl

  -- the first pass, and the second where the first finds nothing
  module _ (r : Reply Term) where
    abbrev first : Verdict
    first = verdict (r >>= λ t. no_fault (first_pass t [] [] 0))

    abbrev second : Verdict
    second = verdict (r >>= λ t. no_fault (second_pass G t no_cols 0))

    pub first_refused : {c : Refusal} → Err c ≡ first → pass_term G r ≡ refused c
    first_refused e = verdict_refused (pass_term G r) (ap (λ (v : Verdict). first_of v second) e ∙ passes_verdict r)

    pub second_refused : no_refusal ≡ first → {c : Refusal} → Err c ≡ second → pass_term G r ≡ refused c
    second_refused e f = verdict_refused (pass_term G r) (f ∙ ap (λ (v : Verdict). first_of v second) e ∙ passes_verdict r)

    pub passes_passed : no_refusal ≡ first → no_refusal ≡ second → pass_term G r ≡ r
    passes_passed e f = passes_passed_lem r (f ∙ ap (λ (v : Verdict). first_of v second) e ∙ passes_verdict r)

abbrev value : Query → List ℕ → List Variables → List Columns → Result Checked Refusal
value q start free held = Ok (record { query = q; facts = record { start = start; free = free; columns = held } })

sheet_value : (G : Schema) (q p : Query) (r : Reply Term) {t : Term} → r ≡ accepted t → p ≡ split_of q r
    → ◌≡◌ {A = Result Checked Refusal} (Ok (record { query = p; facts = facts_of G (visited G r) })) (checked_value G q r)
sheet_value G q p (refused x) e f = accepted_refused (sym e)
sheet_value G q p (accepted t) e f = ap (λ (s : Query). Ok (record { query = s; facts = facts_of G (visited G (accepted t)) })) f

-- the facts of the split sheet p of a query q
pub shaped_facts : (q p : Query) (start : List ℕ) → Shaped p start → p ≡ split_of q (term_of (nodes p))
    → (d : Database) (free : List Variables) → free ≡ free_sets (schema columns d) p
    → (held : List Columns) → held ≡ column_sets (schema columns d) p → value p start free held ≡ checked_value (schema columns d) q (term_of (nodes p))
shaped_facts q p start s given d free e held f =
    let G = schema columns d in
    let begins : start ≡ padded 0 (map (λ (x : Visit). x.start) (visits_of G p)) =
    s.begins ∙ ap (padded 0) (sym (ap (map (λ (x : Visit). x.start)) (nodes_are p start s G) ∙ visits_starts G no_cols [] 0 s.term)) in
    ap (λ (l : List ℕ). value p l free held) begins
    ∙ ap₂ (value p (padded 0 (map (λ (x : Visit). x.start) (visits_of G p)))) e f
    ∙ sheet_value G q p (term_of (nodes p)) s.reads given
