-- What an accepted step of kinds 1 to 6 leaves of a checked sheet: the rule's term stands in the place of the node's, with its size and columns, and the new sheet is checked
-- again. So a step at a node that has no line in common with it finds the same term and the same columns around, and replies and writes what it did.
use mathlib.Core.Path.{◌≡◌, refl, ap, ap₂, sym, ◌∙◌, subst}
use Rattle.std.specs.Prelude.{Option, Some, None}
use mathlib.Core.List.{List, ◌++◌, append_assoc}
use Prim.Native.Nat.{ℕ, ◌+◌, ◌-◌, ◌≤◌}
use native.Mathlib.Omega.{arith}
use lib.ListN.{length, take, drop as dropFirst}
use lib.Seq.{sets, sets-eq, length-sets}
use borrow.Author.Tests.{le-leb}
use Rattle.algebra.specs.Term.{Term}
use Rattle.algebra.specs.Columns.{Cols, no_cols, Schema, cols, size}
use Rattle.algebra.proofs.Sizes.{size_positive}
use Rattle.algebra.proofs.Redex.{matched}
use Rattle.algebra.proofs.Written.{written_columns}
use Rattle.database.specs.declared.Database.{Database}
use Rattle.database.specs.declared.Refusal.TheVariants.{NoMatch}
use Rattle.database.specs.Stored.{schema, check_database}
use Rattle.database.specs.Refusals.{Reply, refused, accepted, no_fault, or_refuse, verdict, ◌>>=◌}
use Rattle.database.proofs.Replies.{accepted_then, accepted_same, accepted_refused}
use Rattle.query.specs.declared.Node.{Node}
use Rattle.query.specs.declared.Query.{Query}
use Rattle.query.specs.Lines.{nodes, lines, check_form, term_of}
use Rattle.query.specs.Check.{split_term, split_of, faults, check_query, check_over}
use Rattle.query.proofs.Reading.{size_lines}
use Rattle.query.proofs.CheckedOver.{check_over_iff}
use Rattle.query.proofs.SplitSheet.{lines_back, with_again}
use Rattle.rewrite.specs.Rewrite.{around, rule, ended_at, replaced, with_nodes, rewrite, handed_back, Step}
use Rattle.rewrite.proofs.RewriteExact.{Allows, by_rule, by_past, allows_iff}
use Rattle.rewrite.proofs.AfterStep.{none_added, allows_size, step_checked}
use Rattle.rewrite.proofs.Inside.{Inside, puts, own_lines, within_lines, puts_lines, inside_found, found_inside}
use Rattle.branches.specs.Branches.{split_lines, Apart, stepped, Commute}
use Rattle.branches.proofs.Beside.{Clear, first, last, same_ended, around_beside}
use Rattle.branches.proofs.SetsCommute.{sets_commute}
use Rattle.branches.proofs.Stretches.{apart_sym, apart_clear}

-- the nodes of steps on a checked sheet count in the lines of its term
pub split_lines_lem : (w limit : ℕ) (q : Query) (d : Database) (store : List ℕ) (t : Term) → check_over w limit q d store ≡ accepted t → split_lines q ≡ lines t
unfolding check_over check_query
split_lines_lem w limit q d store t e =
    let (_, _, e₁) = accepted_then (check_database w d store) _ e in
    let (_, _, e₂) = accepted_then (check_form w limit q) _ e₁ in
    let (typed, reads, e₃) = accepted_then (term_of (nodes q)) _ e₂ in
    let (u, splits, e₄) = accepted_then (split_term typed) _ e₃ in
    let (_, _, e₅) = accepted_then (no_fault (faults (schema w d) u)) _ e₄ in
    ap (λ (r : Reply Term). nodes (split_of q r)) (ap (λ (r : Reply Term). r >>= split_term) reads ∙ splits ∙ e₅) ∙ lines_back q (lines t)

-- as many lines in the place of others, as elements stored from an index on
module _ (ns : List Node) (n : ℕ) (a b : Term) (own : size a ≤ n) (within : n ≤ length ns) (same : size b ≡ size a) where
  replaced_sets : replaced ns n a b ≡ sets ns (n - size a) (lines b)
  replaced_sets =
      let e : n - size a + length (lines b) ≡ n = omega (arith, size_lines b) in
      sym (sets-eq (lines b) ns (n - size a) (omega arith)
      ∙ append_assoc (take (n - size a) ns) (lines b) _ ∙ ap (λ (i : ℕ). take (n - size a) ns ++ (lines b ++ dropFirst i ns)) e)

  replaced_length : length (replaced ns n a b) ≡ length ns
  replaced_length = ap length replaced_sets ∙ length-sets ns (n - size a) (lines b)

-- what a step finds at its node, and what it writes in its place
abbrev pub Writes : Type 0
Writes = Term × Term

-- the lines after it
abbrev lines_after : List Node → ℕ → Reply Writes → List Node
lines_after ns n (refused r) = ns
lines_after ns n (accepted (a, b)) = replaced ns n a b

-- the reply with the sheet
abbrev pub hand : Query → List Node → ℕ → Writes → Reply Query
hand q ns n (a, b) = accepted (with_nodes q (replaced ns n a b))

abbrev sheet_after : Query → List Node → ℕ → Reply Writes → Query
sheet_after q ns n c = handed_back q (c >>= hand q ns n)

-- the verdict does not depend on the sheet
same_verdict : (c : Reply Writes) (n : ℕ) (q q' : Query) (ns ns' : List Node) → verdict (c >>= hand q ns n) ≡ verdict (c >>= hand q' ns' n)
same_verdict (refused r) n q q' ns ns' = refl
same_verdict (accepted x) n q q' ns ns' = refl

-- a step by its numbers
abbrev pub step_at : ℕ → Database → List ℕ → ℕ → ℕ → Step
step_at limit d store k n = record { limit = limit; database = d; store = store; kind = k; node = n }

module _ (w limit : ℕ) (d : Database) (store : List ℕ) where
  abbrev G : Schema
  G = schema w d

  -- what the rule of kind k finds and writes, C being the columns around the node
  abbrev pub applied : ℕ → Cols → Option Term → Reply Writes
  applied k C o = or_refuse o NoMatch >>= λ a. rule G C k a >>= λ b. accepted (a, b)

  -- a step of kinds 1 to 6 on a checked sheet, by the term at its node and the columns around
  pub step_applied : (q : Query) (t : Term) → check_over w limit q d store ≡ accepted t → (k n : ℕ) → k ≤ 6
      → rewrite w limit q d store k n ≡ applied k (around G no_cols t n) (ended_at (lines t) n) >>= hand q (lines t) n
  unfolding rewrite
  step_applied q t over k n low = rw (over, le-leb k 6 low) (by_node (ended_at (lines t) n))
    where
      by_rule : (a : Term) (r : Reply Term)
          → r >>= (λ b. accepted (with_nodes q (replaced (lines t) n a b))) ≡ (r >>= λ b. accepted (a, b)) >>= hand q (lines t) n
      by_rule a (refused _) = refl
      by_rule a (accepted b) = refl

      by_node : (o : Option Term)
          → or_refuse o NoMatch >>= (λ a. rule G (around G no_cols t n) k a >>= (λ b. accepted (with_nodes q (replaced (lines t) n a b))))
          ≡ applied k (around G no_cols t n) o >>= hand q (lines t) n
      by_node None = refl
      by_node (Some a) = by_rule a (rule G (around G no_cols t n) k a)

  record RuleApplied (k : ℕ) (C : Cols) (o : Option Term) (a b : Term) : Type 0 where
    at : o ≡ Some a
    rules : rule G C k a ≡ accepted b

  applied_parts : (k : ℕ) (C : Cols) (o : Option Term) (a b : Term) → applied k C o ≡ accepted (a, b) → RuleApplied k C o a b
  applied_parts k C None a b e = accepted_refused (sym e)
  applied_parts k C (Some x) a b e =
      let (y, f, g) = accepted_then (rule G C k x) (λ b. accepted (x, b)) e in
      let i : x ≡ a = ap (λ (p : Writes). p.0) (accepted_same g) in
      let j : y ≡ b = ap (λ (p : Writes). p.1) (accepted_same g) in
      record { at = ap Some i; rules = subst (λ (z : Term). rule G C k z ≡ accepted b) i (f ∙ ap accepted j) }

  module _ (q : Query) (t : Term) (over : check_over w limit q d store ≡ accepted t) where
    -- what the step of kind k at node n finds and writes
    abbrev pub core : ℕ → ℕ → Reply Writes
    core k n = applied k (around G no_cols t n) (ended_at (lines t) n)

    -- all that is used of an accepted step: what it writes is as large as what it finds and has its columns, and the sheet is checked with it in place
    pub record Leaves (n : ℕ) (a b : Term) : Type 0 where
      pub here : Inside a n t
      pub same_size : size b ≡ size a
      pub same_columns : (C : Cols) → cols G C b ≡ cols G C a
      pub checked : check_over w limit (with_nodes q (replaced (lines t) n a b)) d store ≡ accepted (puts here b)

    -- what a rule of kinds 1 to 6 writes has the columns of what it finds, whatever the variable's
    rule_columns : {k n : ℕ} {a b : Term} → Allows w limit q d store t over k n a b → k ≤ 6 → (C : Cols) → cols G C b ≡ cols G C a
    rule_columns {k} {a = a} (by_rule _ m found _ _ _) low C = written_columns G C m ∙ ap (cols G C) (sym (matched k a found))
    rule_columns (by_past high _ _ _ _) low C = absurd (omega arith)

    pub leaves : (k n : ℕ) (a b : Term) → k ≤ 6 → core k n ≡ accepted (a, b) → Leaves n a b
    leaves k n a b low e =
        let m = applied_parts k (around G no_cols t n) (ended_at (lines t) n) a b e in
        let allows = (allows_iff w limit q d store t over k n b m.at).0 (rw (le-leb k 6 low) m.rules) in
        let here = found_inside t n a m.at in
        record {
          here = here;
          same_size = let z = none_added k low in omega (arith, allows_size w limit q d store t over k n a m.at allows);
          same_columns = rule_columns allows low;
          checked =
              (check_over_iff w limit _ d store (puts here b)).1
              (((check_over_iff w limit q d store t).0 over).0, step_checked w limit q d store t over k n a m.at b allows);
        }

    -- two nodes that are apart have no line in common
    clear_nodes : (n n' : ℕ) (a a' : Term) → ended_at (lines t) n ≡ Some a → ended_at (lines t) n' ≡ Some a' → Apart q n n' → Clear n (size a) n' (size a')
    clear_nodes n n' a a' e e' x =
        let same = split_lines_lem w limit q d store t over in
        apart_clear q n n' a a' (ap (λ (ns : List Node). ended_at ns n) same ∙ e) (ap (λ (ns : List Node). ended_at ns n') same ∙ e') x

    module _ (n : ℕ) (a b : Term) (l : Leaves n a b) (n' : ℕ) (x : Apart q n n') where
      -- the other node's term stays
      pub other_ended : ended_at (lines (puts l.here b)) n' ≡ ended_at (lines t) n'
      other_ended = same_ended l.here b l.same_size n' (λ a' e'. clear_nodes n n' a a' (inside_found l.here) e' x)

      -- and so do the columns around it: the other step finds and writes the same
      same_applied : (k' : ℕ) (o : Option Term) → ended_at (lines t) n' ≡ o → applied k' (around G no_cols (puts l.here b) n') o ≡ applied k' (around G no_cols t n') o
      same_applied k' None e = refl
      same_applied k' (Some a') e =
          let low = own_lines (found_inside t n' a' e) in
          let clear : Clear n (size a) n' 1 = elim (clear_nodes n n' a a' (inside_found l.here) e x) [
            | first c ↦ first (omega (arith, size_positive a'))
            | last c ↦ last c
          ] in
          ap (λ (C : Cols). applied k' C (Some a'))
          (around_beside G b l.same_columns l.same_size l.here no_cols n' (omega (arith, size_positive a')) clear)

      after : (k' : ℕ) → k' ≤ 6 → rewrite w limit (with_nodes q (replaced (lines t) n a b)) d store k' n'
          ≡ core k' n' >>= hand (with_nodes q (replaced (lines t) n a b)) (replaced (lines t) n a b) n'
      after k' low =
          step_applied (with_nodes q (replaced (lines t) n a b)) (puts l.here b) l.checked k' n' low
          ∙ ap₂ (λ (o : Option Term) (ns : List Node). applied k' (around G no_cols (puts l.here b) n') o >>= hand (with_nodes q (replaced (lines t) n a b)) ns n')
          other_ended (puts_lines l.here b)
          ∙ ap (λ (c : Reply Writes). c >>= hand (with_nodes q (replaced (lines t) n a b)) (replaced (lines t) n a b) n') (same_applied k' (ended_at (lines t) n') refl)

    -- after a step, accepted or not, the other finds and writes the same
    after_any : (k n k' n' : ℕ) → k ≤ 6 → k' ≤ 6 → Apart q n n'
        → rewrite w limit (sheet_after q (lines t) n (core k n)) d store k' n'
        ≡ core k' n' >>= hand (sheet_after q (lines t) n (core k n)) (lines_after (lines t) n (core k n)) n'
    after_any k n k' n' low low' x = by_core (core k n) refl
      where
        by_core : (c : Reply Writes) → core k n ≡ c
            → rewrite w limit (sheet_after q (lines t) n c) d store k' n' ≡ core k' n' >>= hand (sheet_after q (lines t) n c) (lines_after (lines t) n c) n'
        by_core (refused r) e = step_applied q t over k' n' low'
        by_core (accepted (a, b)) e = after n a b (leaves k n a b low e) n' x k' low'

    -- a step's node and lines are among the sheet's
    own : {n : ℕ} {a b : Term} → Leaves n a b → size a ≤ n
    own l = own_lines l.here

    within : {n : ℕ} {a b : Term} → Leaves n a b → n ≤ length (lines t)
    within l = omega (arith, within_lines l.here, size_lines t)

    module _ (n n' : ℕ) (a b a' b' : Term) (l : Leaves n a b) (l' : Leaves n' a' b') where
      as_long : length (replaced (lines t) n a b) ≡ length (lines t)
      as_long = replaced_length (lines t) n a b (own l) (within l) l.same_size

      both_within : n' ≤ length (replaced (lines t) n a b)
      both_within = let i = within l' in omega (arith, as_long)

      both_sets : replaced (replaced (lines t) n a b) n' a' b' ≡ sets (sets (lines t) (n - size a) (lines b)) (n' - size a') (lines b')
      both_sets =
          replaced_sets (replaced (lines t) n a b) n' a' b' (own l') both_within l'.same_size
          ∙ ap (λ (ns : List Node). sets ns (n' - size a') (lines b')) (replaced_sets (lines t) n a b (own l) (within l) l.same_size)

      -- the sheet after both
      both_sheet : with_nodes (with_nodes q (replaced (lines t) n a b)) (replaced (replaced (lines t) n a b) n' a' b')
          ≡ with_nodes q (replaced (replaced (lines t) n a b) n' a' b')
      both_sheet =
          with_again q (replaced (lines t) n a b) (replaced (replaced (lines t) n a b) n' a' b')
          (omega (arith, replaced_length (replaced (lines t) n a b) n' a' b' (own l') both_within l'.same_size))

    -- the lines of both, the first node's before the other's
    in_order : (n n' : ℕ) (a b a' b' : Term) (l : Leaves n a b) (l' : Leaves n' a' b') → n + size a' ≤ n'
        → replaced (replaced (lines t) n a b) n' a' b' ≡ replaced (replaced (lines t) n' a' b') n a b
    in_order n n' a b a' b' l l' c =
        let e = l.same_size in
        let low = own l in
        both_sets n n' a b a' b' l l'
        ∙ sets_commute (lines t) (n - size a) (lines b) (n' - size a') (lines b') (omega (arith, size_lines b))
        ∙ sym (both_sets n' n a' b' a b l' l)

    same_lines : (n n' : ℕ) (a b a' b' : Term) → Leaves n a b → Leaves n' a' b' → Clear n (size a) n' (size a')
        → replaced (replaced (lines t) n a b) n' a' b' ≡ replaced (replaced (lines t) n' a' b') n a b
    same_lines n n' a b a' b' l l' (first c) = in_order n n' a b a' b' l l' c
    same_lines n n' a b a' b' l l' (last c) = sym (in_order n' n a' b' a b l' l c)

    sheets : (k n k' n' : ℕ) → k ≤ 6 → k' ≤ 6 → Apart q n n' → (c c' : Reply Writes) → core k n ≡ c → core k' n' ≡ c'
        → sheet_after (sheet_after q (lines t) n c) (lines_after (lines t) n c) n' c' ≡ sheet_after (sheet_after q (lines t) n' c') (lines_after (lines t) n' c') n c
    sheets k n k' n' low low' x (refused r) (refused r') e e' = refl
    sheets k n k' n' low low' x (refused r) (accepted y) e e' = refl
    sheets k n k' n' low low' x (accepted y) (refused r) e e' = refl
    sheets k n k' n' low low' x (accepted (a, b)) (accepted (a', b')) e e' =
        let l = leaves k n a b low e in
        let l' = leaves k' n' a' b' low' e' in
        let clear = clear_nodes n n' a a' (inside_found l.here) (inside_found l'.here) x in
        both_sheet n n' a b a' b' l l' ∙ ap (with_nodes q) (same_lines n n' a b a' b' l l' clear) ∙ sym (both_sheet n' n a' b' a b l' l)

    pub checked_commute : (k n k' n' : ℕ) → k ≤ 6 → k' ≤ 6 → Apart q n n' → Commute w q (step_at limit d store k n) (step_at limit d store k' n')
    checked_commute k n k' n' low low' x =
        let ns = lines t in
        let s = step_applied q t over k n low in
        let s' = step_applied q t over k' n' low' in
        let l : stepped w q (step_at limit d store k n) ≡ sheet_after q ns n (core k n) = ap (handed_back q) s in
        let l' : stepped w q (step_at limit d store k' n') ≡ sheet_after q ns n' (core k' n') = ap (handed_back q) s' in
        let f = ap (λ (p : Query). rewrite w limit p d store k' n') l ∙ after_any k n k' n' low low' x in
        let f' = ap (λ (p : Query). rewrite w limit p d store k n) l' ∙ after_any k' n' k n low' low (apart_sym x) in
        record {
          first_after_lem = ap verdict f' ∙ same_verdict (core k n) n (sheet_after q ns n' (core k' n')) q (lines_after ns n' (core k' n')) ns ∙ sym (ap verdict s);
          second_after_lem = ap verdict f ∙ same_verdict (core k' n') n' (sheet_after q ns n (core k n)) q (lines_after ns n (core k n)) ns ∙ sym (ap verdict s');
          same_sheet = ap₂ handed_back l f ∙ sheets k n k' n' low low' x (core k n) (core k' n') refl refl ∙ sym (ap₂ handed_back l' f');
        }
