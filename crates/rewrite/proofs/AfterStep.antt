-- What an accepted step leaves: what it writes may be put for its node (`Swap`), at open and closed nodes alike, and the new sheet is checked with it in
-- place, within the step's node limit.
use mathlib.Core.Path.{◌≡◌, refl, ap, sym, ◌∙◌, subst}
use mathlib.Core.Bool.{Bool, true, false}
use Rattle.std.specs.Prelude.{Some}
use mathlib.Core.List.{List}
use Prim.Native.Nat.{ℕ, ◌+◌, ◌≤◌}
use native.Mathlib.Omega.{arith}
use lib.Dec.{eqb}
use lib.ListN.{length, get_or}
use borrow.Author.Tests.{ne_eqb}
use Rattle.laws.specs.Lists.{when◌then◌else◌}
use Rattle.laws.proofs.EachMember.{each_at}
use Rattle.algebra.specs.Term.{Term}
use Rattle.algebra.specs.Columns.{Cols, no_cols, Schema, size}
use Rattle.algebra.specs.WellFormed.{Closed}
use Rattle.algebra.specs.Rules.{Match, match}
use Rattle.algebra.specs.Past.{moved}
use Rattle.algebra.specs.Conditions.{OperandClosed}
use Rattle.algebra.proofs.Sizes.{size_positive}
use Rattle.algebra.proofs.Narrow.{Narrow}
use Rattle.algebra.proofs.Redex.{redex, matched}
use Rattle.algebra.proofs.Written.{written_size}
use Rattle.algebra.proofs.Conditions.{stable_iff, unused_iff, closed_iff}
use Rattle.algebra.proofs.Sound.{rule_sound}
use Rattle.algebra.proofs.PastRules.{past_found, past_adds, past_sound, moved_size}
use Rattle.algebra.proofs.Swap.{Swap, swap_sound, swap_wellformed}
use Rattle.database.specs.declared.Database.{Database}
use Rattle.database.specs.Stored.{schema}
use Rattle.database.specs.Refusals.{accepted}
use Rattle.query.specs.declared.Node.{Node}
use Rattle.query.specs.declared.Node.TheVariants.{Table}
use Rattle.query.specs.declared.Query.{Query}
use Rattle.query.specs.Lines.{on_form, lines}
use Rattle.query.specs.Check.{check_over}
use Rattle.query.proofs.Reading.{flat, size_lines}
use Rattle.query.proofs.CheckReply.{CheckedSplit}
use Rattle.query.proofs.CheckedTerms.{term_formed, well_checked}
use Rattle.query.proofs.CheckedOver.{check_over_iff}
use Rattle.query.proofs.NodeLimits.{few_checked}
use Rattle.query.proofs.SplitSheet.{lines_back}
use Rattle.rewrite.specs.Rewrite.{around, ended_at, replaced, with_nodes}
use Rattle.rewrite.proofs.OnForm.{OnForm, form_append, form_split, form_index, form_at, form_written, form_moved}
use Rattle.rewrite.proofs.NodeParts.{part_narrow, part_closed, around_narrow}
use Rattle.rewrite.proofs.RewriteExact.{Room, Allows, by_rule, by_past}
use Rattle.rewrite.proofs.Inside.{Inside, puts, Place, place, puts_lines, puts_more, found_inside}
use Rattle.rewrite.proofs.SwapInside.{swap_inside}

-- what a kind adds: "Kind 7 adds a node", the others none
abbrev pub added : ℕ → ℕ
added k = when eqb k 7 then 1 else 0

pub none_added : (k : ℕ) → k ≤ 6 → added k ≡ 0
none_added k h = rw (ne_eqb k 7 (λ e. omega arith))

module _ (w limit : ℕ) (q : Query) (d : Database) (store : List ℕ) (t : Term) (over : check_over w limit q d store ≡ accepted t) (k n : ℕ)
    (a : Term) (e : ended_at (lines t) n ≡ Some a) where
  abbrev G : Schema
  G = schema w d

  abbrev C : Cols
  C = around G no_cols t n

  checked_now : CheckedSplit limit q G t
  checked_now = ((check_over_iff w limit q d store t).0 over).1

  -- at an open node no step of kinds 1 to 6 is accepted
  pub node_closed : (m : Match) → match k a ≡ Some m → OperandClosed m → Closed G a
  node_closed m found shut = part_closed w limit q d store t over n a e k m found ((closed_iff m).1 shut)

  -- what a rule writes may be put for its node
  pub allows_swap : {b : Term} → Allows w limit q d store t over k n a b → Swap G C a b
  allows_swap (by_rule i m found h g j) =
      let narrow = part_narrow w limit q d store t over n a e in
      let below = around_narrow w limit q d store t over n in
      let r : Narrow G (redex m) = subst (Narrow G) (matched k a found) narrow in
      let p = node_closed m found j in
      swap_sound p (rule_sound p narrow k _ m found ((stable_iff G _ below m r).1 h) ((unused_iff G _ below m r).1 g))
  allows_swap (by_past i m found h g) = subst (λ (x : Term). Swap G C x (moved m)) (sym (past_found k a found)) (past_sound G C m g)

  -- its lines are on the form
  allows_form : {b : Term} → Allows w limit q d store t over k n a b → OnForm w (lines a) → OnForm w (lines b)
  allows_form (by_rule i m found h g j) f = form_written m (subst (λ (x : Term). OnForm w (lines x)) (matched k a found) f)
  allows_form (by_past i m found h g) f = form_moved m (subst (λ (x : Term). OnForm w (lines x)) (past_found k a found) f)

  -- what is written is larger by that much
  pub allows_size : {b : Term} → Allows w limit q d store t over k n a b → size b ≡ size a + added k
  allows_size (by_rule i m found h g j) = let f = written_size m ∙ ap size (sym (matched k a found)) in let z = none_added k i in omega arith
  allows_size (by_past i m found h g) = rw (past_found k a found, ← past_adds k a found) (moved_size m)

  -- and there is room for it
  allows_room : {b : Term} → Allows w limit q d store t over k n a b → size t + added k ≤ limit
  allows_room (by_rule i m found h g j) = let z = none_added k i in omega (arith, few_checked w limit q d store t over)
  allows_room (by_past i m found h g) = by_test (eqb k 7) (λ j. h (past_adds k a found ∙ j))
    where
      by_test : (adds : Bool) → (adds ≡ true → Room w limit q d store t over k n) → size t + (when adds then 1 else 0) ≤ limit
      by_test true room = let less = room refl in omega arith
      by_test false room = omega (arith, few_checked w limit q d store t over)

  module _ (b : Term) (allows : Allows w limit q d store t over k n a b) where
    abbrev here : Inside a n t
    here = found_inside t n a e

    abbrev at : Place here
    at = place here

    pub step_swap : Swap G no_cols t (puts here b)
    step_swap = swap_inside G no_cols here b (allows_swap allows)

    -- how many lines there are then
    pub step_length : length (replaced (lines t) n a b) ≡ size t + added k
    step_length = omega (arith, ap length (puts_lines here b), size_lines (puts here b), puts_more here b, allows_size allows)

    form : OnForm w (lines (puts here b))
    form =
        let p = at.at in
        let all : OnForm w (lines t) = form_index (lines t) (Table 0) (λ i h. each_at _ (Table 0) (lines t) (term_formed checked_now) i h) in
        let (front, rest) = form_split (flat p.stack) (subst (OnForm w) p.whole all) in
        let (own, after) = form_split (lines a) rest in
        subst (OnForm w) (sym (at.changed b)) (form_append front (form_append (allows_form allows own) after))

    -- the rule's sheet is checked again
    pub step_checked : CheckedSplit limit (with_nodes q (replaced (lines t) n a b)) G (puts here b)
    step_checked =
        let ns = replaced (lines t) n a b in
        let now : ns ≡ lines (puts here b) = sym (puts_lines here b) in
        well_checked (record {
          in_range_lem = (omega (arith, step_length, size_positive t), omega (arith, step_length, allows_room allows));
          on_form_lem = λ i h. subst (λ (l : List Node). on_form w (get_or l i (Table 0)) ≡ true) (sym (lines_back q ns ∙ now)) (form_at form (Table 0) i (omega (arith, ap length now)));
          written = lines_back q ns ∙ now;
          well_formed = swap_wellformed step_swap checked_now.well_formed;
        })
