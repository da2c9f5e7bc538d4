-- What is written of a text that begins a path is never longer than the path's lines, so code may stop as soon as it is over the limit.
use mathlib.Core.Path.{◌≡◌, refl, ap, sym, ◌∙◌, subst}
use Rattle.std.specs.Prelude.{Option, Some, None}
use mathlib.Core.List.{List, [], ◌∷◌, ◌++◌}
use Prim.Native.Nat.{ℕ, ◌+◌, ◌≤◌}
use native.Mathlib.Omega.{arith}
use lib.ListN.{length, length-append}
use Rattle.laws.specs.Options.{◌then◌}
use Rattle.laws.proofs.Options.{some_inj, none_some}
use Rattle.query.specs.declared.Node.{Node}
use Rattle.query.specs.declared.Node.TheVariants.{Table}
use Rattle.paths.specs.declared.Sign.{Sign}
use Rattle.paths.specs.declared.Sign.TheVariants.{Digit, Alternate, Follow, Invert, Repeat, Enter, Leave, Other}
use Rattle.paths.specs.Grammar.{PropertyPath, PathText}
use Rattle.paths.specs.Reader.{sign, Frame, alternatives_to, Ending, State, due, ended, ended_step, step, start, finished}
use Rattle.paths.specs.Sheets.{line_count}
use Rattle.paths.specs.Patterns.{lines_from}
use Rattle.paths.specs.Written.{outer_lines, written, path_end, kept, added}
use Rattle.paths.proofs.LineCount.{line_count_lem}
use Rattle.paths.proofs.Walks.{walk, walk_append}
use Rattle.paths.proofs.GrammarRead.{derived_read}
use Rattle.paths.proofs.ReadGrammar.{SoFar, so_due, so_ended, Operand, the_one, a_primary, an_element, outermost, framed, nothing, straight, Next, state_next, walk_next}
use Rattle.paths.proofs.Written.{Wrote, step_written, all_written}

more : (l m : List Node) → length l ≤ length (l ++ m)
more l m = omega (arith, length-append l m)

-- a byte with a next state leaves no fewer lines than there were
ended_grows : {k : Ending} (fs : List Frame) (f : Frame) {p : PropertyPath} {m : List ℕ} → Operand k m p → (x : Sign) {n : State}
    → ended_step k fs f p x ≡ Some n → length (written (ended k fs f p)) ≤ length (kept (ended k fs f p) x ++ added (ended k fs f p) x)
unfolding lines_from
ended_grows fs f the_one (Digit d) e =
    omega (arith, length-append (outer_lines (f ∷ fs)) (Table 1 ∷ []), length-append (outer_lines (f ∷ fs)) (Table (10 + d) ∷ []))
ended_grows fs f (a_primary _) (Digit d) e = none_some e
ended_grows fs f (an_element _) (Digit d) e = none_some e
ended_grows {k} fs f {p} o Alternate e = more (written (ended k fs f p)) (added (ended k fs f p) Alternate)
ended_grows {k} fs f {p} o Follow e = more (written (ended k fs f p)) (added (ended k fs f p) Follow)
ended_grows {k} fs f {p} o Invert e = more (written (ended k fs f p)) (added (ended k fs f p) Invert)
ended_grows {k} fs f {p} o Repeat e = more (written (ended k fs f p)) (added (ended k fs f p) Repeat)
ended_grows {k} fs f {p} o Enter e = more (written (ended k fs f p)) (added (ended k fs f p) Enter)
ended_grows {k} fs f {p} o Leave e = more (written (ended k fs f p)) (added (ended k fs f p) Leave)
ended_grows {k} fs f {p} o Other e = more (written (ended k fs f p)) (added (ended k fs f p) Other)

state_grows : {s : State} {l : List ℕ} → SoFar s l → (b : ℕ) {n : State} → step s b ≡ Some n → length (written s) ≤ length (written n)
unfolding step
state_grows {s} h b {n} e = rw (subst (Wrote s (sign b)) e (step_written s b)) (by_state h e)
  where
    by_state : {s : State} {l : List ℕ} → SoFar s l → step s b ≡ Some n → length (written s) ≤ length (kept s (sign b) ++ added s (sign b))
    by_state (so_due {fs = fs} {f = f} _ _) e = more (outer_lines (f ∷ fs)) (added (due fs f) (sign b))
    by_state (so_ended {fs = fs} {f = f} _ _ o) e = ended_grows fs f o (sign b) e

-- from any state on the way to p
pub walk_grows : (s : State) (l rest : List ℕ) (p : PropertyPath) → SoFar s l → (walk s rest then finished) ≡ Some p → length (written s) ≤ line_count p
unfolding walk
walk_grows s l [] p h e = by_state s e
  where
    by_state : (s : State) → finished s ≡ Some p → length (written s) ≤ line_count p
    by_state (due fs f) e = none_some e
    by_state (ended k [] f q) e =
        rw (← some_inj e, ← line_count_lem (alternatives_to f q), ← all_written k f q) (more (written (ended k [] f q)) (path_end f))
    by_state (ended k (g ∷ fs) f q) e = none_some e
walk_grows s l (b ∷ rest) p h e = by_step (step s b) refl (λ n. walk_grows n (l ++ (b ∷ [])) rest p) e
  where
    by_step : (o : Option State) → step s b ≡ o
        → ((n : State) → SoFar n (l ++ (b ∷ [])) → (walk n rest then finished) ≡ Some p → length (written n) ≤ line_count p)
        → ((o then λ n. walk n rest) then finished) ≡ Some p → length (written s) ≤ line_count p
    by_step None i more e = none_some e
    by_step (Some n) i more e =
        let k = state_grows h b i in
        let j = more n (subst (λ o. Next o (l ++ (b ∷ []))) i (state_next h b)) e in
        omega arith

pub within_whole : (text rest : List ℕ) (s : State) (p : PropertyPath) → walk start text ≡ Some s → PathText (text ++ rest) p → length (written s) ≤ line_count p
within_whole text rest s p w d =
    walk_grows s text rest p (subst (λ o. Next o text) w (walk_next start [] text (so_due outermost (framed nothing nothing straight))))
    (sym (ap (λ (o : Option State). o then finished) (walk_append start text rest ∙ ap (λ (o : Option State). o then λ n. walk n rest) w)) ∙ derived_read d)
