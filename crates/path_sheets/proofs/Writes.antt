-- Each byte leaves what is kept the next state's, if that has room; the last lines make the path's.
use mathlib.Core.Path.{◌≡◌, refl, ap, ap₂, sym, ◌∙◌, subst}
use mathlib.Core.Bool.{Bool, true, false}
use Rattle.std.specs.Prelude.{Option, Some, None}
use mathlib.Core.List.{List, [], ◌∷◌, ◌++◌, append-nil}
use Prim.Native.Nat.{ℕ, suc, ◌+◌, ◌-◌, ◌≤◌, ◌<◌}
use native.Mathlib.Nat.{add-zero}
use native.Mathlib.Omega.{arith}
use lib.Dec.{ltb}
use lib.ListN.{length, take, get_or, set, length-append, length-set}
use lib.Seq.{take-take, take-suc-set, take_at, get_or-take, get_or_at}
use borrow.Author.Tests.{lt-leb}
use Rattle.laws.specs.Lists.{when◌then◌else◌}
use Rattle.laws.specs.Options.{mapped, present}
use Rattle.laws.proofs.Options.{some_inj}
use Rattle.query.specs.declared.Node.{Node}
use Rattle.query.specs.declared.Node.TheVariants.{Table, Var, Fix}
use Rattle.query.specs.Lines.{node_limit}
use Rattle.paths.specs.declared.Sign.{Sign}
use Rattle.paths.specs.declared.Sign.TheVariants.{Digit, Alternate, Follow, Invert, Repeat, Enter, Leave, Other}
use Rattle.paths.specs.Grammar.{PropertyPath, name, plus}
use Rattle.paths.specs.Reader.{sign, Frame, frame, fresh, sequence_to, alternatives_to, Ending, name-one, primary, complete, State, due, ended, due_step, digit_step, ended_step, step, path_limit}
use Rattle.paths.specs.Sheets.{recursions, path_lines}
use Rattle.paths.specs.Patterns.{to_middle, from_middle, lines_from}
use Rattle.paths.specs.Written.{outer_recursions, outer_lines, written, plus_end}
use Rattle.paths.proofs.Written.{Wrote, step_written, all_written, sequence_recursions, path_recursions}
use Rattle.path_sheets.specs.declared.Sheet.{Sheet}
use Rattle.path_sheets.specs.declared.Before.{Before}
use Rattle.path_sheets.specs.declared.Writing.{Writing}
use Rattle.path_sheets.specs.Put.{put_all, sequence_last, path_last, plus_lines, replaced}
use Rattle.path_sheets.specs.BySign.{no_before, due_with, ended_with, own_numbers, plus_number, by_enter, by_sign}
use Rattle.path_sheets.proofs.PutLines.{sheet_of, fitting, fits, too_long, put_one, put_all_lem, replaced_last, again_part}
use Rattle.path_sheets.proofs.Numbers.{few_own, few_outer, low_lines}
use Rattle.path_sheets.proofs.KeptOf.{frames_of, before_of, outer_of, outer_length, writing_of, Writes, One, sequence_last_lem, due_is, path_sheet}

module _ (limit : ℕ) (low : limit ≤ node_limit) where
  module _ (outer : List Before) (room : length outer ≡ path_limit) where
    -- behind a byte the next state is kept, or its lines find no room
    abbrev Told : Option Writing → State → Type 0
    Told o n = (limit < length (written n) → o ≡ None) × (length (written n) ≤ limit → (w : Writing) × (o ≡ Some w) × Writes limit w n)

    abbrev Next : State → Sign → Option State → Type 0
    Next s x None = Unit {0}
    Next s x (Some n) = Told (by_sign (writing_of limit s outer) x) n

    -- what is made of lines that were put
    told : {o : Option Sheet} (f : Sheet → Writing) (n : State) → o ≡ fitting limit (written n)
        → (length (written n) ≤ limit → Writes limit (f (sheet_of limit (written n))) n) → Told (mapped f o) n
    told f n e h =
        (λ k. ap (mapped f) (e ∙ too_long limit (written n) k), λ k. (f (sheet_of limit (written n)), ap (mapped f) (e ∙ fits limit (written n) k), h k))

    -- no more lines than before
    stays : {o : Option Writing} {w : Writing} (n : State) → length (written n) ≤ limit → o ≡ Some w → Writes limit w n → Told o n
    stays {w = w} n h e k = (λ g. let z : ⊥ = omega arith in absurd z, λ g. (w, e, k))

    -- the entries of the open parentheses stay
    held : {x : Writing} {n : State} → x ≡ writing_of limit n outer → take (length (frames_of n)) outer ≡ outer_of (frames_of n) → length (written n) ≤ limit
        → Writes limit x n
    held e i h = record { outer = outer; is = e; fits = h; inside = i; room = room }

    module _ (fs : List Frame) (inside : take (length fs) outer ≡ outer_of fs) (shallow : length fs < path_limit) where
      digit_next_lem : (k : Ending) (f : Frame) (d : ℕ) → length (outer_lines (f ∷ fs)) ≤ limit → Next (due fs f) (Digit d) (Some (ended k fs f (name d)))
      unfolding lines_from recursions
      digit_next_lem k f d h =
          let w = writing_of limit (due fs f) outer in
          told (λ (t : Sheet). ended_with w t w.numbers) (ended k fs f (name d)) (put_one limit low (outer_lines (f ∷ fs)) (Table d) h)
          (held (ap (ended_with w (sheet_of limit (written (ended k fs f (name d))))) (sym (add-zero (outer_recursions (f ∷ fs))))) inside)

      caret_next : (a s : Option PropertyPath) → length (written (due fs (frame a s false))) ≤ limit → Next (due fs (frame a s false)) Invert (Some (due fs (frame a s true)))
      unfolding outer_lines outer_recursions
      caret_next a s h = stays (due fs (frame a s true)) h refl (held refl inside h)

      enter_next : (f : Frame) → length (written (due fs f)) ≤ limit → Next (due fs f) Enter (Some (due (f ∷ fs) fresh))
      unfolding outer_lines outer_recursions outer_of
      enter_next f h =
          let w = writing_of limit (due fs f) outer in
          let e : w.sheet ≡ sheet_of limit (outer_lines (fresh ∷ (f ∷ fs))) = ap (sheet_of limit) (sym (append-nil (outer_lines (f ∷ fs)))) in
          let long : length (outer_lines (fresh ∷ (f ∷ fs))) ≤ limit = omega (arith, length-append (outer_lines (f ∷ fs)) []) in
          let n : w.numbers ≡ outer_recursions (fresh ∷ (f ∷ fs)) = omega arith in
          let d : length fs + 1 ≡ suc (length fs) = omega arith in
          let chosen : by_enter w ≡ entered (due_with w w.sheet false false) (length fs + 1) (before_of fs f) =
          ap (λ (b : Bool). when b then w else entered (due_with w w.sheet false false) (length fs + 1) (before_of fs f)) (lt-leb path_limit (length fs) shallow) in
          stays (due (f ∷ fs) fresh) long refl
          (record {
            outer = set outer (length fs) (before_of fs f);
            is = chosen ∙ ap (λ (t : Sheet). entered (due_with w t false false) (length fs + 1) (before_of fs f)) e
                ∙ ap₂ (λ (x : Writing) k. entered x k (before_of fs f)) (due_is limit w (f ∷ fs) None None n) d;
            fits = long;
            inside = take-suc-set outer (length fs) (before_of fs f) (omega arith) ∙ ap (λ (l : List Before). l ++ (before_of fs f ∷ [])) inside;
            room = length-set outer (length fs) (before_of fs f) ∙ room;
          })
        where
          entered : Writing → ℕ → Before → Writing
          entered x k b = record { sheet = x.sheet; numbers = x.numbers; ended = x.ended; before = x.before; depth = k; outer = set x.outer (length fs) b }

      due_next_lem : (f : Frame) → length (written (due fs f)) ≤ limit → (x : Sign) → Next (due fs f) x (due_step fs f x)
      due_next_lem f h (Digit d) = digit_next_lem _ f d h
      due_next_lem f h Alternate = tt
      due_next_lem f h Follow = tt
      due_next_lem (frame a s true) h Invert = tt
      due_next_lem (frame a s false) h Invert = caret_next a s h
      due_next_lem f h Repeat = tt
      due_next_lem f h Enter = enter_next f h
      due_next_lem f h Leave = tt
      due_next_lem f h Other = tt

      -- behind an operand
      module _ (k : Ending) (a s : Option PropertyPath) (i : Bool) (p : PropertyPath) (fits : length (written (ended k fs (frame a s i) p)) ≤ limit) where
        abbrev f : Frame
        f = frame a s i

        abbrev w : Writing
        w = writing_of limit (ended k fs f p) outer

        bar_next : Wrote (ended k fs f p) Alternate (ended_step k fs f p Alternate) → Next (ended k fs f p) Alternate (ended_step k fs f p Alternate)
        unfolding outer_recursions
        bar_next e =
            told (λ (t : Sheet). due_with w t true false) (due fs (frame (Some (alternatives_to f p)) None false)) (path_sheet limit low k fs f p _ fits e)
            (held (due_is limit w fs (Some (alternatives_to f p)) None (omega (arith, path_recursions f p))) inside)

        slash_next : Wrote (ended k fs f p) Follow (ended_step k fs f p Follow) → Next (ended k fs f p) Follow (ended_step k fs f p Follow)
        unfolding outer_recursions
        slash_next e =
            told (λ (t : Sheet). due_with w t (present a) true) (due fs (frame a (Some (sequence_to f p)) false))
            (put_all_lem limit low (written (ended k fs f p)) (sequence_last w.before ++ to_middle) fits
            ∙ ap (λ (m : List Node). fitting limit (written (ended k fs f p) ++ (m ++ to_middle))) (sequence_last_lem fs f) ∙ ap (fitting limit) (sym e))
            (held (due_is limit w fs a (Some (sequence_to f p)) (omega (arith, sequence_recursions f p))) inside)

        -- the recursions so far are few
        few : outer_recursions (f ∷ fs) + recursions p ≤ node_limit
        few = omega (arith, length-append (outer_lines (f ∷ fs)) (lines_from (outer_recursions (f ∷ fs)) p), few_outer (f ∷ fs), few_own (outer_recursions (f ∷ fs)) p)

        plus_lines_lem : plus_lines w.sheet.query w.before.first (own_numbers w) (plus_number w) ≡ plus_end (outer_recursions (f ∷ fs)) p
        plus_lines_lem =
            let n = outer_recursions (f ∷ fs) in
            let r = recursions p in
            let o = outer_lines (f ∷ fs) in
            let m = lines_from n p in
            let h = few in
            let own : own_numbers w ≡ r = omega arith in
            let own_number_lem : plus_number w ≡ n + (r + r) = omega arith in
            let again = again_part o m r (omega arith) ∙ low_lines r n p h in
            ap₂ (λ j v. plus_lines w.sheet.query (length o) j v) own own_number_lem
            ∙ ap (λ (l : List Node). Var (n + (r + r)) ∷ (to_middle ++ (l ++ (from_middle ++ (Fix (n + (r + r)) ∷ []))))) again

        plus_next : Wrote (ended k fs f p) Repeat (Some (ended complete fs f (plus p))) → Next (ended k fs f p) Repeat (Some (ended complete fs f (plus p)))
        unfolding recursions
        plus_next e =
            let h = few in
            let n : plus_number w + 1 ≡ outer_recursions (f ∷ fs) + recursions (plus p) = omega arith in
            told (λ (t : Sheet). ended_with w t (plus_number w + 1)) (ended complete fs f (plus p))
            (put_all_lem limit low (written (ended k fs f p)) (plus_lines w.sheet.query w.before.first (own_numbers w) (plus_number w)) fits
            ∙ ap (λ (m : List Node). fitting limit (written (ended k fs f p) ++ m)) plus_lines_lem ∙ ap (fitting limit) (sym e))
            (held (ap (ended_with w (sheet_of limit (written (ended complete fs f (plus p))))) n) inside)

        -- a second digit behind the name 1
        teen_next : p ≡ name 1 → (d : ℕ) → Next (ended k fs f p) (Digit d) (Some (ended primary fs f (name (10 + d))))
        unfolding lines_from recursions
        teen_next e d =
            let n = outer_recursions (f ∷ fs) in
            let o = outer_lines (f ∷ fs) in
            let short : length (o ++ lines_from n (name 1)) ≤ limit = subst (λ q. length (o ++ lines_from n q) ≤ limit) e fits in
            let long : length (o ++ (Table (10 + d) ∷ [])) ≤ limit = omega (arith, length-append o (Table 1 ∷ []), length-append o (Table (10 + d) ∷ [])) in
            let t =
            ap (λ q. replaced (sheet_of limit (o ++ lines_from n q)) (length o) (Table (10 + d))) e
            ∙ replaced_last limit low o (Table 1) (Table (10 + d)) (omega (arith, length-append o (Table 1 ∷ []))) in
            stays (ended primary fs f (name (10 + d))) long refl (held (ap₂ (ended_with w) t (ap (λ q. n + recursions q) e)) inside long)

    leave_next : (g : Frame) (fs : List Frame) (inside : take (length (g ∷ fs)) outer ≡ outer_of (g ∷ fs)) (shallow : length (g ∷ fs) < path_limit)
        (k : Ending) (a s : Option PropertyPath) (i : Bool) (p : PropertyPath) → length (written (ended k (g ∷ fs) (frame a s i) p)) ≤ limit
        → Wrote (ended k (g ∷ fs) (frame a s i) p) Leave (Some (ended primary fs g (alternatives_to (frame a s i) p)))
        → Next (ended k (g ∷ fs) (frame a s i) p) Leave (Some (ended primary fs g (alternatives_to (frame a s i) p)))
    unfolding outer_of outer_recursions
    leave_next g fs inside shallow k a s i p fits e =
        let x = writing_of limit (ended k (g ∷ fs) (frame a s i) p) outer in
        let l = put_all x.sheet (path_last x.before) in
        let t = path_sheet limit low k (g ∷ fs) (frame a s i) p _ fits e in
        let m = ended primary fs g (alternatives_to (frame a s i) p) in
        let d : suc (length fs) - 1 ≡ length fs = omega arith in
        let n : x.numbers ≡ outer_recursions (g ∷ fs) + recursions (alternatives_to (frame a s i) p) = omega (arith, path_recursions (frame a s i) p) in
        let at : get_or outer (length fs) no_before ≡ before_of fs g =
        sym (get_or-take (suc (length fs)) outer (length fs) no_before (omega arith)) ∙ ap (λ (o : List Before). get_or o (length fs) no_before) inside
        ∙ get_or_at (outer_of fs) (before_of fs g) [] no_before (length fs) (outer_length fs) in
        let chosen : by_sign x Leave ≡ mapped (left x.numbers (get_or outer (suc (length fs) - 1) no_before) (suc (length fs) - 1)) l =
        ap (λ (b : Bool). when b then Some x else mapped (left x.numbers (get_or outer (suc (length fs) - 1) no_before) (suc (length fs) - 1)) l)
        (lt-leb path_limit (suc (length fs) - 1) (omega arith)) in
        subst (λ (o : Option Writing). Told o m) (sym chosen)
        (told (left x.numbers (get_or outer (suc (length fs) - 1) no_before) (suc (length fs) - 1)) m t
        (held
        (ap (λ j. left x.numbers (get_or outer j no_before) j (sheet_of limit (written m))) d
        ∙ ap (λ (b : Before). left x.numbers b (length fs) (sheet_of limit (written m))) at
        ∙ ap (λ r. left r (before_of fs g) (length fs) (sheet_of limit (written m))) n)
        (sym (take-take (length fs) (suc (length fs)) outer (omega arith)) ∙ ap (take (length fs)) inside
        ∙ take_at (outer_of fs) (before_of fs g ∷ []) (length fs) (outer_length fs))))
      where
        left : ℕ → Before → ℕ → Sheet → Writing
        left m b j y = record { sheet = y; numbers = m; ended = true; before = b; depth = j; outer = outer }

    digit_behind : (k : Ending) (fs : List Frame) (inside : take (length fs) outer ≡ outer_of fs) (shallow : length fs < path_limit)
        (a s : Option PropertyPath) (i : Bool) (p : PropertyPath) → length (written (ended k fs (frame a s i) p)) ≤ limit → (k ≡ name-one → p ≡ name 1)
        → (d : ℕ) → Next (ended k fs (frame a s i) p) (Digit d) (digit_step k fs (frame a s i) d)
    digit_behind name-one fs inside shallow a s i p fits one d = by_test (ltb d 6)
      where
        by_test : (t : Bool) → Next (ended name-one fs (frame a s i) p) (Digit d) (when t then Some (ended primary fs (frame a s i) (name (10 + d))) else None)
        by_test true = teen_next fs inside shallow name-one a s i p fits (one refl) d
        by_test false = tt
    digit_behind primary fs inside shallow a s i p fits one d = tt
    digit_behind complete fs inside shallow a s i p fits one d = tt

    ended_next : (k : Ending) (fs : List Frame) (inside : take (length fs) outer ≡ outer_of fs) (shallow : length fs < path_limit) (f : Frame) (p : PropertyPath)
        → length (written (ended k fs f p)) ≤ limit → (k ≡ name-one → p ≡ name 1) → (x : Sign) → Wrote (ended k fs f p) x (ended_step k fs f p x)
        → Next (ended k fs f p) x (ended_step k fs f p x)
    ended_next k fs inside shallow (frame a s i) p fits one (Digit d) e = digit_behind k fs inside shallow a s i p fits one d
    ended_next k fs inside shallow (frame a s i) p fits one Alternate e = bar_next fs inside shallow k a s i p fits e
    ended_next k fs inside shallow (frame a s i) p fits one Follow e = slash_next fs inside shallow k a s i p fits e
    ended_next k fs inside shallow f p fits one Invert e = tt
    ended_next name-one fs inside shallow (frame a s i) p fits one Repeat e = plus_next fs inside shallow name-one a s i p fits e
    ended_next primary fs inside shallow (frame a s i) p fits one Repeat e = plus_next fs inside shallow primary a s i p fits e
    ended_next complete fs inside shallow f p fits one Repeat e = tt
    ended_next k fs inside shallow f p fits one Enter e = tt
    ended_next k [] inside shallow f p fits one Leave e = tt
    ended_next k (g ∷ fs) inside shallow (frame a s i) p fits one Leave e = leave_next g fs inside shallow k a s i p fits e
    ended_next k fs inside shallow f p fits one Other e = tt

    state_next : (s : State) → take (length (frames_of s)) outer ≡ outer_of (frames_of s) → length (frames_of s) < path_limit → length (written s) ≤ limit → One s
        → (b : ℕ) → Next s (sign b) (step s b)
    unfolding step
    state_next (due fs f) inside shallow fits one b = due_next_lem fs inside shallow f fits (sign b)
    state_next (ended k fs f p) inside shallow fits one b = ended_next k fs inside shallow f p fits one (sign b) (step_written (ended k fs f p) b)

  -- one byte more
  module _ (w : Writing) (s : State) (h : Writes limit w s) (shallow : length (frames_of s) < path_limit) (one : One s) (b : ℕ) (n : State) (e : step s b ≡ Some n) where
    next : Next h.outer h.room s (sign b) (Some n)
    next = subst (Next h.outer h.room s (sign b)) e (state_next h.outer h.room s h.inside shallow h.fits one b)

    at : by_sign w (sign b) ≡ by_sign (writing_of limit s h.outer) (sign b)
    at = ap (λ (x : Writing). by_sign x (sign b)) h.is

    pub writes_over : limit < length (written n) → by_sign w (sign b) ≡ None
    writes_over k = at ∙ next.0 k

    pub writes_some : length (written n) ≤ limit → (v : Writing) × (by_sign w (sign b) ≡ Some v)
    writes_some k = let (x, g, y) = next.1 k in (x, at ∙ g)

    pub writes_next : {v : Writing} → length (written n) ≤ limit → by_sign w (sign b) ≡ Some v → Writes limit v n
    writes_next k q = let (x, g, y) = next.1 k in subst (λ (x : Writing). Writes limit x n) (some_inj (sym g ∙ sym at ∙ q)) y

  -- behind the last byte
  pub writes_end : {w : Writing} {k : Ending} {f : Frame} {p : PropertyPath} → Writes limit w (ended k [] f p)
      → put_all w.sheet (path_last w.before) ≡ fitting limit (path_lines (alternatives_to f p))
  writes_end {w} {k} {f} {p} h =
      ap (λ (x : Writing). put_all x.sheet (path_last x.before)) h.is ∙ path_sheet limit low k [] f p _ h.fits (sym (all_written k f p))
