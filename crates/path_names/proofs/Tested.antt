-- What is kept of the names is their verdict: of those read in the reader's state, and before a second digit of those before the name 1.
use mathlib.Core.Path.{◌≡◌, refl, ap, sym, ◌∙◌, subst}
use mathlib.Core.Bool.{Bool, true, false}
use Rattle.std.specs.Prelude.{Option, Some, None}
use mathlib.Core.List.{List, [], ◌∷◌, ◌++◌, append_assoc}
use Prim.Native.Nat.{ℕ, ◌+◌, ◌-◌, ◌≤◌, ◌<◌}
use native.Mathlib.Omega.{arith}
use lib.Dec.{eqb, leb, ltb}
use lib.ListN.{length, drop, get_or, drop_of_length-le}
use borrow.Author.Tests.{le-leb}
use Rattle.laws.specs.Lists.{when◌then◌else◌}
use Rattle.laws.specs.Options.{◌then◌}
use Rattle.laws.proofs.Tests.{true_false, and_true}
use Rattle.laws.proofs.Fronts.{drop_next}
use Rattle.laws.proofs.Options.{some_inj, none_some}
use Rattle.algebra.specs.Columns.{Schema}
use Rattle.database.specs.declared.Refusal.{Refusal}
use Rattle.database.specs.Refusals.{Verdict}
use Rattle.database.specs.Refusals.{accepted, verdict, no_fault}
use Rattle.query.specs.Passes.{first_of}
use Rattle.query.proofs.PassLoops.{first_of_faults}
use Rattle.text.specs.Numbers.{is_digit}
use Rattle.paths.specs.declared.Sign.{Sign}
use Rattle.paths.specs.declared.Sign.TheVariants.{Digit, Alternate, Follow, Invert, Repeat, Enter, Leave, Other}
use Rattle.paths.specs.Grammar.{PropertyPath, name}
use Rattle.paths.specs.Reader.{sign, Frame, frame, Ending, name-one, primary, complete, State, due, ended, due_step, ended_step, step, start, finished, path_limit, read_path}
use Rattle.paths.specs.Sheets.{names, name_faults}
use Rattle.paths.specs.NamesRead.{outer_names, names_read, names_behind}
use Rattle.paths.proofs.Signs.{Spells, sign_spells}
use Rattle.paths.proofs.NamesRead.{Met, step_names, all_names}
use Rattle.paths.proofs.Walks.{walk, read_next}
use Rattle.path_names.specs.declared.Named.{Named}
use Rattle.path_names.specs.Names.{names_verdict, name_verdict, digit_next, named_next}

module _ (G : Schema) where
  faults_append : (l m : List ℕ) → name_faults G (l ++ m) ≡ name_faults G l ++ name_faults G m
  unfolding name_faults
  faults_append [] m = refl
  faults_append (t ∷ l) m = rw (faults_append l m) (simp append_assoc)

  -- one name more
  name_more : (l : List ℕ) (t : ℕ) → first_of (names_verdict G l) (name_verdict G t) ≡ names_verdict G (l ++ (t ∷ []))
  name_more l t =
      first_of_faults (name_faults G l) (name_faults G (t ∷ []))
      ∙ ap (λ (f : List Refusal). verdict (no_fault f)) (sym (faults_append l (t ∷ [])))

  -- where a digit may follow: a first one where an operand is due, a second one behind the name 1
  abbrev Last : Named → State → Type 0
  Last n (due fs f) = n.digit ≡ false
  Last n (ended name-one fs f p) = (n.digit ≡ true) × (n.before ≡ names_verdict G (outer_names (f ∷ fs)))
  Last n (ended primary fs f p) = Unit {0}
  Last n (ended complete fs f p) = Unit {0}

  pub record Tested (n : Named) (s : State) : Type 0 where
    pub all_is : n.all ≡ names_verdict G (names_read s)
    pub last : Last n s

  pub none_tested : (n : Named) → n.all ≡ names_verdict G [] → n.digit ≡ false → Tested n start
  unfolding outer_names
  none_tested n e f = record { all_is = e; last = f }

-- a sign that is no digit
abbrev NotDigit : Sign → Type 0
NotDigit (Digit d) = ⊥
NotDigit Alternate = Unit {0}
NotDigit Follow = Unit {0}
NotDigit Invert = Unit {0}
NotDigit Repeat = Unit {0}
NotDigit Enter = Unit {0}
NotDigit Leave = Unit {0}
NotDigit Other = Unit {0}

not_digit : (b : ℕ) (x : Sign) → Spells x b → is_digit b ≡ false → NotDigit x
not_digit b (Digit d) (h, e) f =
    true_false (sym (and_true (leb 48 b) (leb b 57) (le-leb 48 b (omega arith)) (le-leb b 57 (omega arith))) ∙ f)
not_digit b Alternate h e = tt
not_digit b Follow h e = tt
not_digit b Invert h e = tt
not_digit b Repeat h e = tt
not_digit b Enter h e = tt
not_digit b Leave h e = tt
not_digit b Other h e = tt

a_digit : (b : ℕ) → is_digit b ≡ true → sign b ≡ Digit (b - 48)
unfolding sign
a_digit b e = rw e

-- behind it no name 1 has just been read
abbrev NoOne : Option State → Type 0
NoOne None = Unit {0}
NoOne (Some (due fs f)) = Unit {0}
NoOne (Some (ended name-one fs f p)) = ⊥
NoOne (Some (ended primary fs f p)) = Unit {0}
NoOne (Some (ended complete fs f p)) = Unit {0}

due_no_one : (fs : List Frame) (f : Frame) (x : Sign) → NotDigit x → NoOne (due_step fs f x)
due_no_one fs f (Digit _) h = elim h [ ]
due_no_one fs f Alternate h = tt
due_no_one fs f Follow h = tt
due_no_one fs (frame a s true) Invert h = tt
due_no_one fs (frame a s false) Invert h = tt
due_no_one fs f Repeat h = tt
due_no_one fs f Enter h = tt
due_no_one fs f Leave h = tt
due_no_one fs f Other h = tt

ended_no_one : (k : Ending) (fs : List Frame) (f : Frame) (p : PropertyPath) (x : Sign) → NotDigit x → NoOne (ended_step k fs f p x)
ended_no_one k fs f p (Digit _) h = elim h [ ]
ended_no_one k fs (frame a s i) p Alternate h = tt
ended_no_one k fs (frame a s i) p Follow h = tt
ended_no_one k fs f p Invert h = tt
ended_no_one name-one fs f p Repeat h = tt
ended_no_one primary fs f p Repeat h = tt
ended_no_one complete fs f p Repeat h = tt
ended_no_one k fs f p Enter h = tt
ended_no_one k [] f p Leave h = tt
ended_no_one k (g ∷ fs) f p Leave h = tt
ended_no_one k fs f p Other h = tt

no_one : (s : State) (b : ℕ) → NotDigit (sign b) → NoOne (step s b)
unfolding step
no_one (due fs f) b h = due_no_one fs f (sign b) h
no_one (ended k fs f p) b h = ended_no_one k fs f p (sign b) h

same_names : (s : State) (x : Sign) → NotDigit x → names_behind s x ≡ names_read s
same_names (due fs f) (Digit _) h = elim h [ ]
same_names (ended k fs f p) (Digit _) h = elim h [ ]
same_names (due fs f) Alternate h = refl
same_names (due fs f) Follow h = refl
same_names (due fs f) Invert h = refl
same_names (due fs f) Repeat h = refl
same_names (due fs f) Enter h = refl
same_names (due fs f) Leave h = refl
same_names (due fs f) Other h = refl
same_names (ended k fs f p) Alternate h = refl
same_names (ended k fs f p) Follow h = refl
same_names (ended k fs f p) Invert h = refl
same_names (ended k fs f p) Repeat h = refl
same_names (ended k fs f p) Enter h = refl
same_names (ended k fs f p) Leave h = refl
same_names (ended k fs f p) Other h = refl

-- the next state by the sign of the byte
abbrev step_of : State → Sign → Option State
step_of (due fs f) x = due_step fs f x
step_of (ended k fs f p) x = ended_step k fs f p x

step_is : (s : State) (b : ℕ) → step_of s (sign b) ≡ step s b
unfolding step
step_is (due fs f) b = refl
step_is (ended k fs f p) b = refl

module _ (G : Schema) (n : Named) where
  quiet : Named
  quiet = record { before = n.before; all = n.all; digit = false }

  quiet_last : (m : State) → NoOne (Some m) → Last G quiet m
  unfolding quiet
  quiet_last (due fs f) h = refl
  quiet_last (ended name-one fs f p) h = elim h [ ]
  quiet_last (ended primary fs f p) h = tt
  quiet_last (ended complete fs f p) h = tt

  -- a first digit
  first_tested : (fs : List Frame) (f : Frame) (d : ℕ) → Tested G n (due fs f)
      → Tested G (digit_next G n n.digit d) (ended (when eqb d 1 then name-one else primary) fs f (name d))
  unfolding outer_names names
  first_tested fs f d h = rw h.last (record { all_is = all_is; last = by_test (eqb d 1) })
    where
      all_is : first_of n.all (name_verdict G d) ≡ names_verdict G (outer_names (f ∷ fs) ++ (d ∷ []))
      all_is = ap (λ (v : Verdict). first_of v (name_verdict G d)) h.all_is ∙ name_more G (outer_names (f ∷ fs)) d

      by_test : (t : Bool) → Last G (digit_next G n false d) (ended (when t then name-one else primary) fs f (name d))
      by_test true = (refl, h.all_is)
      by_test false = tt

  -- a second digit
  second_tested : (fs : List Frame) (f : Frame) (p : PropertyPath) (d : ℕ) → Tested G n (ended name-one fs f p)
      → Tested G (digit_next G n n.digit d) (ended primary fs f (name (10 + d)))
  unfolding outer_names names
  second_tested fs f p d h = rw h.last.0
      (record {
        all_is = ap (λ (v : Verdict). first_of v (name_verdict G (10 + d))) h.last.1 ∙ name_more G (outer_names (f ∷ fs)) (10 + d);
        last = tt;
      })

  digit_tested : (s : State) (d : ℕ) {m : State} → Tested G n s → step_of s (Digit d) ≡ Some m → Tested G (digit_next G n n.digit d) m
  digit_tested (due fs f) d h e = subst (Tested G _) (some_inj e) (first_tested fs f d h)
  digit_tested (ended name-one fs f p) d {m} h e = by_test (ltb d 6) e
    where
      by_test : (t : Bool) → (when t then Some (ended primary fs f (name (10 + d))) else None) ≡ Some m → Tested G (digit_next G n n.digit d) m
      by_test true e = subst (Tested G _) (some_inj e) (second_tested fs f p d h)
      by_test false e = none_some e
  digit_tested (ended primary fs f p) d h e = none_some e
  digit_tested (ended complete fs f p) d h e = none_some e

  -- one byte more
  pub next_tested : (s : State) (b : ℕ) {m : State} → Tested G n s → step s b ≡ Some m → Tested G (named_next G n b) m
  unfolding quiet
  next_tested s b {m} h e = by_digit_lem (is_digit b) refl
    where
      by_digit_lem : (t : Bool) → is_digit b ≡ t → Tested G (when t then digit_next G n n.digit (b - 48) else quiet) m
      by_digit_lem true i = digit_tested s (b - 48) h (sym (ap (step_of s) (a_digit b i)) ∙ step_is s b ∙ e)
      by_digit_lem false i =
          let x = not_digit b (sign b) (sign_spells b) i in
          record {
            all_is = h.all_is ∙ ap (names_verdict G) (sym (same_names s (sign b) x) ∙ sym (subst (Met s (sign b)) e (step_names s b)));
            last = quiet_last m (subst NoOne e (no_one s b x));
          }

-- at the end the names are the path's
pub tested_end : (G : Schema) (n : Named) (s : State) {p : PropertyPath} → Tested G n s → finished s ≡ Some p → n.all ≡ names_verdict G (names p)
tested_end G n (due fs f) h e = none_some e
tested_end G n (ended k [] f q) h e = h.all_is ∙ ap (names_verdict G) (all_names k f q ∙ ap names (some_inj e))
tested_end G n (ended k (g ∷ fs) f q) h e = none_some e

-- what is kept behind i bytes of a path's text is a reader's state, from which the rest of the text is read to the path
abbrev pub Kept : Schema → List ℕ → Named → ℕ → Type 0
Kept G text n i =
    (p : PropertyPath) → read_path path_limit text ≡ accepted p → (s : State) × Tested G n s × ((walk s (drop i text) then finished) ≡ Some p)

module _ (G : Schema) (text : List ℕ) (n : Named) (i : ℕ) (k : Kept G text n i) where
  pub kept_more : i < length text → Kept G text (named_next G n (get_or text i 0)) (i + 1)
  kept_more h p e =
      let (s, t, r) = k p e in
      let (m, f, more) = read_next s (get_or text i 0) (drop (i + 1) text) (rw (drop_next text i 0 h) at r) in
      (m, next_tested G n s (get_or text i 0) t f, more)

  pub kept_end : i ≡ length text → (p : PropertyPath) → read_path path_limit text ≡ accepted p → n.all ≡ names_verdict G (names p)
  unfolding walk
  kept_end h p e =
      let (s, t, r) = k p e in
      tested_end G n s t (rw (drop_of_length-le text (over h)) at r)
    where
      over : i ≡ length text → length text ≤ i
      over h = omega arith
