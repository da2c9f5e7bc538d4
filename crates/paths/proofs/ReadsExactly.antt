-- The reader is the grammar: it accepts exactly the texts of 1 to limit bytes that the grammar derives, with their tree, and refuses any other
-- with exactly the place of `BadPlace`. No text has two trees.
use mathlib.Core.Path.{◌≡◌, refl, ap, sym, ◌∙◌, subst, subst₂}
use mathlib.Core.Bool.{Bool, true, false}
use Rattle.std.specs.Prelude.{Option, Some, None}
use mathlib.Core.Logic.{◌↔◌}
use mathlib.Core.List.{List, [], ◌∷◌, ◌++◌, append_assoc, append-nil}
use Prim.Native.Nat.{ℕ, ◌+◌, ◌≤◌, ◌<◌}
use native.Mathlib.Omega.{arith}
use native.Mathlib.Decide.{dec_lt}
use lib.Dec.{ltb}
use lib.ListN.{length, take, drop, length-append, take-append-drop}
use lib.Seq.{take-append-le, take_at}
use borrow.Author.Tests.{ltb-true, ltb-false}
use Rattle.laws.specs.Options.{◌then◌}
use Rattle.laws.proofs.Options.{some_inj, none_some}
use Rattle.database.specs.declared.Refusal.TheVariants.{PathForm}
use Rattle.database.specs.Refusals.{Reply, refused, accepted, or_refuse}
use Rattle.paths.specs.Grammar.{PropertyPath, name, closing, PathText, IsPath, Begins}
use Rattle.paths.specs.Reader.{sign, Frame, alternatives_to, Ending, primary, State, due, ended, step, start, finished, read_on, read_path}
use Rattle.paths.proofs.Walks.{walk, walk_append}
use Rattle.paths.proofs.GrammarRead.{derived_read}
use Rattle.paths.proofs.ReadGrammar.{read_derived}
use Rattle.paths.proofs.PathReply.{Stops, no_path_so_far, past_limit, past_end, BadPlace, PathReply, off_path, a_path}

pub derives_iff_read : (text : List ℕ) (p : PropertyPath) → PathText text p ↔ ((walk start text then finished) ≡ Some p)
derives_iff_read text p = (derived_read, read_derived text p)

pub unambiguous : {text : List ℕ} {p q : PropertyPath} → PathText text p → PathText text q → p ≡ q
unambiguous c d = some_inj (sym (derived_read c) ∙ derived_read d)

-- every state can be brought to an end: by a name, if one is due, and by as many `)` as are open
ended_finishable : (fs : List Frame) (k : Ending) (f : Frame) (p : PropertyPath)
    → (rest : List ℕ) × (q : PropertyPath) × ((walk (ended k fs f p) rest then finished) ≡ Some q)
unfolding walk step sign
ended_finishable [] k f p = ([], alternatives_to f p, refl)
ended_finishable (g ∷ fs) k f p = let (rest, q, e) = ended_finishable fs primary g (alternatives_to f p) in (closing ∷ rest, q, e)

finishable : (s : State) → (rest : List ℕ) × (p : PropertyPath) × ((walk s rest then finished) ≡ Some p)
unfolding walk step sign
finishable (due fs f) = let (rest, q, e) = ended_finishable fs primary f (name 0) in (48 ∷ rest, q, e)
finishable (ended k fs f p) = ended_finishable fs k f p

-- a text read after another
read_after : (text rest : List ℕ) {o : Option State} → walk start text ≡ o → (walk start (text ++ rest) then finished) ≡ ((o then λ s. walk s rest) then finished)
read_after text rest e = ap (λ (x : Option State). x then finished) (walk_append start text rest ∙ ap (λ (x : Option State). x then λ s. walk s rest) e)

-- one byte more
walked_more : (text : List ℕ) (b : ℕ) {s : State} {o : Option State} → walk start text ≡ Some s → step s b ≡ o → walk start (text ++ (b ∷ [])) ≡ o
unfolding walk
walked_more text b {o = o} w e =
    walk_append start text (b ∷ []) ∙ ap (λ (x : Option State). x then λ n. walk n (b ∷ [])) w ∙ ap (λ (x : Option State). x then λ n. walk n []) e ∙ again o
  where
    again : (o : Option State) → (o then λ n. Some n) ≡ o
    again None = refl
    again (Some n) = refl

-- so a text that the reader walks begins a path, and one that it does not walk begins none
walked_begins : (text : List ℕ) {s : State} → walk start text ≡ Some s → Begins text
walked_begins text {s} e = let (rest, p, f) = finishable s in (rest, (p, read_derived (text ++ rest) p (read_after text rest e ∙ f)))

unwalked_stops : (text : List ℕ) → walk start text ≡ None → ¬ Begins text
unwalked_stops text e (rest, (p, d)) = none_some (sym (read_after text rest e) ∙ derived_read d)

-- a shorter text begins what a longer one does
shorter_begins : (text : List ℕ) → Begins text → (m : ℕ) → Begins (take m text)
shorter_begins text (rest, (p, d)) m = (drop m text ++ rest, (p, rw (← append_assoc (take m text) (drop m text) rest, take-append-drop m text) d))

path_begins : (text : List ℕ) → IsPath text → (m : ℕ) → Begins (take m text)
path_begins text (p, d) = shorter_begins text ([], (p, rw append-nil d))

pub path_nonempty : (text : List ℕ) {p : PropertyPath} → PathText text p → 1 ≤ length text
unfolding walk
path_nonempty [] d = none_some (derived_read d)
path_nonempty (b ∷ text) d = omega arith

module _ (limit : ℕ) where
  -- a place behind a text that begins a path, and within the limit, is the earliest
  place_after : (before rest : List ℕ) → Begins before → length before ≤ limit → Stops limit (before ++ rest) (length before + 1)
      → (IsPath (before ++ rest) → ¬ (length (before ++ rest) ≤ limit)) → BadPlace limit (before ++ rest) (length before + 1)
  place_after before rest b h s o = record { off_grammar = o; counted = omega arith; stops = s; earliest = first; begins = begins }
    where
      begins : (m : ℕ) → m < length before + 1 → Begins (take m (before ++ rest))
      begins m i = rw (take-append-le m before rest (omega arith)) (shorter_begins before b m)

      first : (m : ℕ) → 1 ≤ m → m < length before + 1 → ¬ Stops limit (before ++ rest) m
      first m i j (no_path_so_far _ n) = n (begins m j)
      first m i j past_limit = omega arith
      first m i j past_end = omega (arith, length-append before rest)

  -- the three ways to stop
  unfinished : (before : List ℕ) {s : State} → walk start before ≡ Some s → finished s ≡ None → length before ≤ limit → BadPlace limit before (length before + 1)
  unfinished before {s} w f h =
      subst (λ (l : List ℕ). BadPlace limit l (length before + 1)) (append-nil before)
      (place_after before [] (walked_begins before w) h (subst (λ (l : List ℕ). Stops limit l (length before + 1)) (sym (append-nil before)) past_end)
      (λ (p, d) _. none_some (sym f ∙ sym (ap (λ (o : Option State). o then finished) w) ∙ derived_read (rw append-nil at d))))

  too_long : (before : List ℕ) (b : ℕ) (rest : List ℕ) → Begins before → length before ≡ limit → BadPlace limit (before ++ (b ∷ rest)) (length before + 1)
  too_long before b rest i e =
      place_after before (b ∷ rest) i (omega arith) (rw e past_limit) (λ _ k. omega (arith, length-append before (b ∷ rest)))

  bad_byte : (before : List ℕ) (b : ℕ) (rest : List ℕ) {s : State} → walk start before ≡ Some s → step s b ≡ None → length before ≤ limit
      → BadPlace limit (before ++ (b ∷ rest)) (length before + 1)
  bad_byte before b rest {s} w e h =
      place_after before (b ∷ rest) (walked_begins before w) h
      (no_path_so_far (omega (arith, length-append before (b ∷ rest))) none_begun)
      (λ i _. none_begun (path_begins (before ++ (b ∷ rest)) i (length before + 1)))
    where
      so_far : take (length before + 1) (before ++ (b ∷ rest)) ≡ before ++ (b ∷ [])
      so_far = ap (take (length before + 1)) (sym (append_assoc before (b ∷ []) rest))
          ∙ take_at (before ++ (b ∷ [])) rest (length before + 1) (length-append before (b ∷ []))

      none_begun : ¬ Begins (take (length before + 1) (before ++ (b ∷ rest)))
      none_begun = rw so_far (unwalked_stops (before ++ (b ∷ [])) (walked_more before b w e))

  reply_on : (text before : List ℕ) (s : State) → walk start before ≡ Some s → length before ≤ limit
      → PathReply limit (before ++ text) (read_on limit (length before) s text)
  unfolding read_on
  reply_on [] before s w h = rw append-nil (by_finish (finished s) refl)
    where
      by_finish : (o : Option PropertyPath) → finished s ≡ o → PathReply limit before (or_refuse o (PathForm (length before + 1)))
      by_finish None e = off_path (length before + 1) (unfinished before w e h)
      by_finish (Some p) e =
          let d = read_derived before p (ap (λ (o : Option State). o then finished) w ∙ e) in a_path p d (path_nonempty before d) h
  reply_on (b ∷ text) before s w h = by_room (ltb (length before) limit) refl (λ n i j. reply_on text (before ++ (b ∷ [])) n i j)
    where
      Rest : Type 0
      Rest = (n : State) → walk start (before ++ (b ∷ [])) ≡ Some n → length (before ++ (b ∷ [])) ≤ limit
          → PathReply limit ((before ++ (b ∷ [])) ++ text) (read_on limit (length (before ++ (b ∷ []))) n text)

      by_step : length before < limit → (o : Option State) → step s b ≡ o → Rest
          → PathReply limit (before ++ (b ∷ text)) (elim o [ None ↦ refused (PathForm (length before + 1)) | Some next ↦ read_on limit (length before + 1) next text ])
      by_step k None e rest = off_path (length before + 1) (bad_byte before b text w e h)
      by_step k (Some n) e rest =
          subst₂ (λ (l : List ℕ) k. PathReply limit l (read_on limit k n text)) (append_assoc before (b ∷ []) text) (length-append before (b ∷ []))
          (rest n (walked_more before b w e) (omega (arith, length-append before (b ∷ []))))

      by_room : (t : Bool) → ltb (length before) limit ≡ t → Rest → PathReply limit (before ++ (b ∷ text)) (elim t [
        | true ↦ elim (step s b) [ None ↦ refused (PathForm (length before + 1)) | Some next ↦ read_on limit (length before + 1) next text ]
        | false ↦ refused (PathForm (length before + 1))
      ])
      by_room true e rest = by_step (ltb-true (length before) limit e) (step s b) refl rest
      by_room false e rest = let k = ltb-false (length before) limit e in off_path (length before + 1) (too_long before b text (walked_begins before w) (omega arith))

  pub path_reply : (text : List ℕ) → PathReply limit text (read_path limit text)
  unfolding walk
  path_reply text = reply_on text [] start refl (omega arith)

  pub reply_unique : {text : List ℕ} {x y : Reply PropertyPath} → PathReply limit text x → PathReply limit text y → x ≡ y
  reply_unique (off_path n h) (off_path m k) = elim (dec_lt n m) [
    | yes i ↦ absurd (k.earliest n h.counted i h.stops)
    | no i ↦ elim (dec_lt m n) [ yes j ↦ absurd (h.earliest m k.counted j k.stops) | no j ↦ let e : n ≡ m = omega arith in rw e ]
  ]
  reply_unique (off_path n h) (a_path p d i j) = absurd (h.off_grammar (p, d) j)
  reply_unique (a_path p d i j) (off_path n h) = absurd (h.off_grammar (p, d) j)
  reply_unique (a_path p d _ _) (a_path q c _ _) = ap accepted (unambiguous d c)

  pub reads_exactly : (text : List ℕ) (x : Reply PropertyPath) → (read_path limit text ≡ x) ↔ PathReply limit text x
  reads_exactly text x = ((λ e. subst (PathReply limit text) e (path_reply text)), λ h. reply_unique (path_reply text) h)
