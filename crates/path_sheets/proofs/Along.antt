-- Along an accepted text: what is kept is the reader's state's, and the bytes left lead from there to the path. So the lines are the path's, or too many.
use mathlib.Core.Path.{◌≡◌, refl, ap, sym, ◌∙◌, subst}
use mathlib.Core.Bool.{Bool}
use Rattle.std.specs.Prelude.{Some, None, Ok, Err}
use mathlib.Core.List.{List, [], ◌∷◌, ◌++◌}
use Prim.Native.Nat.{ℕ, ◌+◌, ◌≤◌, ◌<◌}
use native.Mathlib.Omega.{arith}
use lib.ListN.{length, length-append, drop, get_or, drop_of_length-le}
use Rattle.laws.proofs.Fronts.{drop_next}
use native.Mathlib.Decide.{dec_lt}
use borrow.Author.Tests.{le-leb, lt-leb}
use Rattle.laws.specs.Options.{◌then◌}
use Rattle.laws.proofs.Options.{some_inj, none_some}
use Rattle.database.specs.declared.Refusal.TheVariants.{NodeCount}
use Rattle.database.specs.Refusals.{accepted, require, ◌>>=◌}
use Rattle.query.specs.Lines.{node_limit}
use Rattle.text.specs.Replies.{query_reply}
use Rattle.paths.specs.Grammar.{PropertyPath, name, opening}
use Rattle.paths.specs.Reader.{sign, Frame, Ending, name-one, State, due, ended, step, finished, path_limit, read_path}
use Rattle.paths.specs.Sheets.{path_lines, line_count, lines_within}
use Rattle.paths.specs.Written.{written}
use Rattle.paths.proofs.LineCount.{line_count_lem}
use Rattle.paths.proofs.Walks.{walk, read_next}
use Rattle.paths.proofs.ReadGrammar.{Outer, outermost, inside, framed, nothing, straight, Operand, the_one, a_primary, an_element, SoFar, so_due, so_ended, Next, state_next}
use Rattle.paths.proofs.PathRead.{path_walked}
use Rattle.paths.proofs.WithinWhole.{walk_grows}
use Rattle.path_sheets.specs.declared.Sheet.{Sheet}
use Rattle.path_sheets.specs.declared.Writing.{Writing}
use Rattle.path_sheets.specs.Put.{put_all, path_last}
use Rattle.path_sheets.specs.BySign.{no_writing, by_sign}
use Rattle.path_sheets.proofs.PutLines.{fitting, fits, too_long}
use Rattle.path_sheets.proofs.KeptOf.{frames_of, Writes, One, writes_start}
use Rattle.path_sheets.proofs.Writes.{writes_over, writes_some, writes_next, writes_end}

-- each open parenthesis is a byte
open_few : {fs : List Frame} {k : List ℕ} → Outer fs k → length fs ≤ length k
open_few outermost = omega arith
open_few (inside {k = k} {l = l} o h) = omega (arith, length-append k (l ++ (opening ∷ [])), length-append l (opening ∷ []), open_few o)

depth_few : {s : State} {l : List ℕ} → SoFar s l → length (frames_of s) ≤ length l
depth_few (so_due {k = k} {l = l} o h) = omega (arith, length-append k l, open_few o)
depth_few (so_ended {k = k} {l = l} {m = m} o h q) = omega (arith, length-append k (l ++ m), open_few o)

one_operand : {k : Ending} {m : List ℕ} {p : PropertyPath} → Operand k m p → k ≡ name-one → p ≡ name 1
one_operand the_one e = refl
one_operand (a_primary d) e = let z : ◌≡◌ {A = ℕ} 0 1 = cc in let w : ⊥ = omega arith in absurd w
one_operand (an_element d) e = let z : ◌≡◌ {A = ℕ} 0 1 = cc in let w : ⊥ = omega arith in absurd w

one_name : {s : State} {l : List ℕ} → SoFar s l → One s
one_name (so_due o h) = tt
one_name (so_ended o h q) = one_operand q

-- after i bytes of a text that is read to p
pub record Along (limit : ℕ) (p : PropertyPath) (w : Writing) (i : ℕ) (rest : List ℕ) : Type 0 where
  pub state : State
  pub front : List ℕ
  pub so_far : SoFar state front
  pub long : length front ≡ i
  pub ends : (walk state rest then finished) ≡ Some p
  pub writes : Writes limit w state

pub along_start : (limit : ℕ) (text : List ℕ) (p : PropertyPath) → read_path path_limit text ≡ accepted p → Along limit p (no_writing limit) 0 text
along_start limit text p e =
    record {
      state = _;
      front = [];
      so_far = so_due outermost (framed nothing nothing straight);
      long = refl;
      ends = path_walked path_limit text p e;
      writes = writes_start limit;
    }

-- in a turn: the byte at hand and the bytes behind it
pub in_turn : (text : List ℕ) {limit i : ℕ} {p : PropertyPath} {w : Writing} → Along limit p w i (drop i text) → i < length text
    → Along limit p w i (get_or text i 0 ∷ drop (i + 1) text)
in_turn text {limit} {i} {p} {w} a h = subst (Along limit p w i) (drop_next text i 0 h) a

-- behind the last byte
pub behind_all : (text : List ℕ) {limit i : ℕ} {p : PropertyPath} {w : Writing} → Along limit p w i (drop i text) → length text ≤ i → Along limit p w i []
behind_all text {limit} {i} {p} {w} a h = subst (Along limit p w i) (drop_of_length-le text h) a

module _ (limit : ℕ) (low : limit ≤ node_limit) (p : PropertyPath) where
  module _ (w : Writing) (i b : ℕ) (rest : List ℕ) (h : Along limit p w i (b ∷ rest)) (short : i < path_limit) where
    next_state : (n : State) × (step h.state b ≡ Some n) × ((walk n rest then finished) ≡ Some p)
    next_state = read_next h.state b rest h.ends

    shallow : length (frames_of h.state) < path_limit
    shallow = let e = h.long in omega (arith, depth_few h.so_far)

    module _ (n : State) (e : step h.state b ≡ Some n) (f : (walk n rest then finished) ≡ Some p) where
      next_so_far : SoFar n (h.front ++ (b ∷ []))
      next_so_far = subst (λ o. Next o (h.front ++ (b ∷ []))) e (state_next h.so_far b)

      next_over : by_sign w (sign b) ≡ None → limit < line_count p
      next_over o =
          elim (dec_lt limit (length (written n))) [
            | yes k ↦ let m = walk_grows n (h.front ++ (b ∷ [])) rest p next_so_far f in omega arith
            | no k ↦ let (x, g) = writes_some limit low w h.state h.writes shallow (one_name h.so_far) b n e (omega arith) in none_some (sym o ∙ g)
          ]

      next_along : {v : Writing} → by_sign w (sign b) ≡ Some v → Along limit p v (i + 1) rest
      next_along o =
          record {
            state = n;
            front = h.front ++ (b ∷ []);
            so_far = next_so_far;
            long = let e = h.long in omega (arith, length-append h.front (b ∷ []));
            ends = f;
            writes = elim (dec_lt limit (length (written n))) [
              | yes k ↦ none_some (sym (writes_over limit low w h.state h.writes shallow (one_name h.so_far) b n e k) ∙ o)
              | no k ↦ writes_next limit low w h.state h.writes shallow (one_name h.so_far) b n e (omega arith) o
            ];
          }

    -- a byte's lines find no room: the path has more
    pub along_over : by_sign w (sign b) ≡ None → limit < line_count p
    along_over = let (n, e, f) = next_state in next_over n e f

    pub along_more : {v : Writing} → by_sign w (sign b) ≡ Some v → Along limit p v (i + 1) rest
    along_more o = let (n, e, f) = next_state in next_along n e f o

  -- the last lines
  pub along_end : (w : Writing) (i : ℕ) → Along limit p w i [] → put_all w.sheet (path_last w.before) ≡ fitting limit (path_lines p)
  unfolding walk
  along_end w i h = by_state h.state h.writes h.ends
    where
      by_state : (s : State) → Writes limit w s → finished s ≡ Some p → put_all w.sheet (path_last w.before) ≡ fitting limit (path_lines p)
      by_state (due fs f) r e = none_some e
      by_state (ended k [] f q) r e = writes_end limit low r ∙ ap (λ q. fitting limit (path_lines q)) (some_inj e)
      by_state (ended k (g ∷ fs) f q) r e = none_some e

-- 2, or the sheet
module _ (limit : ℕ) (p : PropertyPath) where
  pub over_reply : limit < line_count p → Err (NodeCount 0) ≡ query_reply (lines_within limit p)
  over_reply h = ap (λ (t : Bool). query_reply (require t (NodeCount 0) >>= (λ _. accepted (path_lines p)))) (sym (lt-leb (line_count p) limit h))

  pub end_over : fitting limit (path_lines p) ≡ None → limit < line_count p
  end_over o =
      elim (dec_lt limit (line_count p)) [
        | yes k ↦ k
        | no k ↦ none_some (sym o ∙ fits limit (path_lines p) (omega (arith, line_count_lem p)))
      ]

  pub end_reply_lem : {t : Sheet} → fitting limit (path_lines p) ≡ Some t → Ok t.query ≡ query_reply (lines_within limit p)
  end_reply_lem o =
      elim (dec_lt limit (line_count p)) [
        | yes k ↦ none_some (sym (too_long limit (path_lines p) (omega (arith, line_count_lem p))) ∙ o)
        | no k ↦
            ap (λ (t : Sheet). Ok t.query) (some_inj (sym o ∙ fits limit (path_lines p) (omega (arith, line_count_lem p))))
            ∙ ap (λ (t : Bool). query_reply (require t (NodeCount 0) >>= (λ _. accepted (path_lines p)))) (sym (le-leb (line_count p) limit (omega arith)))
      ]
