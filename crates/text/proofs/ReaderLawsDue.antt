-- A due line read at a cursor.
use mathlib.Core.Path.{◌≡◌, refl, ap, sym, ◌∙◌, fun_ext}
use mathlib.Core.Bool.{Bool, true, false}
use Rattle.std.specs.Prelude.{Option, Some, None, Ok, Err}
use mathlib.Core.List.{List}
use Prim.Native.Nat.{ℕ, suc, ◌+◌, ◌-◌, ◌≤◌, ◌<◌}
use Prim.Native.String.{String}
use native.Mathlib.Omega.{arith}
use lib.Dec.{leb, ltb}
use lib.ListN.{length, take, drop, length-drop}
use borrow.Author.Tests.{ltb-true, ltb-false, lt-ltb, le-ltb}
use Rattle.laws.specs.Options.{mapped}
use Rattle.laws.proofs.Options.{none_some, some_inj}
use Rattle.database.specs.declared.Refusal.{Refusal}
use Rattle.database.specs.Refusals.{Reply, refused, accepted, ◌>>=◌}
use Rattle.text.specs.declared.line_reader.Cursor.{Cursor}
use Rattle.text.specs.Numbers.{bytes, newline}
use Rattle.text.specs.Lines.{Rest, whole, first_line, due, header_line, count_line, in_range, if_one}
use Rattle.text.specs.Readings.{before, numbers_behind}
use Rattle.text.specs.Cursors.{rest_at, cursor, Placed, line_end, behind_line, due_line, word_form, count_form, behind, unnumbered, start, Opened, counted, headed, opened_at}
use Rattle.text.proofs.ReaderLawsLines.{first_line_lem, no_line, found_part, found_rest, found_outside}
use Rattle.text.proofs.ReaderLawsForms.{word_form_lem, one_form}

module _ {A : Type 0} (form : List ℕ → Option A) (text : List ℕ) (c : Cursor) where
  -- where the line's end is found, the line is read by its form
  pub due_missing : (end : ℕ) → end ≡ line_end text c → length text ≤ end → due_line form text c ≡ None
  unfolding due_line
  due_missing end e h = rw (le-ltb (line_end text c) (length text) (omega arith))

  pub due_read : (end : ℕ) → end ≡ line_end text c → end < length text
      → due_line form text c ≡ mapped (λ a. (a, behind_line c end)) (form (take (end - c.at) (drop c.at text)))
  unfolding due_line
  due_read end e h = rw (lt-ltb (line_end text c) (length text) (omega arith), ← e)

  -- what a due line replies, from what is read at the cursor
  abbrev pub due_reply : (ℕ → Refusal) → Option (A × Cursor) → Reply (A × Rest)
  due_reply bad None = refused (bad c.line)
  due_reply bad (Some p) = accepted (p.0, rest_at text p.1)

  module _ (bad : ℕ → Refusal) where
    -- a line that is there, by what its form gives, and what follows it
    abbrev formed : ℕ → Option A → List ℕ → Reply (A × Rest)
    formed n None m = refused (bad n)
    formed n (Some a) m = accepted (a, record { line = n + 1; bytes = m })

    due_there : (s : Rest) (p : List ℕ × List ℕ) → first_line s.bytes ≡ Some p → due bad form s ≡ formed s.line (form p.0) p.1
    unfolding due
    due_there s p e = rw (e, due) (by_case (form p.0))
      where
        by_case : (o : Option A)
            → elim o [ None ↦ refused (bad s.line) | Some a ↦ accepted (a, record { line = s.line + 1; bytes = p.1 }) ] ≡ formed s.line o p.1
        by_case None = refl
        by_case (Some a) = refl

    due_not : (s : Rest) → first_line s.bytes ≡ None → due bad form s ≡ refused (bad s.line)
    unfolding due
    due_not s e = rw (e, due)

    formed_reply : (o : Option A) (end : ℕ) → formed c.line o (drop (end + 1) text) ≡ due_reply bad (mapped (λ a. (a, behind_line c end)) o)
    formed_reply None end = refl
    formed_reply (Some a) end = refl

    due_inside : line_end text c < length text → due bad form (rest_at text c) ≡ due_reply bad (due_line form text c)
    due_inside h =
        let rest : List ℕ = drop c.at text in
        let end : ℕ = line_end text c in
        let u : ℕ = before newline rest in
        due_there (rest_at text c) (take u rest, drop (suc u) rest) (first_line_lem rest (omega (arith, length-drop c.at text)))
        ∙ ap (λ m. formed c.line (form m) (drop (suc u) rest)) (found_part newline text c.at end refl)
        ∙ ap (formed c.line (form (take (end - c.at) rest))) (found_rest newline text c.at end refl)
        ∙ formed_reply (form (take (end - c.at) rest)) end
        ∙ ap (due_reply bad) (sym (due_read end refl h))

    due_outside : length text ≤ line_end text c → due bad form (rest_at text c) ≡ due_reply bad (due_line form text c)
    due_outside h =
        due_not (rest_at text c) (no_line (drop c.at text) (found_outside newline text c.at (line_end text c) refl h))
        ∙ ap (due_reply bad) (sym (due_missing (line_end text c) refl h))

    -- a due line is what is read at the cursor
    pub due_reply_lem : due bad form (rest_at text c) ≡ due_reply bad (due_line form text c)
    due_reply_lem = by_test (ltb (line_end text c) (length text)) refl
      where
        by_test : (t : Bool) → ltb (line_end text c) (length text) ≡ t → due bad form (rest_at text c) ≡ due_reply bad (due_line form text c)
        by_test true e = due_inside (ltb-true _ _ e)
        by_test false e = due_outside (ltb-false _ _ e)

  -- the cursor behind a due line has the next number and stands further on, within the text
  abbrev Behind : Cursor → Type 0
  Behind d = (d.line ≡ c.line + 1) × (c.at < d.at) × (d.at ≤ length text)

  pub due_behind : (p : A × Cursor) → due_line form text c ≡ Some p → Behind p.1
  due_behind p e = by_test (ltb (line_end text c) (length text)) refl
    where
      by_case : line_end text c < length text → (o : Option A) → mapped (λ a. (a, behind_line c (line_end text c))) o ≡ Some p → Behind p.1
      by_case h None q = none_some q
      by_case h (Some a) q = rw (← some_inj q) (refl, omega arith, omega arith)

      by_test : (t : Bool) → ltb (line_end text c) (length text) ≡ t → Behind p.1
      by_test true q =
          let h = ltb-true _ _ q in
          by_case h (form (take (line_end text c - c.at) (drop c.at text))) (sym (due_read (line_end text c) refl h) ∙ e)
      by_test false q = none_some (sym (due_missing (line_end text c) refl (ltb-false _ _ q)) ∙ e)

  pub due_placed : (p : A × Cursor) → due_line form text c ≡ Some p → Placed c → Placed p.1
  due_placed p e h = let (next, further, _) = due_behind p e in omega arith

  -- a line that is there has no higher number than the text has bytes
  pub due_number : (p : A × Cursor) → due_line form text c ≡ Some p → Placed c → c.line ≤ length text
  due_number p e h = let (_, further, within) = due_behind p e in omega arith

-- the header line and the lines with a count, by the bytes of their keys
pub header_form : header_line ≡ word_form (bytes "guide=1")
header_form = fun_ext (λ l. word_form_lem "guide=1" (tt {0}) l)

pub count_form_lem : (key : String) (most : ℕ) → count_line key most ≡ count_form (bytes key) most
count_form_lem key most = fun_ext (λ l. ap (in_range (λ n. leb n most)) (one_form key (λ n. n) l ∙ same (if_one (λ n. n) (numbers_behind (bytes key) l))))
  where
    same : (o : Option ℕ) → mapped (λ n. n) o ≡ o
    same None = refl
    same (Some n) = refl

-- what the lines that open a text lead to
module _ {B : Type 0} (bad : ℕ → Refusal) (key : String) (most : ℕ) (text : List ℕ) (rest : ℕ → Rest → Reply B) where
  abbrev pub opening : Reply B
  opening = do
    (_, s₁) ← due bad header_line (whole text)
    (n, s₂) ← due bad (count_line key most) s₁
    rest n s₂

  abbrev pub behind_opened : Opened → Reply B
  behind_opened (Err b) = refused (bad b.line)
  behind_opened (Ok p) = rest p.0 (rest_at text p.1)

  counted_reply : (c : Cursor) → (due bad (count_line key most) (rest_at text c) >>= (λ p. rest p.0 p.1))
      ≡ behind_opened (counted c (due_line (count_form (bytes key) most) text c))
  counted_reply c =
      ap (λ f. due bad f (rest_at text c) >>= (λ p. rest p.0 p.1)) (count_form_lem key most)
      ∙ ap (λ r. r >>= (λ p. rest p.0 p.1)) (due_reply_lem (count_form (bytes key) most) text c bad)
      ∙ by_case (due_line (count_form (bytes key) most) text c)
    where
      by_case : (o : Option (ℕ × Cursor)) → (due_reply (count_form (bytes key) most) text c bad o >>= (λ p. rest p.0 p.1)) ≡ behind_opened (counted c o)
      by_case None = refl
      by_case (Some p) = refl

  pub opening_reply : opening ≡ behind_opened (opened_at (bytes key) most text)
  opening_reply =
      ap (λ f. due bad f (rest_at text start) >>= next) header_form
      ∙ ap (λ r. r >>= next) (due_reply_lem (word_form (bytes "guide=1")) text start bad)
      ∙ by_case (due_line (word_form (bytes "guide=1")) text start)
    where
      next : Unit {0} × Rest → Reply B
      next p = due bad (count_line key most) p.1 >>= (λ q. rest q.0 q.1)

      by_case : (o : Option (Unit {0} × Cursor)) → (due_reply (word_form (bytes "guide=1")) text start bad o >>= next) ≡ behind_opened (headed (bytes key) most text o)
      by_case None = refl
      by_case (Some p) = counted_reply p.1

pub opened_placed : (key : List ℕ) (most : ℕ) (text : List ℕ) (n : ℕ) (c : Cursor) → Ok (n, c) ≡ opened_at key most text → Placed c
opened_placed key most text n c e = by_head (due_line (word_form (bytes "guide=1")) text start) refl e
  where
    by_count : (d : Cursor) → Placed d → (o : Option (ℕ × Cursor)) → due_line (count_form key most) text d ≡ o → Ok (n, c) ≡ counted d o → Placed c
    by_count d h None q e = let z : ◌≡◌ {A = ℕ} 0 1 = cc in let w : ⊥ = omega arith in absurd w
    by_count d h (Some p) q e = let y : c ≡ p.1 = cc in rw y (due_placed (count_form key most) text d p q h)

    by_head : (o : Option (Unit {0} × Cursor)) → due_line (word_form (bytes "guide=1")) text start ≡ o → Ok (n, c) ≡ headed key most text o → Placed c
    by_head None q e = let z : ◌≡◌ {A = ℕ} 0 1 = cc in let w : ⊥ = omega arith in absurd w
    by_head (Some p) q e =
        by_count p.1 (due_placed (word_form (bytes "guide=1")) text start p q (omega arith)) (due_line (count_form key most) text p.1) refl e

-- nothing is made only of nothing
pub mapped_none : {A B : Type 0} (f : A → B) (o : Option A) → None ≡ mapped f o → o ≡ None
mapped_none f None e = refl
mapped_none f (Some a) e = none_some e

-- the cursor behind a due line
pub behind_is : (o : Option (Unit {0} × Cursor)) (c : Cursor) → Some c ≡ mapped behind o → o ≡ Some (tt, c)
behind_is None c e = none_some (sym e)
behind_is (Some p) c e = ap (λ c. Some (tt, c)) (sym (some_inj e))

-- the place replied is that of the line with the next number
pub count_next : {A : Type 0} (form : List ℕ → Option A) (text : List ℕ) (c : Cursor) (n : A) (at : ℕ) → Some (n, at) ≡ mapped unnumbered (due_line form text c)
    → due_line form text c ≡ Some (n, cursor at (c.line + 1))
count_next {A} form text c n at e = by_case (due_line form text c) refl e
  where
    by_case : (o : Option (A × Cursor)) → due_line form text c ≡ o → Some (n, at) ≡ mapped unnumbered o → o ≡ Some (n, cursor at (c.line + 1))
    by_case None q e = none_some (sym e)
    by_case (Some p) q e =
        let (next, _, _) = due_behind form text c p q in
        let both : (n, at) ≡ (p.0, p.1.at) = some_inj e in
        ap (λ m. Some (p.0, cursor p.1.at m)) next ∙ ap (λ b. Some (b.0, cursor b.1 (c.line + 1))) (sym both)
