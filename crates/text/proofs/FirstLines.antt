-- Texts whose first lines are the same.
use mathlib.Core.Path.{◌≡◌, refl, ap, sym, ◌∙◌}
use mathlib.Core.Bool.{false}
use Rattle.std.specs.Prelude.{Option, Some, None}
use mathlib.Core.List.{List, [], ◌∷◌, ◌++◌}
use Prim.Native.Nat.{ℕ, zero, suc, ◌+◌, ◌≤◌}
use native.Mathlib.Nat.{not-suc-le-zero, le_of_suc-le-suc}
use native.Mathlib.Omega.{arith}
use Rattle.laws.specs.Lists.{null}
use Rattle.laws.proofs.Options.{some_inj, none_some}
use Rattle.laws.proofs.Lists.{count, count_append, count_head}
use Rattle.text.specs.Numbers.{newline}
use Rattle.text.specs.Lines.{first_line}
use Rattle.text.specs.Texts.{line_text}
use Rattle.text.proofs.FirstBad.{first_lines}
use Rattle.text.proofs.FirstLine.{first_line_lem, line_first}

-- two texts whose first lines are the same both have no whole line, or the same first one
pub data SameFirst (k : ℕ) (s t : List ℕ) : Type 0 where
  no_line : first_line s ≡ None → first_line t ≡ None → SameFirst k s t
  same_line : (l r q : List ℕ) → first_line s ≡ Some (l, r) → first_line t ≡ Some (l, q) → first_lines k r ≡ first_lines k q → SameFirst k s t

lines_none : (k : ℕ) (s : List ℕ) → first_line s ≡ None → first_lines (suc k) s ≡ s
unfolding first_lines
lines_none k s e = rw (e, first_lines)

pub lines_some : (k : ℕ) (s l r : List ℕ) → first_line s ≡ Some (l, r) → first_lines (suc k) s ≡ line_text l ++ first_lines k r
unfolding first_lines
lines_some k s l r e = rw (e, first_lines)

abbrev shortened : ℕ → Option (List ℕ × List ℕ) → Option (List ℕ × List ℕ)
shortened k None = None
shortened k (Some p) = Some (p.0, first_lines k p.1)

-- a text's first line is that of its first lines
first_again : (k : ℕ) (s : List ℕ) → first_line (first_lines (suc k) s) ≡ shortened k (first_line s)
first_again k s = by_line (first_line s) refl
  where
    by_line : (o : Option (List ℕ × List ℕ)) → first_line s ≡ o → first_line (first_lines (suc k) s) ≡ shortened k o
    by_line None e = rw (lines_none k s e) e
    by_line (Some p) e = rw (lines_some k s p.0 p.1 e) (first_line_lem p.0 (first_lines k p.1) (line_first s p e).1)

pub same_first : (k : ℕ) (s t : List ℕ) → first_lines (suc k) s ≡ first_lines (suc k) t → SameFirst k s t
same_first k s t e = by_lines (first_line s) (first_line t) refl refl (sym (first_again k s) ∙ ap first_line e ∙ first_again k t)
  where
    by_lines : (o p : Option (List ℕ × List ℕ)) → first_line s ≡ o → first_line t ≡ p → shortened k o ≡ shortened k p → SameFirst k s t
    by_lines None None f g e = no_line f g
    by_lines None (Some p) f g e = none_some e
    by_lines (Some o) None f g e = none_some (sym e)
    by_lines (Some o) (Some p) f g e =
        let q = some_inj e in
        same_line o.0 o.1 p.1 f (g ∙ ap (λ l. Some (l, p.1)) (sym (ap (λ x. x.0) q))) (ap (λ x. x.1) q)

-- only the empty text has the first lines of the empty text
pub no_lines : (k : ℕ) (s : List ℕ) → first_lines (suc k) s ≡ first_lines (suc k) [] → s ≡ []
unfolding first_line
no_lines k s e = by_first (same_first k s [] e)
  where
    by_first : SameFirst k s [] → s ≡ []
    by_first (no_line f g) = sym (lines_none k s f) ∙ e ∙ lines_none k [] g
    by_first (same_line l r q f g h) = none_some g

-- texts whose first lines are the same have the same fewer first lines
pub fewer_lines : (j k : ℕ) (s t : List ℕ) → j ≤ k → first_lines k s ≡ first_lines k t → first_lines j s ≡ first_lines j t
unfolding first_lines
fewer_lines zero k s t h e = refl
fewer_lines (suc j) zero s t h e = absurd (not-suc-le-zero h)
fewer_lines (suc j) (suc k) s t h e = by_first (same_first k s t e) (fewer_lines j k)
  where
    by_first : SameFirst k s t → ((r q : List ℕ) → j ≤ k → first_lines k r ≡ first_lines k q → first_lines j r ≡ first_lines j q)
        → first_lines (suc j) s ≡ first_lines (suc j) t
    by_first (no_line f g) i = lines_none j s f ∙ sym (lines_none k s f) ∙ e ∙ lines_none k t g ∙ sym (lines_none j t g)
    by_first (same_line l r q f g p) i =
        lines_some j s l r f ∙ ap (λ x. line_text l ++ x) (i r q (le_of_suc-le-suc h) p) ∙ sym (lines_some j t l q g)

line_filled : (l r : List ℕ) → null (line_text l ++ r) ≡ false
line_filled [] r = refl
line_filled (b ∷ l) r = refl

pub first_null : (k : ℕ) (s : List ℕ) → null (first_lines (suc k) s) ≡ null s
first_null k s = by_line (first_line s) refl
  where
    by_line : (o : Option (List ℕ × List ℕ)) → first_line s ≡ o → null (first_lines (suc k) s) ≡ null s
    by_line None e = ap null (lines_none k s e)
    by_line (Some p) e =
        ap null (lines_some k s p.0 p.1 e) ∙ line_filled p.0 (first_lines k p.1)
        ∙ sym (ap null (line_first s p e).0 ∙ line_filled p.0 p.1)

-- a line is one of the text's, and the others are those of the rest
pub lines_count : (s l r : List ℕ) → first_line s ≡ Some (l, r) → count newline r + 1 ≤ count newline s
lines_count s l r e =
    rw (line_first s (l, r) e).0
    (let a = count_append newline (line_text l) r in
    let b = count_append newline l (newline ∷ []) in
    let c = count_head newline [] in
    omega arith)
