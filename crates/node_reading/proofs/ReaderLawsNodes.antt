-- A node line by the forms of its table: one that the line has is taken, the others are passed.
use mathlib.Core.Path.{◌≡◌, refl, ap, sym, ◌∙◌}
use mathlib.Core.Bool.{true, false}
use Rattle.std.specs.Prelude.{Option, Some, None}
use mathlib.Core.List.{List, [], ◌∷◌, ◌++◌}
use Prim.Native.String.{String}
use Prim.Native.Nat.{ℕ}
use Rattle.laws.specs.Lists.{when◌then◌else◌}
use Rattle.laws.specs.Options.{mapped}
use Rattle.laws.proofs.Options.{none_some}
use Rattle.text.specs.Numbers.{bytes}
use Rattle.text.specs.Lines.{if_one, if_two, Form, word, one, two, by_form, by_forms}
use Rattle.text.specs.Readings.{is_word, paired, numbers_behind}
use Rattle.text.proofs.ReaderLawsForms.{word_form_lem, one_form, two_form}

-- the forms behind the first
abbrev pub behind : {A : Type 0} → List (Form A) → List (Form A)
behind [] = []
behind (f ∷ forms) = forms

-- a form that the line has is taken, one that it hasn't is passed
module _ {A : Type 0} (f : Form A) (forms : List (Form A)) (l : List ℕ) where
  taken : (a : A) → by_form f l ≡ Some a → by_forms (f ∷ forms) l ≡ Some a
  unfolding by_forms
  taken a e = rw (e, by_forms)

  passed : by_form f l ≡ None → by_forms (f ∷ forms) l ≡ by_forms forms l
  unfolding by_forms
  passed e = rw (e, by_forms)

module _ {A : Type 0} (key : String) (f : ℕ → A) (forms : List (Form A)) (l : List ℕ) where
  abbrev one_read : Option ℕ
  one_read = if_one (λ n. n) (numbers_behind (bytes key) l)

  pub one_taken : (n : ℕ) → Some n ≡ one_read → by_forms (one key f ∷ forms) l ≡ Some (f n)
  one_taken n e = taken (one key f) forms l (f n) (one_form key f l ∙ ap (mapped f) (sym e))

  pub one_passed : None ≡ one_read → by_forms (one key f ∷ forms) l ≡ by_forms forms l
  one_passed e = passed (one key f) forms l (one_form key f l ∙ ap (mapped f) (sym e))

module _ {A : Type 0} (key : String) (f : ℕ → ℕ → A) (forms : List (Form A)) (l : List ℕ) where
  abbrev two_read : Option (ℕ × ℕ)
  two_read = if_two paired (numbers_behind (bytes key) l)

  abbrev made : ℕ × ℕ → A
  made p = f p.0 p.1

  pub two_taken : (a b : ℕ) → Some (a, b) ≡ two_read → by_forms (two key f ∷ forms) l ≡ Some (f a b)
  two_taken a b e = taken (two key f) forms l (f a b) (two_form key f l ∙ ap (mapped made) (sym e))

  pub two_passed : None ≡ two_read → by_forms (two key f ∷ forms) l ≡ by_forms forms l
  two_passed e = passed (two key f) forms l (two_form key f l ∙ ap (mapped made) (sym e))

module _ {A : Type 0} (key : String) (a : A) (forms : List (Form A)) (l : List ℕ) where
  pub word_taken : is_word (bytes key) l ≡ true → by_forms (word key a ∷ forms) l ≡ Some a
  word_taken e = taken (word key a) forms l a (word_form_lem key a l ∙ ap (λ t. when t then Some a else None) e)

  pub word_passed : is_word (bytes key) l ≡ false → by_forms (word key a ∷ forms) l ≡ by_forms forms l
  word_passed e = passed (word key a) forms l (word_form_lem key a l ∙ ap (λ t. when t then Some a else None) e)

-- a table of forms in parts
pub part_taken : {A : Type 0} (fs gs : List (Form A)) (l : List ℕ) (a : A) → by_forms fs l ≡ Some a → by_forms (fs ++ gs) l ≡ Some a
unfolding by_forms
part_taken {A} [] gs l a e = none_some e
part_taken {A} (f ∷ fs) gs l a e = by_case (by_form f l) (part_taken fs gs l a) e
  where
    by_case : (o : Option A) → (by_forms fs l ≡ Some a → by_forms (fs ++ gs) l ≡ Some a)
        → elim o [ None ↦ by_forms fs l | Some b ↦ Some b ] ≡ Some a → elim o [ None ↦ by_forms (fs ++ gs) l | Some b ↦ Some b ] ≡ Some a
    by_case None h e = h e
    by_case (Some b) h e = e

pub part_passed : {A : Type 0} (fs gs : List (Form A)) (l : List ℕ) → by_forms fs l ≡ None → by_forms (fs ++ gs) l ≡ by_forms gs l
unfolding by_forms
part_passed {A} [] gs l e = refl
part_passed {A} (f ∷ fs) gs l e = by_case (by_form f l) (part_passed fs gs l) e
  where
    by_case : (o : Option A) → (by_forms fs l ≡ None → by_forms (fs ++ gs) l ≡ by_forms gs l)
        → ◌≡◌ {A = Option A} (elim o [ None ↦ by_forms fs l | Some b ↦ Some b ]) None → elim o [ None ↦ by_forms (fs ++ gs) l | Some b ↦ Some b ] ≡ by_forms gs l
    by_case None h e = h e
    by_case (Some b) h e = none_some (sym e)
