-- Lines by their forms: a line has a form exactly if it is what the form prints.
use mathlib.Core.Path.{◌≡◌, refl, ap, sym, ◌∙◌, subst}
use mathlib.Core.Bool.{Bool, true, false, not, ◌&&◌, ◌||◌}
use Rattle.std.specs.Prelude.{Option, Some, None}
use mathlib.Core.List.{List, [], ◌∷◌, ◌++◌}
use Prim.Native.Nat.{ℕ}
use Prim.Native.String.{String}
use lib.Dec.{eqb}
use borrow.Author.Tests.{eqb-true}
use Rattle.laws.specs.Lists.{when◌then◌else◌, null, every}
use Rattle.laws.proofs.Tests.{true_false, eqb_self, not-false}
use Rattle.laws.proofs.Options.{some_inj, none_some}
use Rattle.laws.proofs.EachMember.{each_map, each_append, every_each, SomeMember, first, later, both_true, kept}
use Rattle.text.specs.Numbers.{bytes, newline, numbers, comma_digits}
use Rattle.text.specs.Lines.{after, numbers_after, Form, word, one, two, if_empty, if_one, if_two, by_form, by_forms, in_range}
use Rattle.text.proofs.NumberLists.{AllSmall, comma_digits_without, numbers_digits, digits_numbers}
use Rattle.text.proofs.Commas.{Without}

-- a key, and what follows it
pub after_key : (key l : List ℕ) → after key (key ++ l) ≡ Some l
unfolding after
after_key [] l = refl
after_key (k ∷ key) l = rw (eqb_self k) (after_key key l)

pub key_after : (key l m : List ℕ) → after key l ≡ Some m → l ≡ key ++ m
unfolding after
key_after [] l m e = some_inj e
key_after (k ∷ key) [] m e = none_some e
key_after (k ∷ key) (b ∷ l) m e = by_test (eqb k b) refl (key_after key l m) e
  where
    by_test : (t : Bool) → eqb k b ≡ t → (after key l ≡ Some m → l ≡ key ++ m) → (when t then after key l else None) ≡ Some m → b ∷ l ≡ k ∷ (key ++ m)
    by_test true q f e = rw (eqb-true k b q, f e)
    by_test false q f e = none_some e

-- two keys differ at some byte that both have
unfoldable pub apart : List ℕ → List ℕ → Bool
apart [] l = false
apart (k ∷ key) [] = false
apart (k ∷ key) (b ∷ l) = not (eqb k b) || apart key l

pub other_key : (key other l : List ℕ) → apart key other ≡ true → after key (other ++ l) ≡ None
unfolding after apart
other_key [] other l e = true_false (sym e)
other_key (k ∷ key) [] l e = true_false (sym e)
other_key (k ∷ key) (b ∷ other) l e = by_test (eqb k b) (other_key key other l) e
  where
    by_test : (t : Bool) → (apart key other ≡ true → after key (other ++ l) ≡ None) → not t || apart key other ≡ true
        → (when t then after key (other ++ l) else None) ≡ None
    by_test true f e = f e
    by_test false f e = refl

-- numbers behind a key
pub numbers_after_lem : (key : String) (l ns : List ℕ) → null ns ≡ false → AllSmall ns → bytes key ++ comma_digits ns ≡ l → numbers_after key l ≡ Some ns
unfolding numbers_after
numbers_after_lem key l [] h s e = true_false h
numbers_after_lem key l (n ∷ ns) h s e = rw (← e) (rw (after_key (bytes key) (comma_digits (n ∷ ns)), numbers_after) (numbers_digits n ns s))

pub after_numbers : (key : String) (l ns : List ℕ) → numbers_after key l ≡ Some ns
    → (bytes key ++ comma_digits ns ≡ l) × (null ns ≡ false) × AllSmall ns
unfolding numbers_after
after_numbers key l ns e = by_rest (after (bytes key) l) refl e
  where
    by_rest : (o : Option (List ℕ)) → after (bytes key) l ≡ o → elim o [ None ↦ None | Some digits ↦ numbers digits ] ≡ Some ns
        → (bytes key ++ comma_digits ns ≡ l) × (null ns ≡ false) × AllSmall ns
    by_rest None q e = none_some e
    by_rest (Some m) q e =
        let (c, h, s) = digits_numbers m ns e in
        (ap (λ r. bytes key ++ r) c ∙ sym (key_after (bytes key) l m q), h, s)

-- no byte of a line ends it
unfoldable pub plain : List ℕ → Bool
plain l = every (λ b. not (eqb b newline)) l

pub plain_unbroken : (l : List ℕ) → plain l ≡ true → Without newline l
unfolding plain
plain_unbroken l e = each_map l (λ b. not-false (eqb b newline)) (every_each (λ b. not (eqb b newline)) l e)

pub key_numbers_unbroken : (key : String) → plain (bytes key) ≡ true → (ns : List ℕ) → Without newline (bytes key ++ comma_digits ns)
key_numbers_unbroken key p ns =
    each_append (λ b. eqb b newline ≡ false) (bytes key) (comma_digits ns) (plain_unbroken (bytes key) p) (comma_digits_without ns newline refl refl)

module _ {A : Type 0} where
  abbrev pub key_of : Form A → String
  key_of (word key a) = key
  key_of (one key f) = key
  key_of (two key f) = key

  -- what a form makes of as many numbers as it has
  abbrev pub value_of : Form A → List ℕ → Option A
  value_of (word key a) ns = if_empty a (Some ns)
  value_of (one key f) ns = if_one f (Some ns)
  value_of (two key f) ns = if_two f (Some ns)

  -- the line that a form prints for a value: its key and numbers
  pub record Prints (form : Form A) (a : A) (l : List ℕ) : Type 0 where
    pub ns : List ℕ
    pub small : AllSmall ns
    pub value : value_of form ns ≡ Some a
    pub line : bytes (key_of form) ++ comma_digits ns ≡ l

  filled_value : (g : List ℕ → Option A) (ns : List ℕ) (a : A) → g [] ≡ None → g ns ≡ Some a → null ns ≡ false
  filled_value g [] a z e = none_some (sym z ∙ e)
  filled_value g (n ∷ ns) a z e = refl

  only_word : (b a : A) (ns : List ℕ) → if_empty b (Some ns) ≡ Some a → ns ≡ []
  only_word b a [] e = refl
  only_word b a (n ∷ ns) e = none_some e

  pub form_read : (form : Form A) (a : A) (l : List ℕ) → Prints form a l → by_form form l ≡ Some a
  unfolding by_form comma_digits
  form_read (word s b) a l p =
      let nothing = only_word b a p.ns p.value in
      let whole : bytes s ++ [] ≡ l = subst (λ ns. bytes s ++ comma_digits ns ≡ l) nothing p.line in
      rw (← whole) (rw (after_key (bytes s) []) (subst (λ ns. if_empty b (Some ns) ≡ Some a) nothing p.value))
  form_read (one s f) a l p =
      rw (numbers_after_lem s l p.ns (filled_value (λ ns. if_one f (Some ns)) p.ns a refl p.value) p.small p.line) p.value
  form_read (two s f) a l p =
      rw (numbers_after_lem s l p.ns (filled_value (λ ns. if_two f (Some ns)) p.ns a refl p.value) p.small p.line) p.value

  -- a form with numbers behind its key
  behind_key : (form : Form A) (g : Option (List ℕ) → Option A) (a : A) (l : List ℕ) → g None ≡ None → ((ns : List ℕ) → g (Some ns) ≡ value_of form ns)
      → g (numbers_after (key_of form) l) ≡ Some a → Prints form a l
  behind_key form g a l z v e = by_numbers (numbers_after (key_of form) l) refl e
    where
      by_numbers : (o : Option (List ℕ)) → numbers_after (key_of form) l ≡ o → g o ≡ Some a → Prints form a l
      by_numbers None q e = none_some (sym z ∙ e)
      by_numbers (Some ns) q e =
          let (line, _, small) = after_numbers (key_of form) l ns q in
          record { ns = ns; small = small; value = sym (v ns) ∙ e; line = line }

  pub form_printed : (form : Form A) (a : A) (l : List ℕ) → by_form form l ≡ Some a → Prints form a l
  unfolding by_form comma_digits
  form_printed (word s b) a l e = by_rest (after (bytes s) l) refl e
    where
      by_rest : (o : Option (List ℕ)) → after (bytes s) l ≡ o → if_empty b o ≡ Some a → Prints (word s b) a l
      by_rest None q e = none_some e
      by_rest (Some []) q e = record { ns = []; small = tt; value = e; line = sym (key_after (bytes s) l [] q) }
      by_rest (Some (c ∷ m)) q e = none_some e
  form_printed (one s f) a l e = behind_key (one s f) (if_one f) a l refl (λ ns. refl) e
  form_printed (two s f) a l e = behind_key (two s f) (if_two f) a l refl (λ ns. refl) e

  pub prints_unbroken : (form : Form A) (a : A) (l : List ℕ) → plain (bytes (key_of form)) ≡ true → Prints form a l → Without newline l
  prints_unbroken form a l p q = subst (Without newline) q.line (key_numbers_unbroken (key_of form) p q.ns)

  -- a line behind another key doesn't have the form
  pub other_form : (form : Form A) (key l : List ℕ) → apart (bytes (key_of form)) key ≡ true → by_form form (key ++ l) ≡ None
  unfolding by_form numbers_after
  other_form (word s a) key l e = rw (other_key (bytes s) key l e)
  other_form (one s f) key l e = rw (other_key (bytes s) key l e, numbers_after)
  other_form (two s f) key l e = rw (other_key (bytes s) key l e, numbers_after)

  -- a table of forms whose keys are apart: no line has two of them
  unfoldable pub keys_apart : List (Form A) → Bool
  keys_apart [] = true
  keys_apart (f ∷ forms) = every (λ g. apart (bytes (key_of f)) (bytes (key_of g))) forms && keys_apart forms

  later_form : (f : Form A) (forms : List (Form A)) (a : A) (l : List ℕ) → every (λ g. apart (bytes (key_of f)) (bytes (key_of g))) forms ≡ true
      → SomeMember (λ g. Prints g a l) forms → by_form f l ≡ None
  unfolding every
  later_form f [] a l e x'' = elim x'' [ ]
  later_form f (g ∷ forms) a l e (first p) =
      rw (← p.line) (other_form f (bytes (key_of g)) (comma_digits p.ns) (both_true (apart (bytes (key_of f)) (bytes (key_of g))) _ e).0)
  later_form f (g ∷ forms) a l e (later p) = later_form f forms a l (both_true (apart (bytes (key_of f)) (bytes (key_of g))) _ e).1 p

  pub read_by_forms : (forms : List (Form A)) (a : A) (l : List ℕ) → keys_apart forms ≡ true → SomeMember (λ f. Prints f a l) forms
      → by_forms forms l ≡ Some a
  unfolding by_forms keys_apart
  read_by_forms [] a l e x'' = elim x'' [ ]
  read_by_forms (f ∷ forms) a l e (first p) = rw (form_read f a l p, by_forms)
  read_by_forms (f ∷ forms) a l e (later p) =
      let (others, rest) = both_true (every (λ g. apart (bytes (key_of f)) (bytes (key_of g))) forms) (keys_apart forms) e in
      rw (later_form f forms a l others p, by_forms) (read_by_forms forms a l rest p)

  pub printed_by_forms : (forms : List (Form A)) (a : A) (l : List ℕ) → by_forms forms l ≡ Some a → SomeMember (λ f. Prints f a l) forms
  unfolding by_forms
  printed_by_forms [] a l e = none_some e
  printed_by_forms (f ∷ forms) a l e = by_first (by_form f l) refl (printed_by_forms forms a l) e
    where
      by_first : (o : Option A) → by_form f l ≡ o → (by_forms forms l ≡ Some a → SomeMember (λ f. Prints f a l) forms)
          → elim o [ None ↦ by_forms forms l | Some a ↦ Some a ] ≡ Some a → SomeMember (λ f. Prints f a l) (f ∷ forms)
      by_first None q g e = later (g e)
      by_first (Some b) q g e = first (form_printed f a l (q ∙ e))

  -- a value in its range
  pub in_range_lem : (p : A → Bool) (o : Option A) (a : A) → in_range p o ≡ Some a → (o ≡ Some a) × (p a ≡ true)
  in_range_lem p None a e = none_some e
  in_range_lem p (Some b) a e = let (t, q) = kept (p b) e in (ap Some q, ap p (sym q) ∙ t)

  pub range_in : (p : A → Bool) (o : Option A) (a : A) → o ≡ Some a → p a ≡ true → in_range p o ≡ Some a
  range_in p o a e t = rw (e, t)
