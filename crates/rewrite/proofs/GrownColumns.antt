-- Sets of columns that grow: one set, and what is put in.
use mathlib.Core.Path.{◌≡◌, refl, ap, sym, ◌∙◌}
use mathlib.Core.Bool.{Bool, true, false, ◌||◌}
use mathlib.Core.List.{List, [], ◌∷◌}
use Prim.Native.Nat.{ℕ, ◌<◌}
use lib.Dec.{eqb}
use lib.ListN.{length}
use Rattle.laws.specs.Lists.{when◌then◌else◌, any, member, tabulate}
use Rattle.laws.proofs.Tabulated.{length_tabulate, get_d_tabulate}
use Rattle.laws.proofs.Indexed.{is_tabulate}
use Rattle.algebra.specs.Columns.{Cols, with, both}
use Rattle.relation.specs.declared.Columns.{Columns}
use Rattle.relation.specs.Rows.{cols_of, columns_of}
use Rattle.relation.proofs.CodeRows.{held, columns_are}

or_none : (b : Bool) → b ≡ b || false
or_none true = refl
or_none false = refl

or_assoc : (a b c : Bool) → (a || b) || c ≡ a || (b || c)
or_assoc true b c = refl
or_assoc false b c = refl

if_or : (a b : Bool) → (when b then true else a) ≡ a || b
if_or true true = refl
if_or true false = refl
if_or false true = refl
if_or false false = refl

module _ (w : ℕ) where
  -- two sets that agree below the width are held alike
  pub columns_same : (D E : Cols) → ((c : ℕ) → c < w → D c ≡ E c) → columns_of w D ≡ columns_of w E
  columns_same D E e =
      ap (λ (l : List Bool). record { has = l }) (is_tabulate false E w (tabulate D w) (length_tabulate D w) λ c h. get_d_tabulate D w c false h ∙ e c h)

  -- what is held comes back
  pub columns_back : (D : Cols) (c : ℕ) → c < w → cols_of w (columns_of w D) c ≡ D c
  columns_back D c h = held w (columns_of w D) c h (get_d_tabulate D w c false h)

  -- nothing is put in
  pub grown_none : (s : Columns) → length s.has ≡ w → (E : Cols) → ((c : ℕ) → E c ≡ false) → s ≡ columns_of w (both (cols_of w s) E)
  unfolding both
  grown_none s size E e = columns_are w s size _ λ c h. or_none (cols_of w s c) ∙ ap (λ (b : Bool). cols_of w s c || b) (sym (e c))

  -- one column is
  pub grown_one : (D : Cols) (b : ℕ) (E : Cols) → ((c : ℕ) → E c ≡ eqb c b) → columns_of w (with D b) ≡ columns_of w (both D E)
  unfolding with both
  grown_one D b E e = columns_same _ _ λ c h. if_or (D c) (eqb c b) ∙ ap (λ (x : Bool). D c || x) (sym (e c))

  -- some columns are, then others
  pub grown_both : (D E F : Cols) → columns_of w (both (cols_of w (columns_of w (both D E))) F) ≡ columns_of w (both D (both E F))
  unfolding both
  grown_both D E F = columns_same _ _ λ c h. ap (λ (x : Bool). x || F c) (columns_back (both D E) c h) ∙ or_assoc (D c) (E c) (F c)

  -- what is put in as it is held
  pub grown_by : (D E : Cols) → columns_of w (both D (cols_of w (columns_of w E))) ≡ columns_of w (both D E)
  unfolding both
  grown_by D E = columns_same _ _ λ c h. ap (λ (x : Bool). D c || x) (columns_back E c h)

  -- two are
  pub grown_two : (D : Cols) (a b : ℕ) → columns_of w (with (cols_of w (columns_of w (with D a))) b) ≡ columns_of w (both D (λ c. member c (a ∷ (b ∷ []))))
  unfolding with both any
  grown_two D a b = columns_same _ _ λ c h.
      if_or (cols_of w (columns_of w (with D a)) c) (eqb c b)
      ∙ ap (λ (x : Bool). x || eqb c b) (columns_back (with D a) c h ∙ if_or (D c) (eqb c a))
      ∙ or_assoc (D c) (eqb c a) (eqb c b)
      ∙ ap (λ (x : Bool). D c || (eqb c a || x)) (or_none (eqb c b))

pub member_one : (c a : ℕ) → member c (a ∷ []) ≡ eqb c a
unfolding any
member_one c a = sym (or_none (eqb c a))
