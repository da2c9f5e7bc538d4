-- The lines of a table or an answer, as they are put column by column and row by row. w is the number of columns.
use mathlib.Core.Path.{◌≡◌, refl, ap, sym, ◌∙◌}
use mathlib.Core.Bool.{Bool, true, false}
use mathlib.Core.List.{List, [], ◌∷◌, ◌++◌, map, map-id, append_assoc, append-nil}
use Prim.Native.Nat.{ℕ, ◌+◌, ◌<◌}
use native.Mathlib.Numerals.{add-one}
use borrow.Author.Tests.{lt-ltb}
use lib.ListN.{get_or}
use Rattle.laws.specs.Lists.{when◌then◌else◌, null, sift, tabulate}
use Rattle.laws.proofs.Lists.{sift_append}
use Rattle.laws.proofs.Tabulated.{get_d_tabulate}
use Rattle.laws.proofs.EachMember.{Each, each_map}
use Rattle.algebra.specs.Columns.{Cols}
use Rattle.relation.specs.declared.Columns.{Columns}
use Rattle.relation.specs.Rows.{cols_of}
use Rattle.text.specs.Numbers.{comma, digits, comma_digits}
use Rattle.text.specs.Texts.{column_list}
use Rattle.text.proofs.ColumnLists.{columns_ascend}

-- the set's column that the code reads
pub column_read : (w : ℕ) (s : Columns) (c : ℕ) {b : Bool} → c < w → get_or s.has c false ≡ b → cols_of w s c ≡ b
column_read w s c h e = rw (lt-ltb c w h) e

module _ (D : Cols) (n : ℕ) where
  more_columns : column_list (n + 1) D ≡ column_list n D ++ (when D n then n ∷ [] else [])
  unfolding sift tabulate
  more_columns = ap (λ k. column_list k D) (add-one n) ∙ sift_append D (tabulate (λ c. c) n) (n ∷ [])

  pub columns_with : D n ≡ true → column_list (n + 1) D ≡ column_list n D ++ (n ∷ [])
  columns_with e = more_columns ∙ ap (λ b. column_list n D ++ (when b then n ∷ [] else [])) e

  pub columns_without : D n ≡ false → column_list (n + 1) D ≡ column_list n D
  columns_without e = more_columns ∙ ap (λ b. column_list n D ++ (when b then n ∷ [] else [])) e ∙ append-nil (column_list n D)

null_last : (l : List ℕ) (n : ℕ) → null (l ++ (n ∷ [])) ≡ false
null_last [] n = refl
null_last (a ∷ l) n = refl

-- a number behind others: a comma before it, if there are others
comma_more : (l : List ℕ) (n : ℕ) → comma_digits l ++ (when null l then digits n else comma ∷ digits n) ≡ comma_digits (l ++ (n ∷ []))
unfolding comma_digits
comma_more [] n = refl
comma_more (a ∷ []) n = refl
comma_more (a ∷ (b ∷ l)) n =
    append_assoc (digits a) (comma ∷ comma_digits (b ∷ l)) (comma ∷ digits n) ∙ ap (λ r. digits a ++ (comma ∷ r)) (comma_more (b ∷ l) n)

map_snoc : (f : ℕ → ℕ) (l : List ℕ) (n : ℕ) → map f (l ++ (n ∷ [])) ≡ map f l ++ (f n ∷ [])
map_snoc f [] n = refl
map_snoc f (a ∷ l) n = ap (λ r. f a ∷ r) (map_snoc f l n)

null_map : (f : ℕ → ℕ) (l : List ℕ) → null (map f l) ≡ null l
null_map f [] = refl
null_map f (a ∷ l) = refl

-- one more column's value
module _ (f : ℕ → ℕ) (D : Cols) (n : ℕ) (first : Bool) where
  pub value_there : D n ≡ true → first ≡ null (column_list n D)
      → comma_digits (map f (column_list n D)) ++ (when first then digits (f n) else comma ∷ digits (f n)) ≡ comma_digits (map f (column_list (n + 1) D))
  value_there e h =
      let l : List ℕ = column_list n D in
      ap (λ b. comma_digits (map f l) ++ (when b then digits (f n) else comma ∷ digits (f n))) (h ∙ sym (null_map f l))
      ∙ comma_more (map f l) (f n) ∙ ap comma_digits (sym (map_snoc f l n) ∙ ap (map f) (sym (columns_with D n e)))

  pub not_first : D n ≡ true → false ≡ null (column_list (n + 1) D)
  not_first e = sym (ap null (columns_with D n e) ∙ null_last (column_list n D) n)

-- values that agree below w
map_each : (f g : ℕ → ℕ) (l : List ℕ) → Each (λ c. f c ≡ g c) l → map f l ≡ map g l
map_each f g [] h = refl
map_each f g (a ∷ l) (h, k) = λ i. h i ∷ map_each f g l k i

pub same_values : (w : ℕ) (D : Cols) (f g : ℕ → ℕ) → ((c : ℕ) → c < w → f c ≡ g c) → map f (column_list w D) ≡ map g (column_list w D)
same_values w D f g h = map_each f g (column_list w D) (each_map (column_list w D) h (columns_ascend w D).0)

-- the columns' numbers, read where a row's values would be
pub numbers_read : (w : ℕ) (D : Cols) → map (λ c. get_or (tabulate (λ n. n) w) c 0) (column_list w D) ≡ column_list w D
numbers_read w D =
    same_values w D (λ c. get_or (tabulate (λ n. n) w) c 0) (λ c. c) (λ c h. get_d_tabulate (λ n. n) w c 0 h) ∙ map-id (column_list w D)
