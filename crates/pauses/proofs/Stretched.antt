-- A workspace holds the registers that are read from it, and nothing else, exactly if zeros stand behind the rows of each and behind the last.
use mathlib.Core.Path.{◌≡◌, ap, ap₂, sym, ◌∙◌}
use mathlib.Core.Bool.{true}
use mathlib.Core.List.{List, [], ◌∷◌, ◌++◌, flat_map}
use Prim.Native.Nat.{ℕ, zero, suc, ◌+◌, ◌-◌, ◌*◌, ◌≤◌, ◌<◌}
use native.Mathlib.Omega.{arith}
use native.Mathlib.Nat.{zero-mul, suc-mul, mul-add, mul_comm}
use lib.ListN.{length, take, drop, get_or, replicate, length-append, length-drop, length-replicate, get_or-replicate, take-append-drop}
use lib.Seq.{take-add, take_all, take-append-add, length-take-le, drop-drop, get_or-take, get_or-drop, get_or-append-add, ext_get_or}
use borrow.Author.Tests.{eqb-true, eq-eqb}
use Rattle.laws.specs.Lists.{tabulate}
use Rattle.laws.proofs.Lists.{all_below, all_true}
use Rattle.laws.proofs.Fronts.{drop_next}
use Rattle.laws.proofs.FlatMaps.{flat_map_snoc}
use Rattle.relation.specs.Rows.{entries}
use Rattle.relation.specs.Registers.{stretch, encode, workspace_of}
use Rattle.relation.proofs.Entries.{rows_of_length, entries_rows_of, entries_length}
use Rattle.relation.proofs.RowParts.{sized_each}
use Rattle.machine.specs.Machine.{Registers}
use Rattle.machine.specs.Workspace.{Holds}
use Rattle.machine.proofs.Workspaces.{holds_held}
use Rattle.pauses.specs.Places.{zeros, Room, count_at, rows_at}
use Rattle.pauses.proofs.PlaceTests.{rest_ok}

-- entries that are zero, as a part of the list
zeros_part : (ws : List ℕ) (start n : ℕ) → start + n ≤ length ws → zeros ws start n ≡ true → take n (drop start ws) ≡ replicate n 0
zeros_part ws start n room e =
    let size : length (take n (drop start ws)) ≡ n = length-take-le n (drop start ws) (omega (arith, length-drop start ws)) in
    ext_get_or 0 (take n (drop start ws)) (replicate n 0) (size ∙ sym (length-replicate n 0)) λ c h.
    let k : c < n = omega arith in
    get_or-take n (drop start ws) c 0 k ∙ get_or-drop start ws c 0 ∙ eqb-true (get_or ws (start + c) 0) 0 (all_below _ n e c k) ∙ sym (get_or-replicate n c 0 0 k)

-- a register with zeros behind its rows
module _ (w L : ℕ) (ws : List ℕ) (i : ℕ) (room : Room w L i ws) where
  abbrev start : ℕ
  start = stretch w L * i

  abbrev count : ℕ
  count = count_at w L ws i

  behind : List ℕ
  behind = drop (start + 1) ws

  rows_entries : entries (rows_at w L ws i) ≡ take (w * count) behind
  unfolding behind
  rows_entries = entries_rows_of w count behind

  pub stretch_is : count ≤ L → rest_ok w L ws i ≡ true → take (stretch w L) (drop start ws) ≡ encode w L (rows_at w L ws i)
  unfolding encode behind
  stretch_is few rest =
      let both : w * L ≡ w * count + w * (L - count) = ap (λ (n : ℕ). w * n) (omega arith) ∙ mul-add w count (L - count) in
      let long : w * count ≤ length behind = omega (arith, length-drop (start + 1) ws) in
      let size : length (entries (rows_at w L ws i)) ≡ w * count = ap length rows_entries ∙ length-take-le (w * count) behind long in
      let left : w * (L - count) ≡ w * L - length (entries (rows_at w L ws i)) = omega arith in
      ap (take (stretch w L)) (drop_next ws start 0 (omega arith))
      ∙ take-append-add (count ∷ []) behind (w * L)
      ∙ ap₂ ◌∷◌ (sym (rows_of_length w count behind)) (
      ap (λ (n : ℕ). take n behind) both ∙ take-add (w * count) (w * (L - count)) behind
      ∙ ap₂ ◌++◌ (sym rows_entries) (
      ap (take (w * (L - count))) (drop-drop (w * count) (start + 1) ws)
      ∙ zeros_part ws (start + 1 + w * count) (w * (L - count)) (omega arith) rest ∙ ap (λ (n : ℕ). replicate n 0) left
      )
      )

-- registers one behind the other, with zeros behind the last
module _ (w L : ℕ) (m : Registers) (ws : List ℕ) where
  abbrev Stretch : ℕ → Type 0
  Stretch i = take (stretch w L) (drop (stretch w L * i) ws) ≡ encode w L (m i)

  stretches : (n : ℕ) → ((i : ℕ) → i < n → Stretch i) → take (n * stretch w L) ws ≡ flat_map (encode w L) (tabulate m n)
  unfolding tabulate flat_map
  stretches zero each = rw (zero-mul (stretch w L))
  stretches (suc n) each =
      ap (λ (k : ℕ). take k ws) (suc-mul n (stretch w L)) ∙ take-add (n * stretch w L) (stretch w L) ws
      ∙ ap₂ ◌++◌ (stretches n (λ i h. each i (omega arith))) (ap (λ (k : ℕ). take (stretch w L) (drop k ws)) (mul_comm n (stretch w L)) ∙ each n (omega arith))
      ∙ flat_map_snoc (encode w L) (tabulate m n) (m n)

  pub space_is : (n : ℕ) → n * stretch w L ≤ length ws → ((i : ℕ) → i < n → Stretch i)
      → zeros ws (n * stretch w L) (length ws - n * stretch w L) ≡ true → ws ≡ workspace_of w L n m (length ws)
  unfolding workspace_of
  space_is n room each rest =
      let used : ℕ = n * stretch w L in
      let whole : drop used ws ≡ take (length ws - used) (drop used ws) = sym (take_all (length ws - used) (drop used ws) (omega (arith, length-drop used ws))) in
      sym (take-append-drop used ws) ∙ ap₂ ◌++◌ (stretches n each) (whole ∙ zeros_part ws used (length ws - used) (omega arith) rest)

-- and back
module _ {w L n : ℕ} {m : Registers} {ws : List ℕ} (h : Holds w L n m ws) where
  rows_size : (i : ℕ) → i < n → length (entries (m i)) ≡ w * length (m i)
  rows_size i l = entries_length w (m i) (sized_each w (m i) (h.wide i l))

  rest_at : (i : ℕ) → i < n → (c : ℕ) → c < w * (L - length (m i)) → get_or ws (stretch w L * i + 1 + w * length (m i) + c) 0 ≡ 0
  unfolding encode
  rest_at i l c k =
      let rows = m i in
      let start : ℕ = stretch w L * i in
      let size = rows_size i l in
      let both : w * L ≡ w * length rows + w * (L - length rows) =
      ap (λ (k : ℕ). w * k) (omega (arith, h.few i l)) ∙ mul-add w (length rows) (L - length rows) in
      let place : stretch w L * i + 1 + w * length rows + c ≡ start + (1 + (w * length rows + c)) = omega arith in
      let left : List ℕ = replicate (w * L - length (entries rows)) 0 in
      ap (λ (k : ℕ). get_or ws k 0) place
      ∙ sym (get_or-drop start ws (1 + (w * length rows + c)) 0)
      ∙ sym (get_or-take (stretch w L) (drop start ws) (1 + (w * length rows + c)) 0 (omega arith))
      ∙ ap (λ (l : List ℕ). get_or l (1 + (w * length rows + c)) 0) (holds_held h i l).is
      ∙ get_or-append-add (length rows ∷ []) (entries rows ++ left) (w * length rows + c) 0
      ∙ ap (λ (k : ℕ). get_or (entries rows ++ left) (k + c) 0) (sym size)
      ∙ get_or-append-add (entries rows) left c 0
      ∙ get_or-replicate (w * L - length (entries rows)) c 0 0 (omega arith)

  pub rest_zero : (i : ℕ) → i < n → zeros ws (stretch w L * i + 1 + w * length (m i)) (w * (L - length (m i))) ≡ true
  rest_zero i l = all_true _ _ λ c k. eq-eqb (get_or ws (stretch w L * i + 1 + w * length (m i) + c) 0) 0 (rest_at i l c k)

  behind_at : (c : ℕ) → c < length ws - n * stretch w L → get_or ws (n * stretch w L + c) 0 ≡ 0
  unfolding workspace_of
  behind_at c k =
      let used : List ℕ = flat_map (encode w L) (tabulate m n) in
      let left : List ℕ = replicate (length ws - n * stretch w L) 0 in
      let size : n * stretch w L ≡ length used =
      omega (arith, ap length h.is, length-append used left, length-replicate {A = ℕ} (length ws - n * stretch w L) 0, h.room) in
      ap₂ (λ (l : List ℕ) (k : ℕ). get_or l (k + c) 0) h.is size ∙ get_or-append-add used left c 0
      ∙ get_or-replicate (length ws - n * stretch w L) c 0 0 k

  pub behind_zero : zeros ws (n * stretch w L) (length ws - n * stretch w L) ≡ true
  behind_zero = all_true _ _ λ c k. eq-eqb (get_or ws (n * stretch w L + c) 0) 0 (behind_at c k)
