-- Entries put in the place of others from a place of a store on, by a walk that stores or doesn't.
use mathlib.Core.Path.{◌≡◌, refl, ap, ap₂, sym, ◌∙◌}
use mathlib.Core.Bool.{Bool, true, false}
use mathlib.Core.List.{List, [], ◌++◌, append_assoc}
use Prim.Native.Nat.{ℕ, ◌+◌, ◌≤◌}
use native.Mathlib.Omega.{arith}
use lib.ListN.{length, take, drop, length-append, length-drop, take-append-drop}
use lib.Seq.{length-take-le, take-append-add, take-append_seam, drop-append-add, drop-append_seam, drop-drop}
use borrow.Rule.Slice.PartMut.{put_mid, same_len_mid}
use Rattle.database.specs.declared.Refusal.{Refusal}
use Rattle.database.specs.Refusals.{Reply, refused, accepted, ◌>>=◌}
use Rattle.database.proofs.Replies.{accepted_refused, accepted_then}
use Rattle.loading.specs.Loading.{stores, read_entries, MayStore}

module _ {A : Type 0} (at : ℕ) (xs ys l : List A) (room : at + length xs ≤ length l) where
  abbrev put : List A
  put = put_mid at (length xs) l xs

  -- up to the end of what was put, and behind it
  put_front : take (at + length xs) put ≡ take at l ++ xs
  put_front =
      let n : length (take at l) ≡ at = length-take-le at l (omega arith) in
      ap (λ k. take (k + length xs) put) (sym n)
      ∙ take-append-add (take at l) (xs ++ drop (length xs) (drop at l)) (length xs)
      ∙ ap (λ r. take at l ++ r) (take-append_seam xs (drop (length xs) (drop at l)))

  put_back : drop (at + length xs) put ≡ drop (length xs) (drop at l)
  put_back =
      let n : length (take at l) ≡ at = length-take-le at l (omega arith) in
      ap (λ k. drop (k + length xs) put) (sym n)
      ∙ drop-append-add (take at l) (xs ++ drop (length xs) (drop at l)) (length xs)
      ∙ drop-append_seam xs (drop (length xs) (drop at l))

  put_more : put_mid (at + length xs) (length ys) put ys ≡ put_mid at (length (xs ++ ys)) l (xs ++ ys)
  put_more =
      ap₂ (λ u v. u ++ (ys ++ drop (length ys) v)) put_front put_back
      ∙ append_assoc (take at l) xs (ys ++ drop (length ys) (drop (length xs) (drop at l)))
      ∙ ap (λ r. take at l ++ (xs ++ (ys ++ r))) (drop-drop (length ys) (length xs) (drop at l) ∙ ap (λ n. drop n (drop at l)) (sym (length-append xs ys)))
      ∙ ap (λ r. take at l ++ r) (sym (append_assoc xs ys (drop (length (xs ++ ys)) (drop at l))))

  put_length : length put ≡ length l
  put_length = same_len_mid at (length xs) l xs (sym (length-take-le (length xs) (drop at l) (omega (arith, length-drop at l))))

module _ (at : ℕ) (l : List ℕ) where
  pub stores_none : (write : Bool) → stores write at [] l ≡ l
  stores_none true = take-append-drop at l
  stores_none false = refl

  module _ (xs : List ℕ) where
    pub stores_more : (write : Bool) (ys : List ℕ) → (write ≡ true → at + length xs ≤ length l)
        → stores write (at + length xs) ys (stores write at xs l) ≡ stores write at (xs ++ ys) l
    stores_more true ys h = put_more at xs ys l (h refl)
    stores_more false ys h = refl

    pub stores_length : (write : Bool) → (write ≡ true → at + length xs ≤ length l) → length (stores write at xs l) ≡ length l
    stores_length true h = put_length at xs [] l (h refl)
    stores_length false h = refl

  -- a walk that is refused has stored nothing
  pub stores_refused : {A : Type 0} (f : A → List ℕ) (write : Bool) (xs : List ℕ) (r : Reply A) (q : Refusal) → MayStore f write at l r → r ≡ refused q
      → stores write at xs l ≡ stores write at (read_entries f r) l
  stores_refused f true xs r q h e = accepted_refused (sym (h refl).read ∙ e)
  stores_refused f false xs r q h e = refl

-- nothing is stored of what is refused
pub stores_off : {A : Type 0} (f : A → List ℕ) (write : Bool) (at : ℕ) (l : List ℕ) (r : Reply A) (q : Refusal) → r ≡ refused q
    → l ≡ stores write at (read_entries f r) l
stores_off f write at l r q e = sym (stores_none at l write) ∙ ap (λ r. stores write at (read_entries f r) l) (sym e)

-- a part that may be stored where what follows it may be, and what is stored of it
module _ {A B : Type 0} (f : A → List ℕ) (g : B → List ℕ) (x : Reply A) (k : A → Reply B) (same : (a : A) (b : B) → k a ≡ accepted b → f a ≡ g b)
    (at : ℕ) (l : List ℕ) where
  pub may_first : (write : Bool) → MayStore g write at l (x >>= k) → MayStore f write at l x
  may_first write may w =
      let room = may w in
      let (a, read, e) = accepted_then x k room.read in
      let fits = room.fits in
      record { value = a; read = read; fits = omega (arith, ap length (same a room.value e)) }

  pub stores_then : (write : Bool) → MayStore g write at l (x >>= k) → stores write at (read_entries f x) l ≡ stores write at (read_entries g (x >>= k)) l
  stores_then false may = refl
  stores_then true may =
      let room = may refl in
      let (a, read, e) = accepted_then x k room.read in
      ap (λ r. stores true at (read_entries f r) l) read
      ∙ ap (λ r. stores true at r l) (same a room.value e)
      ∙ ap (λ r. stores true at (read_entries g r) l) (sym room.read)

pub stores_start : (xs l : List ℕ) → stores true 0 xs l ≡ xs ++ drop (length xs) l
stores_start xs l = refl
