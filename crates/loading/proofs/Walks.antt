-- A walk over parts of a text that stores the entries of each: the same laws for the rows of a table and for tables.
use mathlib.Core.Path.{◌≡◌, refl, ap, sym, ◌∙◌}
use mathlib.Core.Bool.{Bool, true}
use mathlib.Core.List.{List, [], ◌∷◌, ◌++◌}
use Prim.Native.Nat.{ℕ, ◌+◌, ◌≤◌, ◌<◌}
use native.Mathlib.Omega.{arith}
use lib.ListN.{length, length-append}
use Rattle.database.specs.declared.Refusal.{Refusal}
use Rattle.database.specs.Refusals.{Reply, refused, accepted}
use Rattle.database.proofs.Replies.{accepted_refused}
use Rattle.text.specs.declared.line_reader.Cursor.{Cursor}
use Rattle.text.specs.Lines.{Rest}
use Rattle.text.specs.Cursors.{rest_at, Placed}
use Rattle.text.proofs.Exact.{Again}
use Rattle.text.proofs.ReaderLawsMany.{behind_parts, Left, left_none, left_more, left_stops, left_all, left_first}
use Rattle.loading.specs.Loading.{stores, read_entries, Room, MayStore}
use Rattle.loading.proofs.Stores.{stores_none, stores_more, stores_length, stores_refused}

-- the entries of parts behind each other
pub record Laid {A : Type 0} (one : A → List ℕ) (whole : List A → List ℕ) : Type 0 where
  pub none : whole [] ≡ []
  pub single : (a : A) → whole (a ∷ []) ≡ one a
  pub joined : (l m : List A) → whole (l ++ m) ≡ whole l ++ whole m

module _ {S A : Type 0} {part : S → Rest → Reply (A × Rest)} {next : A → S} {loop : ℕ → S → Rest → Reply (List A × Rest)} (again : Again part next loop)
    {one : A → List ℕ} {whole : List A → List ℕ} (laid : Laid one whole)
    (n : ℕ) (c₀ : S) (text : List ℕ) (first : Cursor) (write : Bool) (from : ℕ) (store₀ : List ℕ) where
  abbrev pub all : Reply (List A × Rest)
  all = loop n c₀ (rest_at text first)

  -- after some parts: they have been stored, and the others are left
  pub record Walk (store : List ℕ) (c : Cursor) (at i : ℕ) (parts : List A) : Type 0 where
    pub placed : Placed c
    pub few : i ≤ n
    pub long : length parts ≡ i
    pub place : at ≡ from + length (whole parts)
    pub held : store ≡ stores write from (whole parts) store₀
    pub left : Left again n c₀ (rest_at text first) parts (rest_at text c)

  pub walk_none : Placed first → Walk store₀ first from 0 []
  walk_none h = record {
    placed = h;
    few = omega arith;
    long = refl;
    place = let e = ap length laid.none in omega arith;
    held = sym (ap (λ l. stores write from l store₀) laid.none ∙ stores_none from store₀ write);
    left = left_none again n c₀ (rest_at text first);
  }

  module _ (store : List ℕ) (c : Cursor) (at i : ℕ) (parts : List A) (w : Walk store c at i parts) where
    -- what the next part hangs on
    abbrev pub behind : S
    behind = behind_parts next c₀ parts

    abbrev pub more : A → List A
    more a = parts ++ (a ∷ [])

    more_laid : (a : A) → whole (more a) ≡ whole parts ++ one a
    more_laid a = laid.joined parts (a ∷ []) ∙ ap (λ l. whole parts ++ l) (laid.single a)

    more_left : i < n → (a : A) (t : Rest) → part behind (rest_at text c) ≡ accepted (a, t) → Left again n c₀ (rest_at text first) (more a) t
    more_left h a t e = let long = w.long in left_more again n c₀ (rest_at text first) (rest_at text c) parts w.left a t (omega arith) e

    module _ (may : MayStore (λ p. whole p.0) write from store₀ all) where
      -- there is room for what was stored, and for one part more
      room_held : write ≡ true → from + length (whole parts) ≤ length store₀
      room_held e =
          let r = may e in
          let f = left_first again n c₀ (rest_at text first) (rest_at text c) parts w.left r.value r.read in
          let k = r.fits in
          omega (arith, ap (λ l. length (whole l)) f.1, ap length (laid.joined parts f.0), length-append (whole parts) (whole f.0))

      room_more : i < n → (a : A) (t : Rest) → part behind (rest_at text c) ≡ accepted (a, t) → write ≡ true
          → from + length (whole parts) + length (one a) ≤ length store₀
      room_more h a t q e =
          let r = may e in
          let f = left_first again n c₀ (rest_at text first) t (more a) (more_left h a t q) r.value r.read in
          let k = r.fits in
          omega (
            arith,
            ap (λ l. length (whole l)) f.1,
            ap length (laid.joined (more a) f.0),
            length-append (whole (more a)) (whole f.0),
            ap length (more_laid a),
            length-append (whole parts) (one a),
          )

      pub walk_length : length store ≡ length store₀
      walk_length = ap length w.held ∙ stores_length from store₀ (whole parts) write room_held

      -- the next part may be stored
      pub walk_part : i < n → MayStore (λ p. one p.0) write at store (part behind (rest_at text c))
      walk_part h e = by_case (part behind (rest_at text c)) refl
        where
          by_case : (r : Reply (A × Rest)) → part behind (rest_at text c) ≡ r → Room (λ p. one p.0) at store (part behind (rest_at text c))
          by_case (refused q) k =
              let long = w.long in
              accepted_refused
              (sym (may e).read ∙ left_stops again n c₀ (rest_at text first) (rest_at text c) parts w.left q (omega arith) k)
          by_case (accepted p) k = record {
            value = p;
            read = k;
            fits = let place = w.place in omega (arith, room_more h p.0 p.1 k e, walk_length);
          }

      pub walk_more : i < n → (a : A) (d : Cursor) → Placed d → part behind (rest_at text c) ≡ accepted (a, rest_at text d)
          → (to : ℕ) → to ≡ at + length (one a) → Walk (stores write at (one a) store) d to (i + 1) (more a)
      walk_more h a d p e to q =
          let long = w.long in
          let place = w.place in
          record {
            placed = p;
            few = omega arith;
            long = omega (arith, length-append parts (a ∷ []));
            place = omega (arith, ap length (more_laid a), length-append (whole parts) (one a));
            held =
                ap (λ k. stores write k (one a) store) w.place
                ∙ ap (stores write (from + length (whole parts)) (one a)) w.held
                ∙ stores_more from store₀ (whole parts) write (one a) room_held
                ∙ ap (λ l. stores write from l store₀) (sym (more_laid a));
            left = more_left h a (rest_at text d) e;
          }

      -- a part is refused: so is the whole, and nothing is stored
      pub walk_stops : i < n → (q : Refusal) → part behind (rest_at text c) ≡ refused q → all ≡ refused q
      walk_stops h q e = let long = w.long in left_stops again n c₀ (rest_at text first) (rest_at text c) parts w.left q (omega arith) e

      pub walk_kept : i < n → (q : Refusal) → part behind (rest_at text c) ≡ refused q → store ≡ stores write from (read_entries (λ p. whole p.0) all) store₀
      walk_kept h q e = w.held ∙ stores_refused from store₀ (λ p. whole p.0) write (whole parts) all q may (walk_stops h q e)

    -- all parts have been read
    pub walk_all : n ≤ i → all ≡ accepted (parts, rest_at text c)
    walk_all h =
        let long = w.long in
        let few = w.few in
        left_all again n c₀ (rest_at text first) (rest_at text c) parts w.left (omega arith)

    pub walk_stored : n ≤ i → store ≡ stores write from (read_entries (λ p. whole p.0) all) store₀
    walk_stored h = w.held ∙ ap (λ r. stores write from (read_entries (λ p. whole p.0) r) store₀) (sym (walk_all h))
