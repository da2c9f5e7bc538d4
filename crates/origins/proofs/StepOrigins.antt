-- The numbers that the pass over a step's lines holds stand for the origins of its columns, so the columns that it finds are those not stable.
use mathlib.Core.Path.{◌≡◌, refl, ap, ap₂, sym, ◌∙◌}
use mathlib.Core.Bool.{Bool, true, false, not}
use Rattle.std.specs.Prelude.{Option, Some, None}
use mathlib.Core.Logic.{inl, inr}
use mathlib.Core.List.{List, []}
use Prim.Native.Nat.{ℕ, zero, suc, ◌+◌, ◌-◌, ◌≤◌, ◌<◌}
use native.Mathlib.Omega.{arith}
use native.Mathlib.Numerals.{add-one}
use lib.Dec.{eqb, ltb}
use lib.ListN.{length, set, replicate, length-set, length-replicate}
use lib.Seq.{get_or-set_same, get_or-set_other}
use borrow.Author.Tests.{ltb-true, ltb-false, lt-ltb, ne_eqb}
use Rattle.laws.specs.Lists.{when◌then◌else◌}
use Rattle.laws.proofs.Tests.{eqb_self, same?, and_true_left}
use Rattle.laws.proofs.Tabulated.{get_d_tabulate}
use Rattle.algebra.specs.declared.Pairing.{Pairing}
use Rattle.algebra.specs.declared.Pairing.TheVariants.{Union, Join, Except}
use Rattle.algebra.specs.Mapping.{or_else}
use Rattle.algebra.specs.Term.{Term, table, var, fact, pair, filter, copy, drop, last as latest, fix, mu}
use Rattle.algebra.specs.Columns.{Cols, Schema, cols, size, Origins, agreed, pair_origin, origin, has_origin, stable}
use Rattle.algebra.specs.Rules.{Loop}
use Rattle.relation.specs.declared.Columns.{Columns}
use Rattle.relation.specs.Rows.{columns, cols_of, columns_of}
use Rattle.query.specs.declared.Node.{Node}
use Rattle.query.specs.declared.Query.{Query}
use Rattle.query.specs.declared.Facts.{Facts}
use Rattle.query.specs.Lines.{node_limit, on_form}
use Rattle.query.specs.Shape.{root}
use Rattle.query.proofs.Starts.{size_pos}
use Rattle.origins.specs.declared.NodeOrigins.{NodeOrigins}
use Rattle.rewrite.specs.Places.{line_at, start_at, columns_at, last, Told, Stands, LoopAt}
use Rattle.origins.specs.Origins.{number_at, origin_of, pair_number, origin_number, origins_at, node_origins, origins_from, no_origins, strayed, unstable_columns}
use Rattle.rewrite.proofs.GrownColumns.{columns_same, columns_back}
use Rattle.rewrite.proofs.OnPath.{stands_told}

-- numbers and what they stand for

own_origin : (b : Bool) (e : ℕ) → e < columns → origin_of (when b then e else columns) ≡ when b then Some e else None
own_origin true e h = rw (lt-ltb e columns h)
own_origin false e h = refl

agreed_self : (i : Bool) (m : ℕ) → (when i then Some m else None) ≡ agreed (when i then Some m else None) (when i then Some m else None)
agreed_self true m = rw (eqb_self m)
agreed_self false m = refl

agreed_other : (i j : Bool) (m n : ℕ) → eqb m n ≡ false → None ≡ agreed (when i then Some m else None) (when j then Some n else None)
agreed_other true true m n e = rw e
agreed_other true false m n e = refl
agreed_other false j m n e = refl

pair_origin_lem : (o : Pairing) (m n : ℕ) → origin_of (pair_number o m n) ≡ pair_origin o (origin_of m) (origin_of n)
unfolding pair_origin
pair_origin_lem Union m n = elim (same? m n) [
  | inl s ↦ rw (s.1, ← s.0) (agreed_self (ltb m columns) m)
  | inr s ↦ rw s.1 (agreed_other (ltb m columns) (ltb n columns) m n s.1)
]
pair_origin_lem Join m n = by_number (ltb m columns) refl
  where
    by_number : (b : Bool) → ltb m columns ≡ b → origin_of (when b then m else n) ≡ or_else (when b then Some m else None) (origin_of n)
    by_number true e = rw e
    by_number false e = refl
pair_origin_lem Except m n = refl

-- a column below the width has itself as origin exactly if its number is its own
own_number_lem : (n c : ℕ) → c < columns → has_origin (origin_of n) c ≡ eqb n c
own_number_lem n c h = by_test (ltb n columns) refl
  where
    by_test : (b : Bool) → ltb n columns ≡ b → has_origin (when b then Some n else None) c ≡ eqb n c
    by_test true e = refl
    by_test false e = let k = ltb-false n columns e in sym (ne_eqb n c (λ i. omega arith))

module _ (q : Query) (facts : Facts) where
  -- the pass, in two parts; what it leaves alone; what it writes last
  from_split : (n k l : ℕ) (held : List NodeOrigins) → origins_from q facts n (k + l) held ≡ origins_from q facts (n + k) l (origins_from q facts n k held)
  unfolding origins_from
  from_split n k zero held = let e : k + 0 ≡ k = omega arith in ap (λ (m : ℕ). origins_from q facts n m held) e
  from_split n k (suc l) held =
      let e : k + suc l ≡ suc (k + l) = omega arith in
      let f : n + (k + l) ≡ n + k + l = omega arith in
      ap (λ (m : ℕ). origins_from q facts n m held) e
      ∙ ap₂ (λ (h : List NodeOrigins) (j : ℕ). set h j (node_origins q facts h j)) (from_split n k l held) f

  from_length : (n k : ℕ) (held : List NodeOrigins) → length (origins_from q facts n k held) ≡ length held
  unfolding origins_from
  from_length n zero held = refl
  from_length n (suc k) held = length-set (origins_from q facts n k held) (n + k) _ ∙ from_length n k held

  from_before : (n k : ℕ) (held : List NodeOrigins) (j : ℕ) → j < n → origins_at (origins_from q facts n k held) j ≡ origins_at held j
  unfolding origins_from
  from_before n zero held j h = refl
  from_before n (suc k) held j h =
      get_or-set_other (origins_from q facts n k held) (n + k) j _ (record { from = [] }) (λ e. omega arith) ∙ from_before n k held j h

  pub from_none : (n k : ℕ) (held : List NodeOrigins) → k ≡ 0 → origins_from q facts n k held ≡ held
  unfolding origins_from
  from_none n k held e = ap (λ (m : ℕ). origins_from q facts n m held) e

  pub from_more : (n k : ℕ) (held : List NodeOrigins) (i : ℕ) → n + k ≡ i
      → origins_from q facts n (k + 1) held ≡ set (origins_from q facts n k held) i (node_origins q facts (origins_from q facts n k held) i)
  unfolding origins_from
  from_more n k held i e =
      ap (λ (m : ℕ). origins_from q facts n m held) (add-one k)
      ∙ ap (λ (j : ℕ). set (origins_from q facts n k held) j (node_origins q facts (origins_from q facts n k held) j)) e

  from_last : (n k : ℕ) (held : List NodeOrigins) → n + k < length held
      → origins_at (origins_from q facts n (k + 1) held) (n + k) ≡ node_origins q facts (origins_from q facts n k held) (n + k)
  from_last n k held h =
      ap (λ (l : List NodeOrigins). origins_at l (n + k)) (from_more n k held (n + k) refl)
      ∙ get_or-set_same (origins_from q facts n k held) (n + k) _ (record { from = [] }) (omega (arith, from_length n k held))

-- the numbers held for a node stand for these origins
abbrev Shows : NodeOrigins → Origins → Type 0
Shows held O = (e : ℕ) → e < columns → origin_of (number_at held e) ≡ O e

module _ (G : Schema) (q : Query) (facts : Facts) (formed : (j : ℕ) → j < q.count → on_form columns (line_at q j) ≡ true) where
  -- of the node that ends behind k lines from n on
  node_number : {C : Cols} (n k : ℕ) {t : Term} (held : List NodeOrigins) → Told G q facts C n t → size t ≡ k + 1 → n + k < length held → (e : ℕ) → e < columns
      → number_at (origins_at (origins_from q facts n (size t) held) (last n t)) e
      ≡ origin_number (root t) (cols_of columns (columns_at facts (n + k))) (number_at (origins_at (origins_from q facts n k held) (n + k - 1)))
      (number_at (origins_at (origins_from q facts n k held) (start_at facts (n + k - 1) - 1))) e
  node_number n k {t} held s i h e below =
      let h' : List NodeOrigins = origins_from q facts n k held in
      let j : last n t ≡ n + k = omega arith in
      ap₂ (λ (m l : ℕ). number_at (origins_at (origins_from q facts n m held) l) e) i j
      ∙ ap (λ (o : NodeOrigins). number_at o e) (from_last q facts n k held h)
      ∙ rw (lt-ltb e columns below) (get_d_tabulate (origin_number (line_at q (n + k)) (cols_of columns (columns_at facts (n + k))) (number_at (origins_at h' (n + k - 1)))
      (number_at (origins_at h' (start_at facts (n + k - 1) - 1)))) columns e 0 below)
      ∙ ap (λ (x : Node). origin_number x (cols_of columns (columns_at facts (n + k))) (number_at (origins_at h' (n + k - 1)))
      (number_at (origins_at h' (start_at facts (n + k - 1) - 1))) e) (ap (line_at q) (sym j) ∙ s.line)

  -- the operands of a pair that ends behind the lines of a and b, from n on
  module _ (n : ℕ) (a b : Term) (held : List NodeOrigins) where
    abbrev left : List NodeOrigins
    left = origins_from q facts n (size a) held

    abbrev passed : List NodeOrigins
    passed = origins_from q facts n (size a + size b) held

    right_at : origins_at passed (n + (size a + size b) - 1) ≡ origins_at (origins_from q facts (n + size a) (size b) left) (last (n + size a) b)
    right_at =
        let e : n + (size a + size b) - 1 ≡ last (n + size a) b = omega arith in
        ap₂ origins_at (from_split q facts n (size a) (size b) held) e

    left_at : {C : Cols} → Told G q facts C (n + size a) b → origins_at passed (start_at facts (n + (size a + size b) - 1) - 1) ≡ origins_at left (last n a)
    left_at s =
        let e : n + (size a + size b) - 1 ≡ last (n + size a) b = omega arith in
        let f : start_at facts (n + (size a + size b) - 1) - 1 ≡ last n a = ap (λ (j : ℕ). start_at facts j - 1) e ∙ ap (λ (j : ℕ). j - 1) s.start in
        ap₂ origins_at (from_split q facts n (size a) (size b) held) f
        ∙ from_before q facts (n + size a) (size b) left (last n a) (omega (arith, size_pos a))

  own_columns_lem : {C : Cols} (n v : ℕ) → Told G q facts C n (var v) → (e : ℕ) → e < columns → cols_of columns (columns_at facts (n + 0)) e ≡ C e
  unfolding cols size
  own_columns_lem {C} n v s e h =
      let i : n + 0 ≡ last n (var v) = omega arith in
      ap (λ (x : Columns). cols_of columns x e) (ap (columns_at facts) i ∙ s.columns) ∙ columns_back columns C e h

  copied_low : {C : Cols} (n a b : ℕ) (t : Term) → Told G q facts C n (copy a b t) → n + (size t + 1) ≤ q.count → a < columns
  unfolding size
  copied_low n a b t s h =
      ltb-true a columns (and_true_left (ltb a columns) (ltb b columns) (ap (on_form columns) (sym s.line) ∙ formed (last n (copy a b t)) (omega arith)))

  shows : (t : Term) (C : Cols) (n : ℕ) (held : List NodeOrigins) → Stands G q facts C n t → n + size t ≤ q.count → n + size t ≤ length held
      → Shows (origins_at (origins_from q facts n (size t) held) (last n t)) (origin C t)
  unfolding Stands size origin
  shows (table t) C n held s fits room e h = ap origin_of (node_number n 0 held s refl (omega arith) e h)
  shows (var v) C n held s fits room e h =
      ap origin_of (node_number n 0 held s refl (omega arith) e h ∙ ap (λ (i : Bool). when i then e else columns) (own_columns_lem n v s e h)) ∙ own_origin (C e) e h
  shows (fact c x) C n held s fits room e h = ap origin_of (node_number n 0 held s refl (omega arith) e h)
  shows (pair o a b) C n held (s, l, r) fits room e h =
      ap origin_of (node_number n (size a + size b) held s refl (omega arith) e h
      ∙ ap₂ (λ (x y : NodeOrigins). pair_number o (number_at x e) (number_at y e)) (left_at n a b held (stands_told G q facts b r)) (right_at n a b held))
      ∙ pair_origin_lem o _ _
      ∙ ap₂ (pair_origin o) (shows a C n held l (omega arith) (omega arith) e h)
      (shows b C (n + size a) (left n a b held) r (omega arith) (omega (arith, from_length q facts n (size a) held)) e h)
  shows (filter f a) C n held (s, l) fits room e h =
      ap origin_of (node_number n (size a) held s refl (omega arith) e h) ∙ shows a C n held l (omega arith) (omega arith) e h
  shows (copy c d a) C n held (s, l) fits room e h =
      ap origin_of (node_number n (size a) held s refl (omega arith) e h) ∙ elim (same? e d) [
        | inl i ↦ rw i.1 (shows a C n held l (omega arith) (omega arith) c (copied_low n c d a s fits))
        | inr i ↦ rw i.1 (shows a C n held l (omega arith) (omega arith) e h)
      ]
  shows (drop c a) C n held (s, l) fits room e h =
      ap origin_of (node_number n (size a) held s refl (omega arith) e h) ∙ elim (same? e c) [
        | inl i ↦ rw i.1 refl
        | inr i ↦ rw i.1 (shows a C n held l (omega arith) (omega arith) e h)
      ]
  shows (latest c a) C n held (s, l) fits room e h =
      ap origin_of (node_number n (size a) held s refl (omega arith) e h) ∙ shows a C n held l (omega arith) (omega arith) e h
  shows (fix v a b) C n held (s, l, r) fits room e h = ap origin_of (node_number n (size a + size b) held s refl (omega arith) e h)
  shows (mu v a) C n held (s, l) fits room e h = ap origin_of (node_number n (size a) held s refl (omega arith) e h)

-- the columns that the pass finds of a fix's step
pub loop_unstable : {G : Schema} {q : Query} {facts : Facts} {C : Cols} {f : ℕ} {x : Loop} → LoopAt G q facts C f x
    → unstable_columns q facts f ≡ columns_of columns (λ c. not (stable (cols G C x.seed) x.step c))
unfolding Stands size
loop_unstable {G} {q} {facts} {C} {f} {x} l =
    let (r, s, w) = l.stands in
    let n = l.first + size x.seed in
    let pos = size_pos x.step in
    let place = l.place in
    let within = l.within in
    let fits = l.fits in
    let ends : f - 1 ≡ last n x.step = omega arith in
    let starts : start_at facts (f - 1) ≡ n = ap (start_at facts) ends ∙ (stands_told G q facts x.step w).start in
    let long : f - n ≡ size x.step = omega arith in
    let held : List NodeOrigins = replicate node_limit no_origins in
    ap₂ (λ (m j : ℕ). strayed (origins_at (origins_from q facts m (f - m) held) j)) starts ends
    ∙ ap (λ (k : ℕ). strayed (origins_at (origins_from q facts n k held) (last n x.step))) long
    ∙ columns_same columns _ _ λ c h.
    ap not (sym (own_number_lem _ c h)
    ∙ ap (λ (o : Option ℕ). has_origin o c) (shows G q facts l.formed x.step (cols G C x.seed) n held w (omega arith)
    (omega (arith, length-replicate node_limit no_origins)) c h))
