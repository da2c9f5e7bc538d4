-- The lines that a kind moves by their indices are those that its rule writes.
use mathlib.Core.Path.{◌≡◌, refl, ap, ap₂, sym, ◌∙◌}
use mathlib.Core.List.{List, [], ◌∷◌, ◌++◌, map, append_assoc, map-append}
use Prim.Native.Nat.{ℕ, ◌+◌, ◌-◌}
use native.Mathlib.Omega.{arith}
use lib.ListN.{length, take, drop, length-append, length-map, take-append-drop}
use lib.Seq.{take_at, drop_at}
use Rattle.algebra.specs.declared.Pairing.TheVariants.{Union, Join}
use Rattle.query.specs.declared.Node.{Node}
use Rattle.query.specs.declared.Node.TheVariants.{Pair, Fix}
use Rattle.query.specs.declared.Line.{Line}
use Rattle.query.specs.declared.Query.{Query}
use Rattle.query.specs.Lines.{nodes, line}
use Rattle.rewrite.specs.Rewrite.{with_nodes}
use Rattle.rewrite.specs.Patterns.{rename_line, rename_lines}
use Rattle.rewrite.specs.Splices.{with_lines, exchanged, with_inserted, renamed_line, merged}
use Rattle.rewrite.proofs.Splices.{part_at, rest_at}

-- the parts of a list exchanged
exchange_parts : {A : Type 0} (p x y r : List A) (a b c : ℕ) → length p ≡ a → a + length x ≡ b → b + length y ≡ c
    → exchanged a b c (p ++ (x ++ (y ++ r))) ≡ p ++ (y ++ (x ++ r))
exchange_parts {A} p x y r a b c e f g =
    let l = p ++ (x ++ (y ++ r)) in
    let px : length (p ++ x) ≡ b = length-append p x ∙ omega arith in
    let pxy : length ((p ++ x) ++ y) ≡ c = length-append (p ++ x) y ∙ omega arith in
    let w : l ≡ (p ++ x) ++ (y ++ r) = sym (append_assoc p x (y ++ r)) in
    let w' : l ≡ ((p ++ x) ++ y) ++ r = w ∙ sym (append_assoc (p ++ x) y r) in
    let ny : length y ≡ c - b = omega arith in
    let nx : length x ≡ b - a = omega arith in
    let one : take a l ≡ p = take_at p (x ++ (y ++ r)) a e in
    let two : take (c - b) (drop b l) ≡ y = ap (λ (m : List A). take (c - b) (drop b m)) w ∙ part_at (p ++ x) y r b (c - b) px ny in
    let three : take (b - a) (drop a l) ≡ x = part_at p x (y ++ r) a (b - a) e nx in
    let four : drop c l ≡ r = ap (drop c) w' ∙ drop_at ((p ++ x) ++ y) r c pxy in
    ap₂ ◌++◌ one (ap₂ ◌++◌ two (ap₂ ◌++◌ three four))

-- a list of lines from their nodes
as_lines : (l : List Line) → map line (map (λ (x : Line). x.node) l) ≡ l
as_lines [] = refl
as_lines (x ∷ l) = ap (λ (r : List Line). x ∷ r) (as_lines l)

rename_lines_lem : (u v : ℕ) (l : List Node) → map (renamed_line u v) (map line l) ≡ map line (rename_lines u v l)
unfolding rename_lines
rename_lines_lem u v [] = refl
rename_lines_lem u v (x ∷ l) = ap (λ (r : List Line). line (rename_line u v x) ∷ r) (rename_lines_lem u v l)

module _ (q : Query) (counted : length (nodes q) ≡ q.count) where
  abbrev tail : List Line
  tail = drop q.count q.lines

  -- a query's lines are those of its nodes, and what stands past them
  abbrev whole : List Node → List Line
  whole ns = map line ns ++ tail

  lines_whole : q.lines ≡ whole (nodes q)
  lines_whole = sym (take-append-drop q.count q.lines) ∙ ap (λ (l : List Line). l ++ tail) (sym (as_lines (take q.count q.lines)))

  whole_append : (a b : List Node) → whole (a ++ b) ≡ map line a ++ whole b
  whole_append a b = ap (λ (l : List Line). l ++ tail) (map-append line a b) ∙ append_assoc (map line a) (map line b) tail

  -- as many nodes as before
  as_many : (ns : List Node) → length ns ≡ q.count → with_nodes q ns ≡ with_lines q (whole ns)
  as_many ns e = ap (λ (n : ℕ). record { count = n; lines = map line ns ++ drop n q.lines }) e

  pub moved_is : (p x y r : List Node) → nodes q ≡ p ++ (x ++ (y ++ r)) → (a b c : ℕ) → length p ≡ a → a + length x ≡ b → b + length y ≡ c
      → with_nodes q (p ++ (y ++ (x ++ r))) ≡ with_lines q (exchanged a b c q.lines)
  moved_is p x y r s a b c e f g =
      let parts : q.lines ≡ map line p ++ (map line x ++ (map line y ++ whole r)) =
      lines_whole ∙ ap whole s ∙ whole_append p (x ++ (y ++ r))
      ∙ ap (λ (l : List Line). map line p ++ l) (whole_append x (y ++ r) ∙ ap (λ (l : List Line). map line x ++ l) (whole_append y r)) in
      let new : whole (p ++ (y ++ (x ++ r))) ≡ map line p ++ (map line y ++ (map line x ++ whole r)) =
      whole_append p (y ++ (x ++ r))
      ∙ ap (λ (l : List Line). map line p ++ l) (whole_append y (x ++ r) ∙ ap (λ (l : List Line). map line y ++ l) (whole_append x r)) in
      let long : length (p ++ (y ++ (x ++ r))) ≡ q.count =
      omega (
        arith,
        counted,
        ap length s,
        length-append p (x ++ (y ++ r)),
        length-append x (y ++ r),
        length-append y r,
        length-append p (y ++ (x ++ r)),
        length-append y (x ++ r),
        length-append x r,
      ) in
      as_many (p ++ (y ++ (x ++ r))) long
      ∙ ap (with_lines q)
      (new
      ∙ sym (ap (exchanged a b c) parts
      ∙ exchange_parts (map line p) (map line x) (map line y) (whole r) a b c (length-map p line ∙ e) (ap (λ (n : ℕ). a + n) (length-map x line) ∙ f) (ap (λ (n : ℕ). b + n) (length-map y line) ∙ g)))

  -- kind 7: a line more
  pub inserted_is : (p r : List Node) (x : Node) → nodes q ≡ p ++ r → (a : ℕ) → length p ≡ a → with_nodes q (p ++ (x ∷ r)) ≡ with_inserted q a x
  inserted_is p r x s a e =
      let P = map line p in
      let R = map line r in
      let n : ℕ = q.count in
      let parts : q.lines ≡ P ++ (R ++ tail) = lines_whole ∙ ap whole s ∙ whole_append p r in
      let nP : length P ≡ a = length-map p line ∙ e in
      let size = length-append p r in
      let nR : length R ≡ n - a = length-map r line ∙ omega (arith, counted, ap length s) in
      let one : take a q.lines ≡ P = ap (take a) parts ∙ take_at P (R ++ tail) a nP in
      let two : take (n - a) (drop a q.lines) ≡ R = ap (λ (l : List Line). take (n - a) (drop a l)) parts ∙ part_at P R tail a (n - a) nP nR in
      let long : length (p ++ (x ∷ r)) ≡ n + 1 = length-append p (x ∷ r) ∙ omega (arith, counted, ap length s) in
      ap (λ (k : ℕ). record { count = k; lines = map line (p ++ (x ∷ r)) ++ drop k q.lines }) long
      ∙ ap (λ (l : List Line). record { count = n + 1; lines = l })
      (ap (λ (l : List Line). l ++ drop (n + 1) q.lines) (map-append line p (x ∷ r)) ∙ append_assoc P (line x ∷ R) (drop (n + 1) q.lines)
      ∙ ap₂ (λ (l m : List Line). l ++ (line x ∷ (m ++ drop (n + 1) q.lines))) (sym one) (sym two))

  -- kind 6: p ends with the left seed; steps t and z, the right seed y
  module _ (p t y z r : List Node) (f g j : Node) (s : nodes q ≡ p ++ (t ++ (f ∷ (y ++ (z ++ (g ∷ (j ∷ r))))))) where
    abbrev new : ℕ → ℕ → List Node
    new u v = p ++ (y ++ (Pair Join ∷ (t ++ (rename_lines u v z ++ (Pair Union ∷ (Fix v ∷ r))))))

    pub merged_is : (u v : ℕ) (a b m i : ℕ) → length p ≡ a → a + length t ≡ b → b + 1 + length y ≡ m → m + length z + 1 ≡ i
        → with_nodes q (new u v) ≡ with_lines q (merged a b m i u v q.lines)
    unfolding rename_lines
    merged_is u v a b m i e h k n =
        let P = map line p in
        let T = map line t in
        let Y = map line y in
        let Z = map line z in
        let R = whole r in
        let rest₃ : List Line = line g ∷ (line j ∷ R) in
        let rest₂ : List Line = Z ++ rest₃ in
        let rest₁ : List Line = line f ∷ (Y ++ rest₂) in
        let parts : q.lines ≡ P ++ (T ++ rest₁) =
        lines_whole ∙ ap whole s ∙ whole_append p _
        ∙ ap (λ (l : List Line). P ++ l)
        (whole_append t _ ∙ ap (λ (l : List Line). T ++ (line f ∷ l)) (whole_append y _ ∙ ap (λ (l : List Line). Y ++ l) (whole_append z _))) in
        let nP = length-map p line in
        let nT = length-map t line in
        let nY = length-map y line in
        let nZ = length-map z line in
        let PT : List Line = P ++ T in
        let nPT : length PT ≡ b = length-append P T ∙ omega arith in
        let PTf : List Line = PT ++ (line f ∷ []) in
        let nPTf : length PTf ≡ b + 1 = length-append PT _ ∙ omega arith in
        let PTfY : List Line = PTf ++ Y in
        let nPTfY : length PTfY ≡ m = length-append PTf Y ∙ omega arith in
        let PTfYZ : List Line = PTfY ++ Z in
        let nPTfYZ : length PTfYZ + 2 ≡ i + 1 = let o = length-append PTfY Z in omega arith in
        let w₁ : q.lines ≡ PT ++ rest₁ = parts ∙ sym (append_assoc P T rest₁) in
        let w₂ : q.lines ≡ PTf ++ (Y ++ rest₂) = w₁ ∙ sym (append_assoc PT (line f ∷ []) (Y ++ rest₂)) in
        let w₃ : q.lines ≡ PTfY ++ (Z ++ rest₃) = w₂ ∙ sym (append_assoc PTf Y rest₂) in
        let w₄ : q.lines ≡ PTfYZ ++ ((line g ∷ (line j ∷ [])) ++ R) = w₃ ∙ sym (append_assoc PTfY Z rest₃) in
        let one : take a q.lines ≡ P = ap (take a) parts ∙ take_at P (T ++ rest₁) a (nP ∙ e) in
        let two : take (m - (b + 1)) (drop (b + 1) q.lines) ≡ Y =
        ap (λ (l : List Line). take (m - (b + 1)) (drop (b + 1) l)) w₂ ∙ part_at PTf Y rest₂ (b + 1) (m - (b + 1)) nPTf (omega arith) in
        let three : take (b - a) (drop a q.lines) ≡ T =
        ap (λ (l : List Line). take (b - a) (drop a l)) parts ∙ part_at P T rest₁ a (b - a) (nP ∙ e) (omega arith) in
        let four : take (i - 1 - m) (drop m q.lines) ≡ Z =
        ap (λ (l : List Line). take (i - 1 - m) (drop m l)) w₃ ∙ part_at PTfY Z rest₃ m (i - 1 - m) nPTfY (omega arith) in
        let five : drop (i + 1) q.lines ≡ R =
        ap (drop (i + 1)) w₄ ∙ rest_at PTfYZ (line g ∷ (line j ∷ [])) R (i + 1) nPTfYZ in
        let six : map (renamed_line u v) (take (i - 1 - m) (drop m q.lines)) ≡ map line (rename_lines u v z) =
        ap (map (renamed_line u v)) four ∙ rename_lines_lem u v z in
        let W : List Node = rename_lines u v z in
        let written : whole (new u v) ≡ P ++ (Y ++ (line (Pair Join) ∷ (T ++ (map line W ++ (line (Pair Union) ∷ (line (Fix v) ∷ R)))))) =
        whole_append p _
        ∙ ap (λ (l : List Line). P ++ l)
        (whole_append y _
        ∙ ap (λ (l : List Line). Y ++ (line (Pair Join) ∷ l)) (whole_append t _ ∙ ap (λ (l : List Line). T ++ l) (whole_append W _))) in
        let long : length (new u v) ≡ q.count =
        omega (
          arith,
          counted,
          ap length s,
          length-append p (t ++ (f ∷ (y ++ (z ++ (g ∷ (j ∷ r)))))),
          length-append t (f ∷ (y ++ (z ++ (g ∷ (j ∷ r))))),
          length-append y (z ++ (g ∷ (j ∷ r))),
          length-append z (g ∷ (j ∷ r)),
          length-map z (rename_line u v),
          length-append p (y ++ (Pair Join ∷ (t ++ (W ++ (Pair Union ∷ (Fix v ∷ r)))))),
          length-append y (Pair Join ∷ (t ++ (W ++ (Pair Union ∷ (Fix v ∷ r))))),
          length-append t (W ++ (Pair Union ∷ (Fix v ∷ r))),
          length-append W (Pair Union ∷ (Fix v ∷ r)),
        ) in
        as_many (new u v) long
        ∙ ap (with_lines q)
        (written
        ∙ sym (ap₂ ◌++◌ one
        (ap₂ ◌++◌ two
        (ap (λ (l : List Line). line (Pair Join) ∷ l)
        (ap₂ ◌++◌ three (ap₂ ◌++◌ six (ap (λ (l : List Line). line (Pair Union) ∷ (line (Fix v) ∷ l)) five)))))))
