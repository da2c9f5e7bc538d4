-- Nodes of a raw sheet by their stretches of lines: two different nodes, of which neither lies under the other, have no line in common, and only they.
use mathlib.Core.Path.{◌≡◌, sym, ◌∙◌, subst}
use mathlib.Core.Logic.{◌↔◌, ◌≢◌}
use Rattle.std.specs.Prelude.{Some}
use Prim.Native.Nat.{ℕ, ◌+◌, ◌-◌}
use native.Mathlib.Omega.{arith}
use native.Mathlib.Decide.{dec_lt}
use Rattle.laws.proofs.Options.{some_inj}
use Rattle.algebra.specs.Term.{Term}
use Rattle.algebra.specs.Columns.{size}
use Rattle.algebra.proofs.Sizes.{size_positive}
use Rattle.query.specs.declared.Query.{Query}
use Rattle.rewrite.specs.Rewrite.{ended_at}
use Rattle.rewrite.proofs.Inside.{found_ended, ended_found, Inside, own_lines, Found, node_inside, ended_under}
use Rattle.branches.specs.Branches.{split_lines, Stretch, Apart}
use Rattle.branches.proofs.Beside.{Clear, first, last}

pub apart_sym : {q : Query} {m n : ℕ} → Apart q m n → Apart q n m
apart_sym x = record { different = λ e. x.different (sym e); not_under = x.not_over; not_over = x.not_under }

module _ (q : Query) where
  -- two nodes that are apart have no line in common
  pub apart_clear : (m n : ℕ) (a b : Term) → ended_at (split_lines q) m ≡ Some a → ended_at (split_lines q) n ≡ Some b → Apart q m n → Clear m (size a) n (size b)
  apart_clear m n a b e f x = elim (dec_lt m n) [
    | yes h ↦ elim (dec_lt n (m + size b)) [
      | yes i ↦ absurd (x.not_under (record { other = x.different; among = record { node = b; ends = f; from = omega arith; to = omega arith } }))
      | no i ↦ first (omega arith)
    ]
    | no h ↦ elim (dec_lt m (n + size a)) [
      | yes i ↦ absurd (x.not_over (record { other = λ g. x.different (sym g); among = record { node = a; ends = e; from = omega arith; to = omega arith } }))
      | no i ↦ last (omega arith)
    ]
  ]

  -- a line n of m's stretch: the node there lies in the term at m
  module _ (m n : ℕ) (s : Stretch q m n) where
    abbrev pub index : ℕ
    index = n + size s.node - m

    pub index_place : n + size s.node ≡ m + index
    index_place = let h = s.from in omega arith

    there : Found index s.node
    there = node_inside s.node index (let h = s.from in omega arith) (let h = s.from in let k = s.to in omega arith)

    there_ends : ended_at (split_lines q) n ≡ Some there.node
    there_ends = ended_found (ended_under (found_ended s.ends) there.inside index_place)

    pub stretch_inside : (a : Term) → ended_at (split_lines q) n ≡ Some a → Inside a index s.node
    stretch_inside a e = subst (λ (c : Term). Inside c index s.node) (some_inj (sym there_ends ∙ e)) there.inside

    -- it is a node, so it is in its own stretch
    own_stretch : Stretch q n n
    own_stretch = record { node = there.node; ends = there_ends; from = omega (arith, size_positive there.node); to = omega arith }

    -- and its stretch is part of m's
    stretch_trans : (i : ℕ) → Stretch q n i → Stretch q m i
    stretch_trans i r =
        let low = own_lines (stretch_inside r.node r.ends) in
        let h = s.from in
        let k = s.to in
        let g = r.from in
        let f = r.to in
        record { node = s.node; ends = s.ends; from = omega arith; to = omega arith }

  -- "neither lies under the other" by lines
  pub apart_disjoint : (m n : ℕ) → m ≢ n → Apart q m n ↔ ((i : ℕ) → Stretch q m i → Stretch q n i → ⊥)
  apart_disjoint m n different = (
    (λ x i s s'.
        let clear = apart_clear m n s.node s'.node s.ends s'.ends x in
        let h = s.from in
        let h' = s'.from in
        let k = s.to in
        let k' = s'.to in
        elim clear [ first c ↦ omega arith | last c ↦ omega arith ]),
    (λ None. record {
      different = different;
      not_under = λ u. None m (own_stretch n m u.among) u.among;
      not_over = λ u. None n u.among (own_stretch m n u.among);
    }),
  )

  -- a node at or under one of two that are apart is apart from the other
  pub apart_under : (m m' n : ℕ) → Apart q m m' → Stretch q m n → Apart q n m'
  apart_under m m' n x s =
      let different : n ≢ m' = λ e. x.not_over (record { other = λ f. x.different (sym f); among = subst (Stretch q m) e s }) in
      (apart_disjoint n m' different).1 (λ i r r'. (apart_disjoint m m' x.different).0 x i (stretch_trans m n s i r) r')
