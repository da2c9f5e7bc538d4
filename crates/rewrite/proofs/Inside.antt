-- Where a node stands in a term: the way down to it. Its lines are some of the term's, after those of whole terms; another term may be put in its place, and
-- what ends at a place of a term's lines is the node there.
use mathlib.Core.Path.{◌≡◌, refl, ap, sym, ◌∙◌, subst}
use Rattle.std.specs.Prelude.{Some}
use mathlib.Core.List.{List, [], ◌∷◌, ◌++◌, append_assoc, append-nil}
use Prim.Native.Nat.{ℕ, ◌+◌, ◌-◌, ◌≤◌}
use native.Mathlib.Omega.{arith}
use native.Mathlib.Decide.{dec_le}
use lib.ListN.{length, take, drop as dropFirst, length-append, length-drop}
use lib.Seq.{take_at, drop_at}
use borrow.Author.Tests.{le-leb}
use Rattle.laws.proofs.Options.{some_inj}
use Rattle.algebra.specs.declared.Pairing.{Pairing}
use Rattle.algebra.specs.declared.Condition.{Condition}
use Rattle.algebra.specs.Term.{Term, table, var, fact, pair, filter, copy, drop, last, fix, mu}
use Rattle.algebra.specs.Columns.{size}
use Rattle.algebra.proofs.Sizes.{size_positive}
use Rattle.database.specs.Refusals.{accepted}
use Rattle.query.specs.declared.Node.{Node}
use Rattle.query.specs.declared.Node.TheVariants.{Pair, Filter, Copy, Drop, Last, Fix, Mu}
use Rattle.query.specs.Lines.{lines, read}
use Rattle.query.proofs.Reading.{size_lines, read_lines, read_flat_lem, flat}
use Rattle.query.proofs.Prefix.{node_lines}
use Rattle.rewrite.specs.Rewrite.{ended_at, replaced}
use Rattle.rewrite.proofs.NodeParts.{ends_at}

-- the lines of a stack on top of another
flat_append : (stack under : List Term) → flat (stack ++ under) ≡ flat under ++ flat stack
unfolding flat
flat_append [] under = sym (append-nil (flat under))
flat_append (a ∷ stack) under = ap (λ (l : List Node). l ++ lines a) (flat_append stack under) ∙ append_assoc (flat under) (flat stack) (lines a)

-- a part of the lines x, which follow those of whole terms
part_in : (st stack : List Term) (l r rest : List Node) → flat st ++ ((flat stack ++ (l ++ r)) ++ rest) ≡ flat (stack ++ st) ++ (l ++ (r ++ rest))
part_in st stack l r rest =
    ap (λ (k : List Node). flat st ++ k) (append_assoc (flat stack) (l ++ r) rest ∙ ap (λ (k : List Node). flat stack ++ k) (append_assoc l r rest))
    ∙ sym (append_assoc (flat st) (flat stack) (l ++ (r ++ rest))) ∙ ap (λ (k : List Node). k ++ (l ++ (r ++ rest))) (sym (flat_append stack st))

-- the lines of the term a end at node n, after those of whole terms
pub record Ended (ns : List Node) (n : ℕ) (a : Term) : Type 0 where
  pub stack : List Term
  pub rest : List Node
  pub whole : ns ≡ flat stack ++ (lines a ++ rest)
  pub ends : length (flat stack) + size a ≡ n

-- of such lines those of a part x that follow whole terms
pub ended_in : {x ns : List Node} {j n : ℕ} {a : Term} (st : List Term) (rest : List Node)
    → ns ≡ flat st ++ (x ++ rest) → length (flat st) + j ≡ n → Ended x j a → Ended ns n a
ended_in {a = a} st rest e f y = record {
  stack = y.stack ++ st;
  rest = y.rest ++ rest;
  whole = e ∙ ap (λ (l : List Node). flat st ++ (l ++ rest)) y.whole ∙ part_in st y.stack (lines a) y.rest rest;
  ends = let g = y.ends in omega (arith, ap length (flat_append y.stack st), length-append (flat st) (flat y.stack));
}

module _ {ns : List Node} {n : ℕ} {a : Term} where
  -- how many lines there are
  pub ended_length : (x : Ended ns n a) → length ns ≡ n + length x.rest
  ended_length x =
      let e = x.ends in
      omega (arith, ap length x.whole, length-append (flat x.stack) (lines a ++ x.rest), length-append (lines a) x.rest, size_lines a)

  module _ (x : Ended ns n a) where
    abbrev up_to : List Node
    up_to = flat x.stack ++ lines a

    parts : ns ≡ up_to ++ x.rest
    parts = x.whole ∙ sym (append_assoc (flat x.stack) (lines a) x.rest)

    long : length up_to ≡ n
    long = let e = x.ends in omega (arith, length-append (flat x.stack) (lines a), size_lines a)

    -- the lines up to the node's own put it on the stack
    pub ended_reads : read 0 (take n ns) [] ≡ accepted (a ∷ x.stack)
    unfolding read
    ended_reads =
        ap (λ (l : List Node). read 0 (take n l) []) parts
        ∙ ap (λ (l : List Node). read 0 l []) (take_at up_to x.rest n long ∙ ap (λ (l : List Node). flat x.stack ++ l) (sym (append-nil (lines a))))
        ∙ read_flat_lem x.stack (lines a ++ []) ∙ read_lines a (length (flat x.stack)) [] x.stack

    -- so it is what the definition finds there
    pub ended_found : ended_at ns n ≡ Some a
    unfolding ended_at
    ended_found = rw (le-leb n (length ns) (omega (arith, ended_length x)), ended_reads)

    -- the lines with another term's in their place
    pub ended_replaced : (b : Term) → replaced ns n a b ≡ flat x.stack ++ (lines b ++ x.rest)
    ended_replaced b =
        let e = x.ends in
        ap (λ (l : List Node). take (n - size a) l ++ (lines b ++ dropFirst n ns)) x.whole
        ∙ ap (λ (l : List Node). l ++ (lines b ++ dropFirst n ns)) (take_at (flat x.stack) (lines a ++ x.rest) (n - size a) (omega arith))
        ∙ ap (λ (l : List Node). flat x.stack ++ (lines b ++ l)) (ap (dropFirst n) parts ∙ drop_at up_to x.rest n long)

  -- what the definition finds ends there
  pub found_ended : ended_at ns n ≡ Some a → Ended ns n a
  found_ended e =
      let f = ends_at ns n a e in
      let i = f.within in
      let split = node_lines ns n a f.stack f.reads in
      record {
        stack = f.stack;
        rest = dropFirst n ns;
        whole = split;
        ends = omega (
          arith,
          ap length split,
          length-append (flat f.stack) (lines a ++ dropFirst n ns),
          length-append (lines a) (dropFirst n ns),
          size_lines a,
          length-drop n ns,
        );
      }

-- a is the node n of a term: "Nodes count from 1", operands before the node, left before right
pub data Inside (a : Term) : ℕ → Term → Type 0 where
  itself : {n : ℕ} → size a ≡ n → Inside a n a
  in_left : {n : ℕ} {o : Pairing} {l r : Term} → Inside a n l → Inside a n (pair o l r)
  in_right : {n m : ℕ} {o : Pairing} {l r : Term} → size l + m ≡ n → Inside a m r → Inside a n (pair o l r)
  in_filter : {n : ℕ} {f : Condition} {x : Term} → Inside a n x → Inside a n (filter f x)
  in_copy : {n c d : ℕ} {x : Term} → Inside a n x → Inside a n (copy c d x)
  in_drop : {n c : ℕ} {x : Term} → Inside a n x → Inside a n (drop c x)
  in_last : {n c : ℕ} {x : Term} → Inside a n x → Inside a n (last c x)
  in_seed : {n v : ℕ} {s t : Term} → Inside a n s → Inside a n (fix v s t)
  in_step : {n m v : ℕ} {s t : Term} → size s + m ≡ n → Inside a m t → Inside a n (fix v s t)
  in_mu : {n v : ℕ} {x : Term} → Inside a n x → Inside a n (mu v x)

-- the term with b in the node's place
abbrev pub puts : {a : Term} {n : ℕ} {t : Term} → Inside a n t → Term → Term
puts (itself e) b = b
puts (in_left {o = o} {r = r} h) b = pair o (puts h b) r
puts (in_right {o = o} {l = l} e h) b = pair o l (puts h b)
puts (in_filter {f = f} h) b = filter f (puts h b)
puts (in_copy {c = c} {d = d} h) b = copy c d (puts h b)
puts (in_drop {c = c} h) b = drop c (puts h b)
puts (in_last {c = c} h) b = last c (puts h b)
puts (in_seed {v = v} {t = t} h) b = fix v (puts h b) t
puts (in_step {v = v} {s = s} e h) b = fix v s (puts h b)
puts (in_mu {v = v} h) b = mu v (puts h b)

-- the node's lines in the term's; with another term put in, its lines stand there
pub record Place {a : Term} {n : ℕ} {t : Term} (h : Inside a n t) : Type 0 where
  pub at : Ended (lines t) n a
  pub changed : (b : Term) → lines (puts h b) ≡ flat at.stack ++ (lines b ++ at.rest)

module _ {a : Term} where
  -- the node lies in an operand x of y, before whose lines those of whole terms stand
  place_in : {j n : ℕ} {x y : Term} (h : Inside a j x) (i : Inside a n y) (st : List Term) (rest : List Node) → lines y ≡ flat st ++ (lines x ++ rest)
      → ((b : Term) → lines (puts i b) ≡ flat st ++ (lines (puts h b) ++ rest)) → length (flat st) + j ≡ n → Place h → Place i
  unfolding ended_in
  place_in h i st rest e f g p = record {
    at = ended_in st rest e g p.at;
    changed = λ b. f b ∙ ap (λ (l : List Node). flat st ++ (l ++ rest)) (p.changed b) ∙ part_in st p.at.stack (lines b) p.at.rest rest;
  }

  place_first : {n : ℕ} {x y : Term} (h : Inside a n x) (i : Inside a n y) (rest : List Node) → lines y ≡ lines x ++ rest
      → ((b : Term) → lines (puts i b) ≡ lines (puts h b) ++ rest) → Place h → Place i
  unfolding flat
  place_first h i rest e f p = place_in h i [] rest e f (omega arith) p

  place_second : {m n : ℕ} {x y : Term} (l : Term) (h : Inside a m x) (i : Inside a n y) (rest : List Node) → lines y ≡ lines l ++ (lines x ++ rest)
      → ((b : Term) → lines (puts i b) ≡ lines l ++ (lines (puts h b) ++ rest)) → size l + m ≡ n → Place h → Place i
  unfolding flat
  place_second l h i rest e f g p = place_in h i (l ∷ []) rest e f (omega (arith, size_lines l)) p

  pub place : {n : ℕ} {t : Term} (h : Inside a n t) → Place h
  unfolding lines flat
  place (itself e) = record {
    at = record { stack = []; rest = []; whole = sym (append-nil (lines a)); ends = omega arith };
    changed = λ b. sym (append-nil (lines b));
  }
  place (in_left {o = o} {r = r} h) = place_first h (in_left h) (lines r ++ (Pair o ∷ [])) refl (λ b. refl) (place h)
  place (in_right {o = o} {l = l} e h) = place_second l h (in_right e h) (Pair o ∷ []) refl (λ b. refl) e (place h)
  place (in_filter {f = f} h) = place_first h (in_filter h) (Filter f ∷ []) refl (λ b. refl) (place h)
  place (in_copy {c = c} {d = d} h) = place_first h (in_copy h) (Copy c d ∷ []) refl (λ b. refl) (place h)
  place (in_drop {c = c} h) = place_first h (in_drop h) (Drop c ∷ []) refl (λ b. refl) (place h)
  place (in_last {c = c} h) = place_first h (in_last h) (Last c ∷ []) refl (λ b. refl) (place h)
  place (in_seed {v = v} {t = t} h) = place_first h (in_seed h) (lines t ++ (Fix v ∷ [])) refl (λ b. refl) (place h)
  place (in_step {v = v} {s = s} e h) = place_second s h (in_step e h) (Fix v ∷ []) refl (λ b. refl) e (place h)
  place (in_mu {v = v} h) = place_first h (in_mu h) (Mu v ∷ []) refl (λ b. refl) (place h)

  module _ {n : ℕ} {t : Term} (h : Inside a n t) where
    -- a node's lines are some of the term's
    pub own_lines : size a ≤ n
    own_lines = let e = (place h).at.ends in omega arith

    pub within_lines : n ≤ size t
    within_lines = omega (arith, ended_length (place h).at, size_lines t)

    -- the node is what ends there
    pub inside_found : ended_at (lines t) n ≡ Some a
    inside_found = ended_found (place h).at

    -- the lines with another term put in its place
    pub puts_lines : (b : Term) → lines (puts h b) ≡ replaced (lines t) n a b
    puts_lines b = (place h).changed b ∙ sym (ended_replaced (place h).at b)

    -- with another put in, the term is larger by as much as that one is
    pub puts_more : (b : Term) → size (puts h b) + size a ≡ size t + size b
    puts_more b =
        let p = (place h).at in
        omega (
          arith,
          p.ends,
          ended_length p,
          size_lines t,
          ap length ((place h).changed b),
          size_lines (puts h b),
          length-append (flat p.stack) (lines b ++ p.rest),
          length-append (lines b) p.rest,
          size_lines b,
        )

    pub puts_size : (b : Term) → size b ≡ size a → size (puts h b) ≡ size t
    puts_size b e = omega (arith, puts_more b)

-- every number up to the term's size is a node
pub record Found (n : ℕ) (t : Term) : Type 0 where
  pub node : Term
  pub inside : Inside node n t

own_node : (t : Term) (n : ℕ) → size t ≡ n → Found n t
own_node t n e = record { node = t; inside = itself e }

-- in an operand
found_in : {m n : ℕ} {x y : Term} → ((a : Term) → Inside a m x → Inside a n y) → Found m x → Found n y
found_in f x = record { node = x.node; inside = f x.node x.inside }

of_one_lem : (x y : Term) (n : ℕ) → size y ≡ size x + 1 → ((a : Term) → Inside a n x → Inside a n y) → n ≤ size y → (n ≤ size x → Found n x) → Found n y
of_one_lem x y n e f k g = elim (dec_le n (size x)) [ yes i ↦ found_in f (g i) | no i ↦ own_node y n (omega arith) ]

of_two_lem : (x z y : Term) (n : ℕ) → size y ≡ size x + size z + 1 → ((a : Term) → Inside a n x → Inside a n y)
    → ((a : Term) (m : ℕ) → size x + m ≡ n → Inside a m z → Inside a n y) → n ≤ size y
    → (n ≤ size x → Found n x) → ((m : ℕ) → 1 ≤ m → m ≤ size z → Found m z) → Found n y
of_two_lem x z y n e f f' k g g' = elim (dec_le n (size x)) [
  | yes i ↦ found_in f (g i)
  | no i ↦ elim (dec_le n (size x + size z)) [
    | yes j ↦ found_in (λ a. f' a (n - size x) (omega arith)) (g' (n - size x) (omega arith) (omega arith))
    | no j ↦ own_node y n (omega arith)
  ]
]

pub node_inside : (t : Term) (n : ℕ) → 1 ≤ n → n ≤ size t → Found n t
unfolding size
node_inside (table t) n h k = own_node (table t) n (omega arith)
node_inside (var v) n h k = own_node (var v) n (omega arith)
node_inside (fact c x) n h k = own_node (fact c x) n (omega arith)
node_inside (pair o a b) n h k =
    of_two_lem a b (pair o a b) n refl (λ c. in_left) (λ c m e. in_right e) k (λ i. node_inside a n h i) (λ m i j. node_inside b m i j)
node_inside (filter f a) n h k = of_one_lem a (filter f a) n refl (λ c. in_filter) k (λ i. node_inside a n h i)
node_inside (copy c d a) n h k = of_one_lem a (copy c d a) n refl (λ x. in_copy) k (λ i. node_inside a n h i)
node_inside (drop c a) n h k = of_one_lem a (drop c a) n refl (λ x. in_drop) k (λ i. node_inside a n h i)
node_inside (last c a) n h k = of_one_lem a (last c a) n refl (λ x. in_last) k (λ i. node_inside a n h i)
node_inside (fix v a b) n h k =
    of_two_lem a b (fix v a b) n refl (λ c. in_seed) (λ c m e. in_step e) k (λ i. node_inside a n h i) (λ m i j. node_inside b m i j)
node_inside (mu v a) n h k = of_one_lem a (mu v a) n refl (λ x. in_mu) k (λ i. node_inside a n h i)

-- the node that ends at n lies inside
pub found_inside : (t : Term) (n : ℕ) (a : Term) → ended_at (lines t) n ≡ Some a → Inside a n t
found_inside t n a e =
    let f = found_ended e in
    let x = node_inside t n (let i = f.ends in omega (arith, size_positive a)) (omega (arith, ended_length f, size_lines t)) in
    subst (λ (b : Term). Inside b n t) (some_inj (sym (inside_found x.inside) ∙ e)) x.inside

-- the nodes whose lines are among those that end at n are the nodes of the term there
pub ended_under : {ns : List Node} {n m j : ℕ} {a c : Term} → Ended ns n a → Inside c j a → m + size a ≡ n + j → Ended ns m c
ended_under x h e = let f = x.ends in ended_in x.stack x.rest x.whole (omega arith) (place h).at

-- a term put in the place of one of them is put in that term
pub ended_over : {ns : List Node} {n j : ℕ} {a c : Term} (m : ℕ) (x : Ended ns n a) (h : Inside c j a) → m + size a ≡ n + j → (b : Term) → size b ≡ size c
    → Ended (replaced ns m c b) n (puts h b)
unfolding ended_in ended_under
ended_over m x h e b same =
    let p = place h in
    record {
      stack = x.stack;
      rest = x.rest;
      whole =
          ended_replaced (ended_under x h e) b ∙ sym (part_in x.stack p.at.stack (lines b) p.at.rest x.rest)
          ∙ ap (λ (l : List Node). flat x.stack ++ (l ++ x.rest)) (sym (p.changed b));
      ends = ap (λ (k : ℕ). length (flat x.stack) + k) (puts_size h b same) ∙ x.ends;
    }
