-- Where the node of a checked query stands: its lines among the query's, its nodes among those that the check visits, and what the check tells of them.
use mathlib.Core.Path.{◌≡◌, refl, ap, ap₂, sym, ◌∙◌}
use mathlib.Core.List.{List, [], ◌∷◌, ◌++◌, map, append_assoc, append-nil}
use Prim.Native.Nat.{ℕ, ◌+◌, ◌-◌, ◌≤◌, ◌<◌}
use native.Mathlib.Omega.{arith}
use native.Mathlib.Decide.{dec_lt}
use borrow.Author.Tests.{le-leb, lt-leb}
use lib.ListN.{length, get_or, take, length-append, length-map, get_or-append}
use Rattle.laws.proofs.EachMember.{get_d_map}
use Rattle.algebra.specs.declared.Pairing.{Pairing}
use Rattle.algebra.specs.declared.Condition.{Condition}
use Rattle.algebra.specs.Term.{Term, table, var, fact, pair, filter, copy, drop, last as latest, fix, mu}
use Rattle.algebra.specs.Columns.{Cols, no_cols, Schema, cols, size, free}
use Rattle.relation.specs.Rows.{columns, columns_of}
use Rattle.database.specs.declared.Database.{Database}
use Rattle.database.specs.Stored.{schema}
use Rattle.database.specs.Refusals.{accepted}
use Rattle.query.specs.declared.Node.{Node}
use Rattle.query.specs.declared.Node.TheVariants.{Table, Pair, Fix}
use Rattle.query.specs.declared.Query.{Query}
use Rattle.query.specs.declared.Facts.{Facts}
use Rattle.query.specs.Lines.{nodes, lines, read}
use Rattle.query.specs.Facts.{Visit, visits, padded, facts_of, variables_of}
use Rattle.query.specs.Passes.{visit, no_visit}
use Rattle.query.specs.Shape.{root}
use Rattle.query.proofs.Reading.{flat, size_lines}
use Rattle.query.proofs.Starts.{size_pos}
use Rattle.query.proofs.Visits.{visits_length, visits_lines, last_at}
use Rattle.rewrite.specs.Places.{last, Told, Stands}
use Rattle.rewrite.specs.Rewrite.{around, replaced}
use Rattle.rewrite.proofs.Around.{around_past}
use Rattle.rewrite.proofs.Inside.{Ended, ended_reads, ended_replaced}

-- a part of a list, at its place
record Part {A : Type 0} (whole part : List A) (n : ℕ) : Type 0 where
  before : List A
  after : List A
  splits : whole ≡ before ++ (part ++ after)
  place : length before ≡ n

part_left : {A : Type 0} {whole : List A} (a b : List A) {n : ℕ} → Part whole (a ++ b) n → Part whole a n
part_left a b p = record {
  before = p.before;
  after = b ++ p.after;
  splits = p.splits ∙ ap (λ (l : List _). p.before ++ l) (append_assoc a b p.after);
  place = p.place;
}

part_right : {A : Type 0} {whole : List A} (a b : List A) {n k : ℕ} → length a ≡ k → Part whole (a ++ b) n → Part whole b (n + k)
part_right a b e p = record {
  before = p.before ++ a;
  after = p.after;
  splits = p.splits ∙ ap (λ (l : List _). p.before ++ l) (append_assoc a b p.after) ∙ sym (append_assoc p.before a (b ++ p.after));
  place = length-append p.before a ∙ ap₂ ◌+◌ p.place e;
}

module _ (d : Database) (q : Query) (t : Term) (written : nodes q ≡ lines t) where
  abbrev G : Schema
  G = schema columns d

  abbrev vs : List Visit
  vs = visits G no_cols [] 0 t

  abbrev facts : Facts
  facts = facts_of G vs

  -- a node's lines follow those of the stack
  record Stacked (n : ℕ) (a : Term) : Type 0 where
    stack : List Term
    rest : List Node
    splits : nodes q ≡ flat stack ++ (lines a ++ rest)
    place : length (flat stack) ≡ n

  -- C: the columns of the variable around the node; n: the lines before its own; v: the fixes around it
  pub record Here (C : Cols) (n : ℕ) (a : Term) : Type 0 where
    fixes : List ℕ
    visited : Part vs (visits G C fixes n a) n
    stacked : Stacked n a

  fact_at : {B : Type 0} (f : Visit → B) (x z : B) (j : ℕ) → j < length vs → get_or (padded x (map f vs)) j z ≡ f (get_or vs j no_visit)
  fact_at f x z j h =
      let k : j < length (map f vs) = let e = length-map vs f in omega arith in
      get_or-append (map f vs) _ z j k ∙ get_d_map f no_visit z vs j h

  told : (C : Cols) (v : List ℕ) (n : ℕ) (a : Term) → Part vs (visits G C v n a) n → Told G q facts C n a
  told C v n a p =
      let j : ℕ = last n a in
      let pos = size_pos a in
      let m = visits_length G C v n a in
      let e = p.place in
      let at : get_or vs j no_visit ≡ visit n a C v =
      ap (λ (l : List Visit). get_or l j no_visit) p.splits ∙ last_at G p.before C v n a p.after j (omega arith) in
      let h : j < length vs =
      omega (arith, ap length p.splits, length-append p.before (visits G C v n a ++ p.after), length-append (visits G C v n a) p.after) in
      record {
        line = ap (λ (l : List Node). get_or l j (Table 0)) (written ∙ sym (visits_lines G no_cols [] 0 t))
            ∙ get_d_map (λ (x : Visit). root x.term) no_visit (Table 0) vs j h ∙ ap (λ (x : Visit). root x.term) at;
        start = fact_at (λ (x : Visit). x.start) 0 0 j h ∙ ap (λ (x : Visit). x.start) at;
        variables = fact_at (λ (x : Visit). variables_of (free x.term)) _ _ j h ∙ ap (λ (x : Visit). variables_of (free x.term)) at;
        columns = fact_at (λ (x : Visit). columns_of columns (cols G x.variable x.term)) _ _ j h
            ∙ ap (λ (x : Visit). columns_of columns (cols G x.variable x.term)) at;
      }

  stands : (a : Term) (C : Cols) (v : List ℕ) (n : ℕ) → Part vs (visits G C v n a) n → Stands G q facts C n a
  unfolding Stands visits
  stands (table x) C v n p = told C v n (table x) p
  stands (var x) C v n p = told C v n (var x) p
  stands (fact c x) C v n p = told C v n (fact c x) p
  stands (pair o a b) C v n p = (
    told C v n (pair o a b) p,
    stands a C v n (part_left (visits G C v n a) _ p),
    stands b C v (n + size a) (part_left (visits G C v (n + size a) b) _ (part_right (visits G C v n a) _ (visits_length G C v n a) p)),
  )
  stands (filter f a) C v n p = (told C v n (filter f a) p, stands a C v n (part_left (visits G C v n a) _ p))
  stands (copy c x a) C v n p = (told C v n (copy c x a) p, stands a C v n (part_left (visits G C v n a) _ p))
  stands (drop c a) C v n p = (told C v n (drop c a) p, stands a C v n (part_left (visits G C v n a) _ p))
  stands (latest c a) C v n p = (told C v n (latest c a) p, stands a C v n (part_left (visits G C v n a) _ p))
  stands (fix u a b) C v n p = (
    told C v n (fix u a b) p,
    stands a C v n (part_left (visits G C v n a) _ p),
    stands b (cols G C a) (u ∷ v) (n + size a) (part_left (visits G (cols G C a) (u ∷ v) (n + size a) b) _ (part_right (visits G C v n a) _ (visits_length G C v n a) p)),
  )
  stands (mu u a) C v n p = (told C v n (mu u a) p, stands a C v n (part_left (visits G C v n a) _ p))

  pub here_stands : {C : Cols} {n : ℕ} {a : Term} → Here C n a → Stands G q facts C n a
  here_stands {C} {n} {a} h = stands a C h.fixes n h.visited

  -- the operands of a node stand too
  stacked_left : {n : ℕ} {a t : Term} (r : List Node) → lines t ≡ lines a ++ r → Stacked n t → Stacked n a
  stacked_left {a = a} r e s = record {
    stack = s.stack;
    rest = r ++ s.rest;
    splits = s.splits ∙ ap (λ (l : List Node). flat s.stack ++ l) (ap (λ (l : List Node). l ++ s.rest) e ∙ append_assoc (lines a) r s.rest);
    place = s.place;
  }

  stacked_right : {n : ℕ} (a : Term) {b t : Term} (r : List Node) → lines t ≡ lines a ++ (lines b ++ r) → Stacked n t → Stacked (n + size a) b
  unfolding flat
  stacked_right {n} a {b} r e s = record {
    stack = a ∷ s.stack;
    rest = r ++ s.rest;
    splits = s.splits
        ∙ ap (λ (l : List Node). flat s.stack ++ l)
        (ap (λ (l : List Node). l ++ s.rest) e ∙ append_assoc (lines a) (lines b ++ r) s.rest ∙ ap (λ (l : List Node). lines a ++ l) (append_assoc (lines b) r s.rest))
        ∙ sym (append_assoc (flat s.stack) (lines a) (lines b ++ (r ++ s.rest)));
    place = length-append (flat s.stack) (lines a) ∙ ap₂ ◌+◌ s.place (size_lines a);
  }

  module _ {C : Cols} {n : ℕ} where
    pub pair_left : {o : Pairing} {a b : Term} → Here C n (pair o a b) → Here C n a
    unfolding visits lines
    pair_left {a = a} {b = b} h = record {
      fixes = h.fixes;
      visited = part_left (visits G C h.fixes n a) _ h.visited;
      stacked = stacked_left (lines b ++ _) refl h.stacked;
    }

    pub pair_right : {o : Pairing} {a b : Term} → Here C n (pair o a b) → Here C (n + size a) b
    unfolding visits lines
    pair_right {o = o} {a = a} {b = b} h = record {
      fixes = h.fixes;
      visited = part_left (visits G C h.fixes (n + size a) b) _ (part_right (visits G C h.fixes n a) _ (visits_length G C h.fixes n a) h.visited);
      stacked = stacked_right a {t = pair o a b} (Pair o ∷ []) refl h.stacked;
    }

    fix_left : {u : ℕ} {a b : Term} → Here C n (fix u a b) → Here C n a
    unfolding visits lines
    fix_left {a = a} {b = b} h = record {
      fixes = h.fixes;
      visited = part_left (visits G C h.fixes n a) _ h.visited;
      stacked = stacked_left (lines b ++ _) refl h.stacked;
    }

    fix_right : {u : ℕ} {a b : Term} → Here C n (fix u a b) → Here (cols G C a) (n + size a) b
    unfolding visits lines
    fix_right {u = u} {a = a} {b = b} h = record {
      fixes = u ∷ h.fixes;
      visited = part_left (visits G (cols G C a) (u ∷ h.fixes) (n + size a) b) _ (part_right (visits G C h.fixes n a) _ (visits_length G C h.fixes n a) h.visited);
      stacked = stacked_right a {t = fix u a b} (Fix u ∷ []) refl h.stacked;
    }

    -- of a line that takes one
    one_down : (a t : Term) → lines t ≡ lines a ++ (root t ∷ []) → ((v : List ℕ) → visits G C v n t ≡ visits G C v n a ++ (visit n t C v ∷ [])) → Here C n t → Here C n a
    one_down a t e f h = record {
      fixes = h.fixes;
      visited = part_left (visits G C h.fixes n a) _ (rw (f h.fixes) at h.visited);
      stacked = stacked_left _ e h.stacked;
    }

    pub filter_down : {f : Condition} {a : Term} → Here C n (filter f a) → Here C n a
    unfolding visits lines
    filter_down {f} {a} h = one_down a (filter f a) refl (λ v. refl) h

    copy_down : {c x : ℕ} {a : Term} → Here C n (copy c x a) → Here C n a
    unfolding visits lines
    copy_down {c} {x} {a} h = one_down a (copy c x a) refl (λ v. refl) h

    pub drop_down : {c : ℕ} {a : Term} → Here C n (drop c a) → Here C n a
    unfolding visits lines
    drop_down {c} {a} h = one_down a (drop c a) refl (λ v. refl) h

    last_down : {c : ℕ} {a : Term} → Here C n (latest c a) → Here C n a
    unfolding visits lines
    last_down {c} {a} h = one_down a (latest c a) refl (λ v. refl) h

    mu_down : {u : ℕ} {a : Term} → Here C n (mu u a) → Here C n a
    unfolding visits lines
    mu_down {u} {a} h = one_down a (mu u a) refl (λ v. refl) h

  -- node n of a term whose lines follow m others
  pub record NodeOf (C : Cols) (m : ℕ) (a : Term) (n : ℕ) : Type 0 where
    pub term : Term
    pub start : ℕ
    pub variable : Cols
    pub here : Here variable start term
    pub is : around G C a n ≡ variable
    pub ends : start + size term ≡ m + n

  own : (a : Term) (C : Cols) (m n : ℕ) → Here C m a → size a ≡ n → NodeOf C m a n
  own a C m n h e = record { term = a; start = m; variable = C; here = h; is = around_past G C a n (omega arith); ends = omega arith }

  -- a node of an operand
  of_operand : (a b : Term) (C D : Cols) (m k n : ℕ) → around G C b n ≡ around G D a (n - k) → k ≤ n → NodeOf D (m + k) a (n - k) → NodeOf C m b n
  of_operand a b C D m k n e h r =
      let i = r.ends in
      record { term = r.term; start = r.start; variable = r.variable; here = r.here; is = e ∙ r.is; ends = omega arith }

  same_operand : (a b : Term) (C : Cols) (m n : ℕ) → around G C b n ≡ around G C a n → NodeOf C m a n → NodeOf C m b n
  same_operand a b C m n e r = record { term = r.term; start = r.start; variable = r.variable; here = r.here; is = e ∙ r.is; ends = r.ends }

  pub node_of_lem : (a : Term) (C : Cols) (m n : ℕ) → 1 ≤ n → n ≤ size a → Here C m a → NodeOf C m a n
  unfolding around size
  node_of_lem (table x) C m n h k s = own (table x) C m n s (omega arith)
  node_of_lem (var x) C m n h k s = own (var x) C m n s (omega arith)
  node_of_lem (fact c x) C m n h k s = own (fact c x) C m n s (omega arith)
  node_of_lem (pair o a b) C m n h k s = elim (dec_lt (size a) n) [
    | no p ↦ same_operand a (pair o a b) C m n (rw (le-leb n (size a) (omega arith))) (node_of_lem a C m n h (omega arith) (pair_left s))
    | yes p ↦ elim (dec_lt (size a + size b) n) [
      | no r ↦
          of_operand b (pair o a b) C C m (size a) n (rw (lt-leb n (size a) p)) (omega arith)
          (node_of_lem b C (m + size a) (n - size a) (omega arith) (omega arith) (pair_right s))
      | yes r ↦ own (pair o a b) C m n s (omega arith)
    ]
  ]
  node_of_lem (filter f a) C m n h k s = elim (dec_lt (size a) n) [
    | no p ↦ same_operand a (filter f a) C m n refl (node_of_lem a C m n h (omega arith) (filter_down s))
    | yes p ↦ own (filter f a) C m n s (omega arith)
  ]
  node_of_lem (copy c x a) C m n h k s = elim (dec_lt (size a) n) [
    | no p ↦ same_operand a (copy c x a) C m n refl (node_of_lem a C m n h (omega arith) (copy_down s))
    | yes p ↦ own (copy c x a) C m n s (omega arith)
  ]
  node_of_lem (drop c a) C m n h k s = elim (dec_lt (size a) n) [
    | no p ↦ same_operand a (drop c a) C m n refl (node_of_lem a C m n h (omega arith) (drop_down s))
    | yes p ↦ own (drop c a) C m n s (omega arith)
  ]
  node_of_lem (latest c a) C m n h k s = elim (dec_lt (size a) n) [
    | no p ↦ same_operand a (latest c a) C m n refl (node_of_lem a C m n h (omega arith) (last_down s))
    | yes p ↦ own (latest c a) C m n s (omega arith)
  ]
  node_of_lem (fix u a b) C m n h k s = elim (dec_lt (size a) n) [
    | no p ↦ same_operand a (fix u a b) C m n (rw (le-leb n (size a) (omega arith))) (node_of_lem a C m n h (omega arith) (fix_left s))
    | yes p ↦ elim (dec_lt (size a + size b) n) [
      | no r ↦
          of_operand b (fix u a b) C (cols G C a) m (size a) n (rw (lt-leb n (size a) p, le-leb n (size a + size b) (omega arith))) (omega arith)
          (node_of_lem b (cols G C a) (m + size a) (n - size a) (omega arith) (omega arith) (fix_right s))
      | yes r ↦ own (fix u a b) C m n s (omega arith)
    ]
  ]
  node_of_lem (mu u a) C m n h k s = elim (dec_lt (size a) n) [
    | no p ↦ same_operand a (mu u a) C m n refl (node_of_lem a C m n h (omega arith) (mu_down s))
    | yes p ↦ own (mu u a) C m n s (omega arith)
  ]

  -- the whole query's term
  pub here_all : Here no_cols 0 t
  unfolding flat
  here_all = record {
    fixes = [];
    visited = record { before = []; after = []; splits = sym (append-nil vs); place = refl };
    stacked = record { stack = []; rest = []; splits = written ∙ sym (append-nil (lines t)); place = refl };
  }

  module _ {C : Cols} {n : ℕ} {a : Term} (h : Here C n a) (k : ℕ) (e : n + size a ≡ k) where
    pub under : List Term
    under = h.stacked.stack

    ended : Ended (nodes q) k a
    ended = let s = h.stacked in record { stack = s.stack; rest = s.rest; whole = s.splits; ends = ap (λ (i : ℕ). i + size a) s.place ∙ e }

    -- the lines up to the node's own leave it on the stack
    pub here_reads : read 0 (take k (nodes q)) [] ≡ accepted (a ∷ under)
    unfolding under ended
    here_reads = ended_reads ended

    -- the query's lines around the node's
    pub after : List Node
    after = h.stacked.rest

    pub here_place : length (flat under) ≡ n
    unfolding under
    here_place = h.stacked.place

    pub here_lines : nodes q ≡ flat under ++ (lines a ++ after)
    unfolding under after
    here_lines = h.stacked.splits

    -- other lines in their place
    pub here_replaced : (b : Term) → replaced (nodes q) k a b ≡ flat under ++ (lines b ++ after)
    unfolding under after ended
    here_replaced b = ended_replaced ended b
