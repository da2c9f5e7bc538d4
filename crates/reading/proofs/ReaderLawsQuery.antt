-- Reading a sheet's text: the stored nodes, the end of the text, and the stages together.
use mathlib.Core.Path.{◌≡◌, refl, ap, sym, ◌∙◌, fun_ext}
use mathlib.Core.Bool.{Bool, true, false, ◌&&◌, and-false}
use Rattle.std.specs.Prelude.{Option, Some, None}
use mathlib.Core.List.{List, [], ◌∷◌, ◌++◌, map}
use Prim.Native.Nat.{ℕ, ◌+◌, ◌-◌, ◌≤◌, ◌<◌, min}
use native.Mathlib.Omega.{arith}
use lib.Dec.{leb}
use lib.ListN.{length, set, replicate, length-append}
use borrow.Author.Tests.{le-leb, lt-leb, leb-true}
use Rattle.laws.specs.Lists.{when◌then◌else◌, null}
use Rattle.laws.proofs.Tests.{and_true_right}
use Rattle.laws.proofs.Fronts.{null_drop, more_drop, filled_more}
use Rattle.database.specs.declared.Refusal.TheVariants.{QueryForm, NodeCount}
use Rattle.std.specs.Prelude.{Result, Ok, Err}
use Rattle.database.specs.declared.Refusal.{Refusal}
use Rattle.database.specs.Refusals.{Reply, refused, accepted, require, ◌>>=◌, verdict}
use Rattle.query.specs.declared.Node.{Node}
use Rattle.query.specs.declared.Query.{Query}
use Rattle.query.specs.Lines.{line, blank, node_limit}
use Rattle.text.specs.declared.line_reader.Cursor.{Cursor}
use Rattle.text.specs.Numbers.{bytes, max_number}
use Rattle.text.specs.Lines.{Rest, due, many, ended, node_line}
use Rattle.text.specs.Texts.{read_nodes, query_value}
use Rattle.text.specs.Replies.{query_reply}
use Rattle.text.specs.Cursors.{rest_at, Placed, due_line, Opened, opened_at}
use Rattle.reading.specs.QueryReading.{stored, end_test, line_nodes}
use Rattle.text.proofs.Exact.{many_again}
use Rattle.text.proofs.ReaderLawsDue.{due_reply, due_reply_lem, due_placed, opening, behind_opened, opening_reply}
use Rattle.text.proofs.ReaderLawsMany.{Left, left_none, left_more, left_stops, left_all}

-- one more node is stored
pub stored_more : (ns : List Node) (n : Node) → length ns < node_limit → stored (query_value ns) n ≡ query_value (ns ++ (n ∷ []))
stored_more ns n h =
    ap (λ t. when t then query_value ns else more) (lt-leb node_limit (length ns) h)
    ∙ ap (λ ls. record { count = length ns + 1; lines = ls }) (filled_more line node_limit blank ns n h)
    ∙ ap (λ k. record { count = k; lines = map line (ns ++ (n ∷ [])) ++ replicate (node_limit - length (ns ++ (n ∷ []))) blank })
    (sym (length-append ns (n ∷ [])))
  where
    more : Query
    more = record { count = length ns + 1; lines = set (query_value ns).lines (length ns) (line n) }

module _ (text : List ℕ) (c : Cursor) (n limit : ℕ) where
  -- what stands behind the last due line is bad; else the count is tested
  pub end_more : c.at < length text → end_test (rest_at text c) n limit ≡ refused (QueryForm c.line)
  end_more h = rw (more_drop text c.at 0 h)

  at_end : length text ≤ c.at → end_test (rest_at text c) n limit ≡ require (leb 1 n && leb n (min limit node_limit)) (NodeCount 2)
  at_end h = rw (null_drop text c.at h)

  pub end_count : length text ≤ c.at → leb 1 n && leb n (min limit node_limit) ≡ false → end_test (rest_at text c) n limit ≡ refused (NodeCount 2)
  end_count h e = at_end h ∙ ap (λ t. require t (NodeCount 2)) e

  pub end_fine : length text ≤ c.at → 1 ≤ n → n ≤ limit → n ≤ node_limit → end_test (rest_at text c) n limit ≡ accepted tt
  end_fine h a b d = at_end h ∙ rw (le-leb 1 n a, le-leb n (min limit node_limit) (omega arith))

-- a count outside its range
pub count_none : (n limit : ℕ) → n ≡ 0 → leb 1 n && leb n (min limit node_limit) ≡ false
count_none n limit e = rw (lt-leb 1 n (omega arith))

pub count_over : (n limit : ℕ) → min limit node_limit < n → leb 1 n && leb n (min limit node_limit) ≡ false
count_over n limit h = rw (lt-leb n (min limit node_limit) h) (and-false (leb 1 n))

-- a count that is not refused has room
end_room : (s : Rest) (n limit : ℕ) (u : Unit {0}) → end_test s n limit ≡ accepted u → n ≤ node_limit
end_room s n limit u e = by_tests_lem (null s.bytes) (leb 1 n && leb n (min limit node_limit)) refl e
  where
    by_tests_lem : (a b : Bool) → leb 1 n && leb n (min limit node_limit) ≡ b
        → (require a (QueryForm s.line) >>= (λ _. require b (NodeCount 2))) ≡ accepted u → n ≤ node_limit
    by_tests_lem true true q e = let h : n ≤ min limit node_limit = leb-true n (min limit node_limit) (and_true_right (leb 1 n) _ q) in omega arith
    by_tests_lem true false q e = let z : ◌≡◌ {A = ℕ} 0 1 = cc in let w : ⊥ = omega arith in absurd w
    by_tests_lem false b q e = let z : ◌≡◌ {A = ℕ} 0 1 = cc in let w : ⊥ = omega arith in absurd w

-- what is replied behind the last due line: the stored query, where the count has room
abbrev pub ended_reply : Result (Unit {0}) Refusal → Query → Result Query Refusal
ended_reply (Err r) q = Err r
ended_reply (Ok u) q = Ok q

pub end_query : (text : List ℕ) (c : Cursor) (n limit : ℕ) (ns : List Node) (q : Query) → (n ≤ node_limit → q ≡ query_value ns)
    → ended_reply (verdict (end_test (rest_at text c) n limit)) q ≡ query_reply (end_test (rest_at text c) n limit >>= (λ _. accepted ns))
end_query text c n limit ns q h = by_case (end_test (rest_at text c) n limit) refl
  where
    by_case : (r : Reply (Unit {0})) → end_test (rest_at text c) n limit ≡ r → ended_reply (verdict r) q ≡ query_reply (r >>= (λ _. accepted ns))
    by_case (refused r) e = refl
    by_case (accepted u) e = ap Ok (h (end_room (rest_at text c) n limit u e))

-- after i of the announced lines: the nodes read so far come first, the other lines are left, and as many nodes are stored as there is room for
pub record Turn (w : ℕ) (text : List ℕ) (first : Cursor) (count : ℕ) (query : Query) (c : Cursor) (i : ℕ) : Type 0 where
  pub placed : Placed c
  pub few : i ≤ count
  pub nodes : List Node
  pub long : length nodes ≡ i
  pub held : i ≤ node_limit → query ≡ query_value nodes
  pub left : Left (many_again (due QueryForm (node_line w))) count tt (rest_at text first) nodes (rest_at text c)

pub turn_none : (w : ℕ) (text : List ℕ) (first : Cursor) (count : ℕ) (query : Query) → Placed first → query ≡ query_value [] → Turn w text first count query first 0
turn_none w text first count query h e =
    record {
      placed = h;
      few = omega arith;
      nodes = [];
      long = refl;
      held = λ _. e;
      left = left_none (many_again (due QueryForm (node_line w))) count tt (rest_at text first);
    }

module _ (w : ℕ) (text : List ℕ) (first : Cursor) (count : ℕ) (query : Query) (c : Cursor) (i : ℕ) (t : Turn w text first count query c i) where
  abbrev part : Rest → Reply (Node × Rest)
  part = due QueryForm (node_line w)

  here : (o : Option (Node × Cursor)) → due_line (node_line w) text c ≡ o → part (rest_at text c) ≡ due_reply (node_line w) text c QueryForm o
  here o e = due_reply_lem (node_line w) text c QueryForm ∙ ap (due_reply (node_line w) text c QueryForm) e

  pub turn_more : i < count → (n : Node) (next : Cursor) → due_line (node_line w) text c ≡ Some (n, next) → Turn w text first count (stored query n) next (i + 1)
  turn_more h n next e =
      let long = t.long in
      record {
        placed = due_placed (node_line w) text c (n, next) e t.placed;
        few = omega arith;
        nodes = t.nodes ++ (n ∷ []);
        long = omega (arith, length-append t.nodes (n ∷ []));
        held = λ k. ap (λ q. stored q n) (t.held (omega arith)) ∙ stored_more t.nodes n (omega arith);
        left = left_more (many_again part) count tt (rest_at text first) (rest_at text c) t.nodes t.left n (rest_at text next) (omega arith) (here (Some (n, next)) e);
      }

  pub turn_stops : i < count → (limit : ℕ) → due_line (node_line w) text c ≡ None → line_nodes w text first count limit ≡ refused (QueryForm c.line)
  turn_stops h limit e =
      let long = t.long in
      ap (λ r. r >>= (λ p. end_test p.1 count limit >>= (λ _. accepted p.0)))
      (left_stops (many_again part) count tt (rest_at text first) (rest_at text c) t.nodes t.left (QueryForm c.line) (omega arith) (here None e))

  pub turn_all : count ≤ i → (limit : ℕ) → ended_reply (verdict (end_test (rest_at text c) count limit)) query ≡ query_reply (line_nodes w text first count limit)
  turn_all h limit =
      let long = t.long in
      let few = t.few in
      end_query text c count limit t.nodes query (λ k. t.held (omega arith))
      ∙ ap (λ r. query_reply (r >>= (λ p. end_test p.1 count limit >>= (λ _. accepted p.0))))
      (sym (left_all (many_again part) count tt (rest_at text first) (rest_at text c) t.nodes t.left (omega arith)))

-- what stands behind the lines that open a sheet's text
module _ (w : ℕ) (text : List ℕ) (limit : ℕ) where
  abbrev nodes_from : ℕ → Rest → Reply (List Node)
  nodes_from n s = do
    (ns, s₁) ← many (due QueryForm (node_line w)) n s
    _ ← end_test s₁ n limit
    accepted ns

  abbrev pub behind_nodes : Opened → Reply (List Node)
  behind_nodes o = behind_opened QueryForm "nodes=" max_number text nodes_from o

  pub nodes_opened : read_nodes w (min limit node_limit) text ≡ behind_nodes (opened_at (bytes "nodes=") max_number text)
  unfolding read_nodes
  nodes_opened = ap (opening QueryForm "nodes=" max_number text) (fun_ext (λ n. fun_ext (λ s. by_case n (many (due QueryForm (node_line w)) n s))))
      ∙ opening_reply QueryForm "nodes=" max_number text nodes_from
    where
      tests : (n : ℕ) (ns : List Node) (r : Reply (Unit {0})) (q : Reply (Unit {0}))
          → (r >>= (λ _. q >>= (λ _. accepted ns))) ≡ ((r >>= (λ _. q)) >>= (λ _. accepted ns))
      tests n ns (refused r) q = refl
      tests n ns (accepted u) q = refl

      by_case : (n : ℕ) (r : Reply (List Node × Rest))
          → (r >>= (λ p. ended QueryForm p.1 >>= (λ _. require (leb 1 n && leb n (min limit node_limit)) (NodeCount 2) >>= (λ _. accepted p.0))))
          ≡ (r >>= (λ p. end_test p.1 n limit >>= (λ _. accepted p.0)))
      by_case n (refused r) = refl
      by_case n (accepted p) = tests n p.0 (ended QueryForm p.1) (require (leb 1 n && leb n (min limit node_limit)) (NodeCount 2))
