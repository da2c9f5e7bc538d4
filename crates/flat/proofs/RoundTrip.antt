-- A query that is written into a flat slice and decoded again has the same lines, up to its count.
use mathlib.Core.Path.{◌≡◌, refl, ap, ◌∙◌}
use mathlib.Core.List.{List, ◌∷◌, ◌++◌, map, flat_map}
use Prim.Native.Nat.{ℕ, suc, ◌+◌, ◌*◌, ◌≤◌, ◌<◌}
use native.Mathlib.Omega.{arith}
use lib.ListN.{length, take, drop, get_or, length-map, get_or-map}
use lib.Seq.{ext_get_or, get_or-take, length-take-le}
use Rattle.laws.specs.Lists.{tabulate}
use Rattle.laws.proofs.Tabulated.{length_tabulate, get_d_tabulate}
use Rattle.algebra.specs.declared.Pairing.TheVariants.{Union, Join, Except}
use Rattle.algebra.specs.declared.Condition.TheVariants.{Eq, Ne, Max, Same}
use Rattle.query.specs.declared.Line.{Line}
use Rattle.query.specs.declared.Node.{Node}
use Rattle.query.specs.declared.Node.TheVariants.{Table, Var, Fact, Pair, Filter, Copy, Drop, Fix, Mu, Last}
use Rattle.query.specs.declared.Query.{Query}
use Rattle.query.specs.Lines.{nodes, node_limit, line, blank}
use Rattle.flat.specs.declared.FlatLine.{FlatLine}
use Rattle.flat.specs.Flat.{flat_line, node_of, line_of, line_at, line_entries, flat_nodes, flat_query, query_of, over}
use Rattle.flat.proofs.Blocks.{blocks_at}
use Rattle.flat.proofs.FlatQueries.{line_size}

-- each line has its own code
pub node_again : (n : Node) → node_of (flat_line n) ≡ n
unfolding node_of
node_again (Table t) = refl
node_again (Var v) = refl
node_again (Fact c w) = refl
node_again (Pair Union) = refl
node_again (Pair Join) = refl
node_again (Pair Except) = refl
node_again (Filter (Eq c w)) = refl
node_again (Filter (Ne c w)) = refl
node_again (Filter (Max c w)) = refl
node_again (Filter (Same c d)) = refl
node_again (Copy a b) = refl
node_again (Drop a) = refl
node_again (Fix v) = refl
node_again (Mu v) = refl
node_again (Last c) = refl

next : (x : ℕ) (l : List ℕ) (m n : ℕ) → m ≡ suc n → get_or (x ∷ l) m 0 ≡ get_or l n 0
next x l m n e = ap (λ k. get_or (x ∷ l) k 0) e

same : {x x' y y' z z' : ℕ} → x ≡ x' → y ≡ y' → z ≡ z' → ◌≡◌ {A = FlatLine} (record { code = x; a = y; b = z }) (record { code = x'; a = y'; b = z' })
same {x} {x'} {y} {y'} {z} {z'} e f g =
    ap (λ (n : ℕ). record { code = n; a = y; b = z }) e ∙ ap (λ (n : ℕ). record { code = x'; a = n; b = z }) f ∙ ap (λ (n : ℕ). record { code = x'; a = y'; b = n }) g

module _ (ns : List Node) (s : List ℕ) (fits : length ns ≤ node_limit) where
  abbrev rest : List ℕ
  rest = drop (length (flat_nodes ns)) s

  abbrev whole : List ℕ
  whole = over (flat_nodes ns) s

  entry_at : (m i j : ℕ) → m ≡ suc (line_entries * i + j) → i < length ns → j < line_entries → get_or whole m 0 ≡ get_or (line_of (get_or ns i (Table 0))) j 0
  entry_at m i j e h g =
      next (length ns) (flat_map line_of ns ++ rest) m (line_entries * i + j) e ∙ blocks_at line_of line_entries line_size ns rest i j (Table 0) h g

  line_at_lem : (i : ℕ) → i < length ns → line_at whole i ≡ flat_line (get_or ns i (Table 0))
  line_at_lem i h =
      same (entry_at (1 + line_entries * i) i 0 (omega arith) h (omega arith)) (entry_at (2 + line_entries * i) i 1 (omega arith) h (omega arith))
      (entry_at (3 + line_entries * i) i 2 (omega arith) h (omega arith))

  abbrev decoded : ℕ → Line
  decoded i = line (node_of (line_at whole i))

  abbrev lines : List Line
  lines = take (length ns) (tabulate decoded node_limit)

  node_at_lem : (i : ℕ) → i < length ns → get_or (map (λ (l : Line). l.node) lines) i (Table 0) ≡ get_or ns i (Table 0)
  node_at_lem i h =
      get_or-map (λ (l : Line). l.node) lines i blank
      ∙ ap (λ (l : Line). l.node) (get_or-take (length ns) (tabulate decoded node_limit) i blank h ∙ get_d_tabulate decoded node_limit i blank (omega arith))
      ∙ ap node_of (line_at_lem i h) ∙ node_again (get_or ns i (Table 0))

  lines_length : length (map (λ (l : Line). l.node) lines) ≡ length ns
  lines_length =
      length-map lines (λ (l : Line). l.node)
      ∙ length-take-le (length ns) (tabulate decoded node_limit) (let e = length_tabulate decoded node_limit in omega arith)

  pub nodes_round_trip : nodes (query_of whole) ≡ ns
  nodes_round_trip =
      ext_get_or (Table 0) (map (λ (l : Line). l.node) lines) ns lines_length (λ i h. node_at_lem i (let e = lines_length in omega arith))

-- what stands in a slice after a query is written into it
pub query_round_trip : (q : Query) (s : List ℕ) → length (nodes q) ≤ node_limit → nodes (query_of (over (flat_query q) s)) ≡ nodes q
query_round_trip q s h = nodes_round_trip (nodes q) s h
