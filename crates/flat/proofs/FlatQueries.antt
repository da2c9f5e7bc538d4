-- The lines of a query as blocks of entries.
use mathlib.Core.Path.{◌≡◌, refl, ap, ◌∙◌}
use mathlib.Core.List.{List}
use Prim.Native.Nat.{ℕ, min, ◌<◌}
use lib.ListN.{length, take, get_or, length-map, length-take, get_or-map}
use lib.Seq.{get_or-take}
use Rattle.query.specs.declared.Line.{Line}
use Rattle.query.specs.declared.Node.{Node}
use Rattle.query.specs.declared.Node.TheVariants.{Table}
use Rattle.query.specs.declared.Query.{Query}
use Rattle.query.specs.Lines.{nodes, node_limit, blank}
use Rattle.flat.specs.Flat.{line_of, line_entries}
use Rattle.flat.proofs.Blocks.{begun}

pub line_size : (n : Node) → length (line_of n) ≡ line_entries
line_size n = refl

module _ (q : Query) where
  pub count_nodes : length q.lines ≡ node_limit → length (nodes q) ≡ min q.count node_limit
  count_nodes e = length-map (take q.count q.lines) _ ∙ length-take q.count q.lines ∙ ap (min q.count) e

  pub node_of_lem : (i : ℕ) → i < q.count → get_or (nodes q) i (Table 0) ≡ (get_or q.lines i blank).node
  node_of_lem i h = get_or-map (λ (l : Line). l.node) (take q.count q.lines) i blank ∙ ap (λ (l : Line). l.node) (get_or-take q.count q.lines i blank h)

  -- the first i lines are written
  abbrev pub begun_lines : List ℕ → ℕ → List ℕ
  begun_lines s i = begun line_of line_entries line_size (nodes q) s (get_or s 0 0) i
