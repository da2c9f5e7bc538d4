-- The lines of a query, as they are put one after the other.
use mathlib.Core.Path.{◌≡◌, ap, sym, ◌∙◌}
use mathlib.Core.List.{◌++◌, flat_map}
use Prim.Native.Nat.{ℕ, min, ◌+◌, ◌<◌}
use lib.ListN.{length, take, get_or, length-map, length-take, get_or-map}
use lib.Seq.{get_or-take}
use Rattle.laws.proofs.FlatMaps.{flat_map_more}
use Rattle.query.specs.declared.Line.{Line}
use Rattle.query.specs.declared.Node.{Node}
use Rattle.query.specs.declared.Node.TheVariants.{Table}
use Rattle.query.specs.declared.Query.{Query}
use Rattle.query.specs.Lines.{nodes, node_limit, blank}
use Rattle.text.specs.Lines.{node_text}
use Rattle.text.specs.Texts.{line_text}
use Rattle.output.specs.Sinks.{Puts}
use Rattle.output.proofs.Puts.{puts_as}

-- the line of a node whose case is known
pub puts_node : {S : Type 0} {put : S → ℕ → S} {s t : S} {x y : Node} → x ≡ y → Puts put (line_text (node_text y)) s t → Puts put (line_text (node_text x)) s t
puts_node e p = puts_as (ap (λ n. line_text (node_text n)) (sym e)) p

module _ (q : Query) where
  pub count_lines : length q.lines ≡ node_limit → length (nodes q) ≡ min q.count node_limit
  count_lines e = length-map (take q.count q.lines) _ ∙ length-take q.count q.lines ∙ ap (min q.count) e

  node_of_lem : (i : ℕ) → i < q.count → get_or (nodes q) i (Table 0) ≡ (get_or q.lines i blank).node
  node_of_lem i h = get_or-map (λ (l : Line). l.node) (take q.count q.lines) i blank ∙ ap (λ (l : Line). l.node) (get_or-take q.count q.lines i blank h)

  -- one line more
  pub more_lines : (i : ℕ) → i < length (nodes q) → i < q.count
      → flat_map (λ n. line_text (node_text n)) (take i (nodes q)) ++ line_text (node_text (get_or q.lines i blank).node)
      ≡ flat_map (λ n. line_text (node_text n)) (take (i + 1) (nodes q))
  more_lines i h k =
      ap (λ n. flat_map (λ n. line_text (node_text n)) (take i (nodes q)) ++ line_text (node_text n)) (sym (node_of_lem i k))
      ∙ flat_map_more (λ n. line_text (node_text n)) (nodes q) i (Table 0) h
