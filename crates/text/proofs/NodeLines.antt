-- Node lines: a line is read as a node exactly if it is printed for that node, and the node is on the form with numbers that can be held.
use mathlib.Core.Path.{◌≡◌}
use mathlib.Core.Bool.{true}
use Rattle.std.specs.Prelude.{Some}
use mathlib.Core.List.{List}
use Prim.Native.Nat.{ℕ}
use Rattle.query.specs.declared.Node.{Node}
use Rattle.query.specs.Lines.{on_form}
use Rattle.text.specs.Lines.{by_forms, node_forms, node_line, node_text}
use Rattle.text.proofs.Forms.{in_range_lem, range_in}
use Rattle.text.proofs.NodeForms.{Small, node_read, read_node}

-- a node's line is read as the node
pub node_line_lem : (w : ℕ) (n : Node) → on_form w n ≡ true → Small n → node_line w (node_text n) ≡ Some n
unfolding node_line
node_line_lem w n h s = range_in (on_form w) (by_forms node_forms (node_text n)) n (node_read n s) h

-- a line that is read is the node's line
pub line_node : (w : ℕ) (l : List ℕ) (n : Node) → node_line w l ≡ Some n → (node_text n ≡ l) × (on_form w n ≡ true) × Small n
unfolding node_line
line_node w l n e =
    let (read, on_form_lem) = in_range_lem (on_form w) (by_forms node_forms l) n e in
    let (line, small) = read_node n l read in
    (line, on_form_lem, small)
