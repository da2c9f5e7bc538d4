use Prim.Native.Nat.{ℕ, min, ◌≤◌, ◌*◌}
use mathlib.Core.Path.{◌≡◌}
use mathlib.Core.List.{List, ◌++◌, map, flat_map}
use lib.ListN.{length}
use Rattle.relation.specs.declared.Columns.{Columns}
use Rattle.relation.specs.Rows.{columns as width, Row, slot, cols_of, rows_of}
use Rattle.text.specs.Numbers.{bytes, comma_digits}
use Rattle.text.specs.Texts.{line_text, column_list}
use Rattle.output.specs.Sinks.{Puts}
use Rattle.writing.proofs.answers.put_rows.Given as goal

abbrev pub row_text_lem : Columns → Row → List ℕ
row_text_lem columns r = line_text (bytes "row=" ++ comma_digits (map (slot r) (column_list width (cols_of width columns))))

abbrev pub invariant-loop-r : goal.invariant-loop-r
invariant-loop-r g l =
    (l.r ≤ l.count) × (l.from ≡ min (width * l.r) (length l.rows))
    × Puts g.S.Sink.put (flat_map (row_text_lem l.columns) (rows_of width l.r l.rows)) l.initial.sink l.sink
