use Prim.Native.Nat.{◌≤◌}
use mathlib.Core.Path.{◌≡◌}
use mathlib.Core.List.{map}
use Rattle.laws.specs.Lists.{null}
use Rattle.relation.specs.Rows.{columns as width, slot, cols_of}
use Rattle.text.specs.Numbers.{comma_digits}
use Rattle.text.specs.Texts.{column_list}
use Rattle.output.specs.Sinks.{Puts}
use Rattle.writing.proofs.answers.put_values.Given as goal

abbrev pub invariant-loop-c : goal.invariant-loop-c
invariant-loop-c g l = (l.c ≤ width) × (l.first ≡ null (column_list l.c (cols_of width l.columns)))
    × Puts g.S.Sink.put (comma_digits (map (slot l.values) (column_list l.c (cols_of width l.columns)))) l.initial.sink l.sink
