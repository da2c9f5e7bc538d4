use native.Mathlib.Omega.{arith}
use Prim.Native.Nat.{ℕ}
use Rattle.std.specs.Prelude.{Option}
use mathlib.Core.List.{List}
use Rattle.text.specs.declared.line_reader.Cursor.{Cursor}
use Rattle.text.specs.Numbers.{bytes}
use Rattle.text.specs.Cursors.{behind, unnumbered, due_line, word_form, count_form, start}
use Rattle.text.proofs.ReaderLawsDue.{due_placed, due_number, mapped_none, behind_is, count_next}
use Rattle.text.proofs.line_reader.read_opening.Goals as goal

abbrev header : List ℕ → Option (Unit {0} × Cursor)
header text = due_line (word_form (bytes "guide=1")) text start

pub returns-in_default : goal.returns-in_default
unfolding bytes
returns-in_default c =
    rw (mapped_none behind (header c.args.text.now) c.in_default.ensures)

pub returns-in_default-due_count : goal.returns-in_default-due_count
unfolding bytes
returns-in_default-due_count c =
    let second : Cursor = c.in-Some.second in
    rw (behind_is (header c.args.text.now) second c.in-Some.ensures, mapped_none unnumbered (due_line (count_form c.args.key.now c.args.most) c.args.text.now second) (c.in_default-due_count.ensures second.line))

pub returns : goal.returns
unfolding bytes
returns c =
    let second : Cursor = c.in-Some.second in
    rw (behind_is (header c.args.text.now) second c.in-Some.ensures, count_next (count_form c.args.key.now c.args.most) c.args.text.now second _ _ (c.in-Some-due_count.ensures second.line))

pub overflow_add-result : goal.overflow_add-result
unfolding bytes
overflow_add-result c =
    let text : List ℕ = c.args.text.now in
    let second : Cursor = c.in-Some.second in
    let placed = due_placed (word_form (bytes "guide=1")) text start (tt, second) (behind_is (header text) second c.in-Some.ensures) (omega arith) in
    omega (
      arith,
      due_number (count_form c.args.key.now c.args.most) text second _
          (count_next (count_form c.args.key.now c.args.most) text second c.in-Some-due_count.n c.in-Some-due_count.at (c.in-Some-due_count.ensures second.line)) placed,
    )
