-- `Sheet::put_again`: what is put with the lines from i on is what is put with all.
use mathlib.Core.Path.{◌≡◌, ap, sym, ◌∙◌}
use native.Mathlib.Omega.{arith}
use lib.ListN.{length}
use Rattle.std.proofs.Common.{rules}
use Rattle.query.specs.Lines.{node_limit}
use Rattle.path_sheets.specs.Put.{put_line}
use Rattle.path_sheets.proofs.PutLines.{left_some, left_none, none_left, again_step, again_none}
use Rattle.path_sheets.proofs.Sheet.put_again.Goals as goal

pub returns-in_err-put : goal.returns-in_err-put
returns-in_err-put c =
    let n : length c.args.source.now.lines ≡ node_limit = search rules in
    let over = left_none c.put.new.self (c.put.ensures ∙ ap (put_line c.loop-i.self) c.raise_line.ensures) c.in_err-put.was in
    none_left _ c.from_residual.ensures (sym c.loop-i.invariant ∙ again_step c.loop-i.self c.args.source.now c.loop-i.i c.args.end c.args.by (omega arith) (omega arith) (sym over))

pub loop-i-preserved : goal.loop-i-preserved
loop-i-preserved c =
    let n : length c.args.source.now.lines ≡ node_limit = search rules in
    let room = left_some c.put.new.self (c.put.ensures ∙ ap (put_line c.loop-i.self) c.raise_line.ensures) c.in_ok-put.was in
    sym (again_step c.loop-i.self c.args.source.now c.loop-i.i c.args.end c.args.by (omega arith) (omega arith) (sym room)) ∙ c.loop-i.invariant

pub returns : goal.returns
returns c = sym (again_none c.loop-i.self c.args.source.now c.loop-i.i c.args.end c.args.by (omega arith)) ∙ c.loop-i.invariant
