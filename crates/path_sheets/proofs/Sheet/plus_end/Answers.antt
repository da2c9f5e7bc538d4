-- `Sheet::plus_end`: behind its variable's line and what begins a sequence, the operand's lines, the sequence's last and the fix.
use mathlib.Core.Path.{ap, sym, ◌∙◌}
use mathlib.Core.List.{[], ◌∷◌, ◌++◌}
use Prim.Native.Nat.{min}
use Rattle.query.specs.declared.Node.TheVariants.{Var, Fix}
use Rattle.query.specs.Lines.{node_limit}
use Rattle.paths.specs.Patterns.{to_middle, from_middle}
use Rattle.path_sheets.specs.Put.{put_all, again_lines}
use Rattle.path_sheets.proofs.PutLines.{left_some, left_none, none_left, put_single, put_more, put_behind}
use Rattle.path_sheets.proofs.Sheet.plus_end.Goals as goal

pub returns-in_err-put_again : goal.returns-in_err-put_again
returns-in_err-put_again c =
    let v = c.args.v in
    let s = c.args.self.now in
    let u = c.to_middle.new.self in
    let lines = again_lines s.query c.args.first (min s.query.count node_limit) c.args.by in
    let again = c.put_again.ensures ∙ ap (λ end. put_all u (again_lines s.query c.args.first end c.args.by)) c.min-end.ensures in
    none_left _ c.from_residual-in_err-put_again.ensures
    (put_behind s (Var v) to_middle (lines ++ (from_middle ++ (Fix v ∷ []))) (left_some c.put.new.self c.put.ensures c.in_ok-put.was) (left_some u c.to_middle.ensures c.in_ok-to_middle.was)
    ∙ put_more u lines (from_middle ++ (Fix v ∷ [])) (left_none c.put_again.new.self again c.in_err-put_again.was))

pub returns-in_err-from_middle : goal.returns-in_err-from_middle
returns-in_err-from_middle c =
    let v = c.args.v in
    let s = c.args.self.now in
    let u = c.to_middle.new.self in
    let w = c.put_again.new.self in
    let lines = again_lines s.query c.args.first (min s.query.count node_limit) c.args.by in
    let again = c.put_again.ensures ∙ ap (λ end. put_all u (again_lines s.query c.args.first end c.args.by)) c.min-end.ensures in
    none_left _ c.from_residual-in_err-from_middle.ensures
    (put_behind s (Var v) to_middle (lines ++ (from_middle ++ (Fix v ∷ []))) (left_some c.put.new.self c.put.ensures c.in_ok-put.was) (left_some u c.to_middle.ensures c.in_ok-to_middle.was)
    ∙ put_more u lines (from_middle ++ (Fix v ∷ [])) (left_some w again c.in_ok-put_again.was)
    ∙ put_more w from_middle (Fix v ∷ []) (left_none c.from_middle.new.self c.from_middle.ensures c.in_err-from_middle.was))

pub returns : goal.returns
returns c =
    let v = c.args.v in
    let s = c.args.self.now in
    let u = c.to_middle.new.self in
    let w = c.put_again.new.self in
    let lines = again_lines s.query c.args.first (min s.query.count node_limit) c.args.by in
    let again = c.put_again.ensures ∙ ap (λ end. put_all u (again_lines s.query c.args.first end c.args.by)) c.min-end.ensures in
    c.put-2.ensures
    ∙ sym (put_behind s (Var v) to_middle (lines ++ (from_middle ++ (Fix v ∷ []))) (left_some c.put.new.self c.put.ensures c.in_ok-put.was) (left_some u c.to_middle.ensures c.in_ok-to_middle.was)
    ∙ put_more u lines (from_middle ++ (Fix v ∷ [])) (left_some w again c.in_ok-put_again.was)
    ∙ put_more w from_middle (Fix v ∷ []) (left_some c.from_middle.new.self c.from_middle.ensures c.in_ok-from_middle.was)
    ∙ put_single c.from_middle.new.self (Fix v))
