-- `write_path`: after i bytes of an accepted text, what is kept is the reader's state's.
use mathlib.Core.Path.{◌≡◌, ap, sym, ◌∙◌, subst}
use Prim.Native.Nat.{min}
use native.Mathlib.Omega.{arith}
use Rattle.std.proofs.Common.{rules, Err, Some, None}
use Rattle.database.specs.declared.Refusal.TheVariants.{NodeCount}
use Rattle.query.specs.Lines.{node_limit}
use Rattle.paths.specs.Reader.{path_limit}
use Rattle.paths.proofs.PathRead.{path_read}
use Rattle.path_sheets.specs.declared.Writing.{Writing}
use Rattle.path_sheets.specs.BySign.{no_writing, by_sign}
use Rattle.path_sheets.proofs.Along.{Along, along_start, in_turn, behind_all, along_over, along_more, along_end, over_reply, end_over, end_reply_lem}
use Rattle.path_sheets.proofs.PutLines.{left_some, left_none}
use Rattle.path_sheets.proofs.write_path.Goals as goal

pub loop-i-init : goal.loop-i-init
loop-i-init c =
    let e = c.no_writing-writing.ensures ∙ ap no_writing c.min.ensures in (
      omega arith,
      λ p read. subst (λ (w : Writing). Along (min c.args.limit node_limit) p w 0 c.args.path.now) (sym e) (along_start (min c.args.limit node_limit) c.args.path.now p read),
    )

pub returns-then-i-eq-PATH_BYTES : goal.returns-then-i-eq-PATH_BYTES
returns-then-i-eq-PATH_BYTES c =
    λ p e. let h = ((path_read path_limit c.args.path.now p).0 e).1 in let w : ⊥ = omega arith in absurd w

pub returns-in_err-ok_or : goal.returns-in_err-ok_or
returns-in_err-ok_or c =
    let full : c.next.result ≡ None = grind arith in
    let told : c.from_residual.result ≡ Err (NodeCount 0) = search rules in
    let over = ap (by_sign c.loop-i.writing) (sym c.sign_of.ensures) ∙ left_none c.next.new.self c.next.ensures full in
    λ p read. told
    ∙ over_reply (min c.args.limit node_limit) p (along_over (min c.args.limit node_limit) (omega arith) p c.loop-i.writing c.loop-i.i _ _ (in_turn c.args.path.now (c.loop-i.invariant.1 p read) c.loop-i-test.true) (omega arith) over)

pub loop-i-preserved : goal.loop-i-preserved
loop-i-preserved c =
    let room : c.next.result ≡ Some c.in_ok-ok_or.field-0 = grind arith in
    let on = ap (by_sign c.loop-i.writing) (sym c.sign_of.ensures) ∙ left_some c.next.new.self c.next.ensures room in (
      omega arith,
      λ p read. along_more (min c.args.limit node_limit) (omega arith) p c.loop-i.writing c.loop-i.i _ _ (in_turn c.args.path.now (c.loop-i.invariant.1 p read) c.loop-i-test.true) (omega arith) on,
    )

pub returns-in_err-ok_or-2 : goal.returns-in_err-ok_or-2
returns-in_err-ok_or-2 c =
    let full : c.path_end.result ≡ None = grind arith in
    let told : c.from_residual-in_err-ok_or-2.result ≡ Err (NodeCount 0) = search rules in
    λ p read. let whole = along_end (min c.args.limit node_limit) (omega arith) p c.loop-i.writing c.loop-i.i (behind_all c.args.path.now (c.loop-i.invariant.1 p read) c.loop-i-test.false) in
    told ∙ over_reply (min c.args.limit node_limit) p (end_over (min c.args.limit node_limit) p (sym whole ∙ left_none c.path_end.new.self c.path_end.ensures full))

pub returns : goal.returns
returns c =
    let room : c.path_end.result ≡ Some c.in_ok-ok_or-2.field-0 = grind arith in
    λ p read. let whole = along_end (min c.args.limit node_limit) (omega arith) p c.loop-i.writing c.loop-i.i (behind_all c.args.path.now (c.loop-i.invariant.1 p read) c.loop-i-test.false) in
    end_reply_lem (min c.args.limit node_limit) p (sym whole ∙ left_some c.path_end.new.self c.path_end.ensures room)
