-- `shape::shape`: after i lines the array holds the starts of the nodes read so far.
use borrow.Author.Rules.{rules}
use native.Mathlib.Omega.{arith}
use Prim.Native.Nat.{ℕ, ◌+◌}
use mathlib.Core.Path.{◌≡◌, refl, ap, sym, ◌∙◌, subst}
use mathlib.Core.List.{List}
use lib.ListN.{length, get_or}
use Rattle.algebra.specs.Term.{Term}
use Rattle.database.specs.declared.Refusal.{Refusal}
use Rattle.database.specs.declared.Refusal.TheVariants.{Operands}
use Rattle.std.specs.Prelude.{Option, Some, None, Ok, Err}
use Rattle.std.specs.Option.{ok_or}
use Rattle.database.specs.Refusals.{refused, accepted}
use Rattle.query.specs.declared.Node.{Node}
use Rattle.query.specs.declared.Node.TheVariants.{Table}
use Rattle.query.specs.Lines.{nodes, term_of}
use Rattle.query.specs.Facts.{padded}
use Rattle.query.specs.Shape.{arity, starts, begin, shape_of}
use Rattle.query.proofs.Lengths.{nodes_length}
use Rattle.query.proofs.Starts.{ReadTo, read_none, read_low, read_missing, read_more, read_root, read_roots}
use Rattle.query.proofs.shape.shape.Goals as goal

pub loop-i-init : goal.loop-i-init
loop-i-init c = read_none (nodes c.args.query)

pub begin-requires : goal.begin-requires
begin-requires c = (omega arith, read_low _ _ _ c.loop-i.invariant)

ok_or_refused : {r s : Refusal} (o : Option ℕ) → Err r ≡ ok_or o s → (o ≡ None) × (r ≡ s)
ok_or_refused None e = (refl, cc)
ok_or_refused (Some a) e = let z : ◌≡◌ {A = ℕ} 0 1 = cc in absurd (omega arith)

ok_or_accepted : {a : ℕ} (o : Option ℕ) (s : Refusal) → Ok a ≡ ok_or o s → o ≡ Some a
ok_or_accepted None s e = let z : ◌≡◌ {A = ℕ} 0 1 = cc in absurd (omega arith)
ok_or_accepted (Some b) s e = cc

pub returns-in_err-start : goal.returns-in_err-start
returns-in_err-start c =
    let n = nodes_length c.args.query _ c.well_formed.0 c.requires.1 in
    let at : begin (arity (get_or (nodes c.args.query) c.loop-i.i (Table 0))) c.loop-i.start c.loop-i.i ≡ c.begin.result = sym (c.begin.ensures ∙ ap (λ (k : ℕ). begin k c.loop-i.start c.loop-i.i) (c.operands.ensures ∙ ap arity c.node_at.ensures)) in
    let (none, same) = ok_or_refused c.begin.result (sym c.in_err-start.was ∙ c.ok_or.ensures.value) in
    let told : c.from_residual.result ≡ Err (Operands (c.loop-i.i + 1)) = search rules in
    told ∙ ap shape_of (sym (read_missing _ _ _ c.loop-i.invariant (omega arith) (at ∙ none)))

pub loop-i-preserved : goal.loop-i-preserved
loop-i-preserved c =
    let n = nodes_length c.args.query _ c.well_formed.0 c.requires.1 in
    let at : begin (arity (get_or (nodes c.args.query) c.loop-i.i (Table 0))) c.loop-i.start c.loop-i.i ≡ c.begin.result = sym (c.begin.ensures ∙ ap (λ (k : ℕ). begin k c.loop-i.start c.loop-i.i) (c.operands.ensures ∙ ap arity c.node_at.ensures)) in
    read_more _ _ _ c.loop-i.invariant (omega arith) (omega arith) _ (at ∙ ok_or_accepted c.begin.result _ (sym c.in_ok-start.was ∙ c.ok_or.ensures.value))

-- after the loop all lines are read
all_read : (ns : List Node) {n i : ℕ} {start : List ℕ} → length ns ≡ n → ReadTo ns i start → i ≡ n → ReadTo ns (length ns) start
all_read ns {start = start} n r e = subst (λ (i : ℕ). ReadTo ns i start) (e ∙ sym n) r

shaped : (ns : List Node) (start : List ℕ) (t : Term) → term_of ns ≡ accepted t → start ≡ padded 0 (starts 0 t) → Ok start ≡ shape_of (term_of ns)
shaped ns start t e f = rw (e, f)

pub returns-then-start-query-ne0 : goal.returns-then-start-query-ne0
returns-then-start-query-ne0 c =
    let ns = nodes c.args.query in
    let n = nodes_length c.args.query _ c.well_formed.0 c.requires.1 in
    ap (λ (k : ℕ). shape_of (refused (Operands k))) (sym n)
    ∙ ap shape_of (sym (read_roots ns _ (all_read ns n c.loop-i.invariant (omega arith)) (omega arith) (rw n c.if-start-query-ne0.true)))

pub returns : goal.returns
returns c =
    let ns = nodes c.args.query in
    let n = nodes_length c.args.query _ c.well_formed.0 c.requires.1 in
    let (t, e, f) = read_root ns _ (all_read ns n c.loop-i.invariant (omega arith)) (omega arith) (rw n c.if-start-query-ne0.false) in
    shaped ns _ t e f
