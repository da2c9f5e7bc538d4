-- Before line i the nodes from the first on have their origins.
use native.Mathlib.Omega.{arith}
use Prim.Native.Nat.{ℕ, ◌-◌, ◌+◌}
use mathlib.Core.Path.{◌≡◌, ap, ap₂, sym, ◌∙◌}
use mathlib.Core.List.{List}
use lib.ListN.{set, replicate}
use Rattle.query.specs.declared.Node.{Node}
use Rattle.query.specs.declared.Query.{Query}
use Rattle.query.specs.declared.Facts.{Facts}
use Rattle.query.specs.Lines.{node_limit}
use Rattle.rewrite.specs.Places.{line_at, start_at, columns_at}
use Rattle.origins.specs.declared.NodeOrigins.{NodeOrigins}
use Rattle.origins.specs.Origins.{line_origins, no_origins, origins_at, node_origins, origins_from}
use Rattle.origins.proofs.StepOrigins.{from_none, from_more}
use Rattle.origins.proofs.step_origins.Goals as goal

pub loop-i-init : goal.loop-i-init
loop-i-init c =
    let e : c.args.start - c.args.start ≡ 0 = omega arith in
    sym (from_none c.args.sheet.query c.args.sheet.facts c.args.start (c.args.start - c.args.start) _ e)

placed : (q : Query) (facts : Facts) (held : List NodeOrigins) (i : ℕ) (node : Node) (left right : ℕ) → node ≡ line_at q i → right ≡ i - 1
    → left ≡ start_at facts right - 1 → line_origins node (columns_at facts i) (origins_at held right) (origins_at held left) ≡ node_origins q facts held i
placed q facts held i node left right e f g =
    ap₂ (λ (n : Node) (l : ℕ). line_origins n (columns_at facts i) (origins_at held right) (origins_at held l)) e g
    ∙ ap (λ (r : ℕ). line_origins (line_at q i) (columns_at facts i) (origins_at held r) (origins_at held (start_at facts r - 1))) f

pub loop-i-preserved : goal.loop-i-preserved
loop-i-preserved c =
    let found = c.line_origins.ensures
    ∙ placed c.args.sheet.query c.args.sheet.facts c.loop-i.held c.loop-i.i _ _ _ c.node_at-node.ensures c.preceding-right.ensures c.preceding-left.ensures in
    let e : c.loop-i.i + 1 - c.args.start ≡ (c.loop-i.i - c.args.start) + 1 = omega arith in
    let f : c.args.start + (c.loop-i.i - c.args.start) ≡ c.loop-i.i = omega arith in
    ap (set c.loop-i.held c.loop-i.i) found
    ∙ ap (λ (h : List NodeOrigins). set h c.loop-i.i (node_origins c.args.sheet.query c.args.sheet.facts h c.loop-i.i)) c.loop-i.invariant
    ∙ sym (ap (λ (k : ℕ). origins_from c.args.sheet.query c.args.sheet.facts c.args.start k (replicate node_limit no_origins)) e
    ∙ from_more c.args.sheet.query c.args.sheet.facts c.args.start (c.loop-i.i - c.args.start) (replicate node_limit no_origins) c.loop-i.i f)
