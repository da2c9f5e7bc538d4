-- There are no more recursions than lines, so within the limit each number is low, and raising it is what the code does.
use mathlib.Core.Path.{◌≡◌, refl, ap, ap₂, sym, ◌∙◌}
use Rattle.std.specs.Prelude.{Option, Some, None}
use mathlib.Core.List.{List, [], ◌∷◌, ◌++◌, map, map-append}
use Prim.Native.Nat.{ℕ, ◌+◌, ◌≤◌, min}
use native.Mathlib.Omega.{arith}
use lib.ListN.{length, length-append, length-map}
use Rattle.algebra.specs.declared.Pairing.TheVariants.{Union}
use Rattle.query.specs.declared.Node.{Node}
use Rattle.query.specs.declared.Node.TheVariants.{Var, Pair, Fix}
use Rattle.query.specs.Lines.{node_limit}
use Rattle.paths.specs.Grammar.{PropertyPath, name, alternative, sequence, inverse, plus}
use Rattle.paths.specs.Reader.{Frame, frame}
use Rattle.paths.specs.Sheets.{recursions, line_count}
use Rattle.paths.specs.Patterns.{to_middle, from_middle, exchange, lines_from, raised}
use Rattle.paths.specs.Written.{recursions_of, lines_before, frame_recursions, frame_lines, outer_recursions, outer_lines}
use Rattle.paths.proofs.PathLines.{path_lines_lem, lines_raised}
use Rattle.paths.proofs.LineCount.{line_count_lem, eight_each}
use Rattle.path_sheets.specs.Put.{raised_low}

lines_length : (n : ℕ) (p : PropertyPath) → length (lines_from n p) ≡ line_count p
lines_length n p =
    let e : n ≡ 0 + n = omega arith in
    ap (λ m. length (lines_from m p)) e ∙ ap length (lines_raised n 0 p) ∙ length-map (lines_from 0 p) (raised n)
    ∙ ap length (sym (path_lines_lem 0 p)) ∙ line_count_lem p

pub few_own : (n : ℕ) (p : PropertyPath) → recursions p ≤ length (lines_from n p)
few_own n p = omega (arith, lines_length n p, eight_each p)

few_before : (behind : List Node) (n : ℕ) (a : Option PropertyPath) → recursions_of a ≤ length (lines_before behind n a)
few_before behind n None = omega arith
few_before behind n (Some p) = omega (arith, length-append (lines_from n p) behind, few_own n p)

few_frame : (n : ℕ) (f : Frame) → frame_recursions f ≤ length (frame_lines n f)
few_frame n (frame a s i) =
    omega (arith, length-append (lines_before [] n a) (lines_before to_middle (n + recursions_of a) s), few_before [] n a, few_before to_middle (n + recursions_of a) s)

pub few_outer : (fs : List Frame) → outer_recursions fs ≤ length (outer_lines fs)
unfolding outer_recursions outer_lines
few_outer [] = omega arith
few_outer (f ∷ fs) =
    omega (arith, length-append (outer_lines fs) (frame_lines (outer_recursions fs) f), few_outer fs, few_frame (outer_recursions fs) f)

module _ (r : ℕ) where
  -- lines whose numbers are low
  abbrev Low : List Node → Type 0
  Low l = map (raised_low r) l ≡ map (raised r) l

  low_append : (l m : List Node) → Low l → Low m → Low (l ++ m)
  low_append l m e f = map-append (raised_low r) l m ∙ ap₂ ◌++◌ e f ∙ sym (map-append (raised r) l m)

  low_number : (v : ℕ) → v ≤ node_limit → min v node_limit + r ≡ v + r
  low_number v h = omega arith

  pub low_lines : (n : ℕ) (p : PropertyPath) → n + recursions p ≤ node_limit → Low (lines_from n p)
  unfolding lines_from recursions
  low_lines n (name t) h = refl
  low_lines n (alternative p q) h =
      low_append (lines_from n p) _ (low_lines n p (omega arith))
      (low_append (lines_from (n + recursions p) q) (Pair Union ∷ []) (low_lines (n + recursions p) q (omega arith)) refl)
  low_lines n (sequence p q) h =
      low_append (lines_from n p) _ (low_lines n p (omega arith))
      (low_append to_middle (lines_from (n + recursions p) q ++ from_middle) refl (low_append (lines_from (n + recursions p) q) from_middle (low_lines (n + recursions p) q (omega arith)) refl))
  low_lines n (inverse p) h = low_append (lines_from n p) exchange (low_lines n p h) refl
  low_lines n (plus p) h =
      let v = n + (recursions p + recursions p) in
      let e = low_number v (omega arith) in
      let again = lines_from (n + recursions p) p in
      let last = from_middle ++ (Fix v ∷ []) in
      low_append (lines_from n p) _ (low_lines n p (omega arith))
      (ap₂ (λ k (l : List Node). Var k ∷ l) e
      (low_append to_middle (again ++ last) refl
      (low_append again last (low_lines (n + recursions p) p (omega arith)) (low_append from_middle (Fix v ∷ []) refl (ap (λ k. Fix k ∷ []) e)))))
