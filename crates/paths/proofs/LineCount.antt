-- The number of a path's lines, counted without writing them; "Each plus has eight lines of its own, so the recursion numbers never run out."
use mathlib.Core.Path.{◌≡◌, refl, ◌∙◌}
use Prim.Native.Nat.{ℕ, ◌+◌, ◌*◌, ◌≤◌}
use native.Mathlib.Omega.{arith}
use lib.ListN.{length}
use Rattle.algebra.specs.Columns.{size}
use Rattle.query.proofs.Reading.{size_lines}
use Rattle.paths.specs.Grammar.{PropertyPath, name, alternative, sequence, inverse, plus}
use Rattle.paths.specs.Sheets.{recursions, term_from, path_lines, line_count}

term_size : (n : ℕ) (p : PropertyPath) → size (term_from n p) ≡ line_count p
unfolding size term_from line_count
term_size n (name t) = refl
term_size n (alternative p q) = omega (arith, term_size n p, term_size (n + recursions p) q)
term_size n (sequence p q) = omega (arith, term_size n p, term_size (n + recursions p) q)
term_size n (inverse p) = omega (arith, term_size n p)
term_size n (plus p) = omega (arith, term_size n p, term_size (n + recursions p) p)

pub line_count_lem : (p : PropertyPath) → length (path_lines p) ≡ line_count p
line_count_lem p = size_lines (term_from 0 p) ∙ term_size 0 p

pub eight_each : (p : PropertyPath) → 8 * recursions p + 1 ≤ line_count p
unfolding recursions line_count
eight_each (name t) = omega arith
eight_each (alternative p q) = omega (arith, eight_each p, eight_each q)
eight_each (sequence p q) = omega (arith, eight_each p, eight_each q)
eight_each (inverse p) = omega (arith, eight_each p)
eight_each (plus p) = omega (arith, eight_each p)
