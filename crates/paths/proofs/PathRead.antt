-- A text is accepted exactly if it is a path of the grammar of at most limit bytes, with its one tree; 21 has exactly the place that `BadPlace` says.
use mathlib.Core.Path.{◌≡◌}
use Rattle.std.specs.Prelude.{Some}
use mathlib.Core.List.{List}
use mathlib.Core.Logic.{◌↔◌}
use Prim.Native.Nat.{ℕ, ◌≤◌}
use lib.ListN.{length}
use Rattle.laws.specs.Options.{◌then◌}
use Rattle.database.specs.declared.Refusal.TheVariants.{PathForm}
use Rattle.database.specs.Refusals.{refused, accepted}
use Rattle.paths.specs.Grammar.{PropertyPath, PathText}
use Rattle.paths.specs.Reader.{start, finished, read_path}
use Rattle.paths.proofs.Walks.{walk}
use Rattle.paths.proofs.GrammarRead.{derived_read}
use Rattle.paths.proofs.PathReply.{BadPlace, PathReply, off_path, a_path}
use Rattle.paths.proofs.ReadsExactly.{path_nonempty, reads_exactly}

module _ (limit : ℕ) (text : List ℕ) where
  pub path_read : (p : PropertyPath) → (read_path limit text ≡ accepted p) ↔ (PathText text p × (length text ≤ limit))
  path_read p = ((λ e. reason ((reads_exactly limit text (accepted p)).0 e)), λ (d, h). (reads_exactly limit text (accepted p)).1 (a_path p d (path_nonempty text d) h))
    where
      reason : {p : PropertyPath} → PathReply limit text (accepted p) → PathText text p × (length text ≤ limit)
      reason (a_path p d _ h) = (d, h)

  -- an accepted text, byte by byte
  pub path_walked : (p : PropertyPath) → read_path limit text ≡ accepted p → (walk start text then finished) ≡ Some p
  path_walked p e = derived_read ((path_read p).0 e).0

  pub path_place : (n : ℕ) → (read_path limit text ≡ refused (PathForm n)) ↔ BadPlace limit text n
  path_place n = ((λ e. reason ((reads_exactly limit text (refused (PathForm n))).0 e)), λ h. (reads_exactly limit text (refused (PathForm n))).1 (off_path n h))
    where
      reason : {n : ℕ} → PathReply limit text (refused (PathForm n)) → BadPlace limit text n
      reason (off_path n h) = h
