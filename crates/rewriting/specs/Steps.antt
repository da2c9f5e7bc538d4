-- The step of a checked query by its lines and what the check tells: what kinds 1 to 6 find (`matching`), and kinds 7 to 11 (`passing`). That this is the
-- papers' step is a theorem (`step_exact`).
use Rattle.std.specs.Prelude.{ℕ, leb}
use Rattle.laws.specs.Lists.{when◌then◌else◌}
use Rattle.database.specs.Refusals.{Reply}
use Rattle.query.specs.declared.Query.{Query}
use Rattle.query.specs.declared.Facts.{Facts}
use Rattle.matching.specs.Found.{found_at, reply_to, at_node}
use Rattle.passing.specs.Passing.{pass_reply}

-- of kind k at the node of index i
abbrev pub kind_reply : ℕ → Query → Facts → ℕ → ℕ → Reply Query
kind_reply limit q facts k i = when leb k 6 then reply_to q facts i (found_at q facts k i) else pass_reply limit q facts k i

-- of kind k at node n
abbrev pub step_reply : ℕ → Query → Facts → ℕ → ℕ → Reply Query
step_reply limit q facts k n = at_node q (kind_reply limit q facts k) n
