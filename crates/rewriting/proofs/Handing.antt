-- A refused step of the split sheet is handed back as one of the query as given, an accepted one as it stands.
use mathlib.Core.Path.{◌≡◌}
use Rattle.std.specs.Prelude.{Result, Ok, Err}
use Rattle.database.specs.Refusals.{Reply, refused, accepted}
use Rattle.query.specs.declared.Query.{Query}
use Rattle.rewrite.specs.declared.Unchanged.{Unchanged}
use Rattle.rewrite.specs.Rewrite.{rewritten}

module _ (split q : Query) (x y : Result Query Unchanged) (same : (p : Query) → x ≡ Ok p → y ≡ Ok p)
    (back : (u : Unchanged) → x ≡ Err u → y ≡ Err (record { query = q; refusal = u.refusal })) where
  pub as_given : (r : Reply Query) → x ≡ rewritten split r → y ≡ rewritten q r
  as_given (refused c) e = back (record { query = split; refusal = c }) e
  as_given (accepted p) e = same p e
