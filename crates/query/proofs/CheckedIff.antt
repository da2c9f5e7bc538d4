-- The two passes find no fault exactly in the well-formed terms. Narrow: the columns that the term names lie below the width, where the
-- passes look; lines on the form give it.
use mathlib.Core.Path.{◌≡◌}
use mathlib.Core.List.{[]}
use mathlib.Core.Logic.{◌↔◌}
use native.Mathlib.Omega.{arith}
use Rattle.laws.proofs.Lists.{count}
use Rattle.laws.proofs.EmptyLists.{append_none}
use Rattle.algebra.specs.Term.{Term}
use Rattle.algebra.specs.Columns.{Schema, no_cols, fix_numbers}
use Rattle.algebra.proofs.Distinct.{count_distinct, distinct_count}
use Rattle.algebra.specs.WellFormed.{WellFormed}
use Rattle.algebra.proofs.Narrow.{Narrow}
use Rattle.query.specs.Check.{first_pass, second_pass, faults}
use Rattle.query.proofs.FirstPass.{numbers_apart}
use Rattle.query.proofs.Formed.{formed_closed}
use Rattle.query.proofs.Complete.{closed_clear, closed_columns}

pub checked_iff : (G : Schema) (t : Term) → Narrow G t → (faults G t ≡ []) ↔ WellFormed G t
unfolding faults count
checked_iff G t h = (
  (λ e.
      let (i, j) = (append_none (first_pass t [] [] 0) (second_pass G t no_cols 0)).0 e in
      record {
        closed = formed_closed G t h i j;
        distinct = count_distinct (fix_numbers t) (numbers_apart t [] [] 0 i (λ n. omega arith));
      }),
  (λ f. (append_none _ _).1 ((closed_clear f.closed []).none [] 0 (distinct_count (fix_numbers t) f.distinct), closed_columns f.closed no_cols 0)),
)
