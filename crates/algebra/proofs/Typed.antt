-- Over tables whose mappings have exactly their table's columns, each mapping of a closed term's meaning has exactly the term's columns.
use Rattle.algebra.specs.Mapping.{Mapping}
use Rattle.algebra.specs.Term.{Term, Environment, meaning}
use Rattle.algebra.specs.Columns.{no_cols, Schema, cols}
use Rattle.algebra.specs.WellFormed.{Closed}
use Rattle.algebra.proofs.Domain.{Domain, TypedTables}
use Rattle.algebra.proofs.Typing.{closed_typed}

pub typed : {G : Schema} {t : Term} → Closed G t → (T : Environment) → TypedTables G T
    → (ρ : Environment) (m : Mapping) → meaning T t ρ m → Domain m (cols G no_cols t)
typed {G} p T tables = closed_typed G T tables p
