-- The tests of a path's text one after the other: the first refusal is the reply.
use mathlib.Core.Path.{◌≡◌}
use mathlib.Core.List.{List}
use Prim.Native.Nat.{ℕ}
use Rattle.database.specs.declared.Database.{Database}
use Rattle.database.specs.declared.Refusal.{Refusal}
use Rattle.std.specs.Prelude.{Err}
use Rattle.database.specs.Stored.{schema, check_database}
use Rattle.database.specs.Refusals.{Reply, refused, accepted, verdict, no_fault, no_refusal}
use Rattle.database.proofs.Verdicts.{verdict_accepted, verdict_refused}
use Rattle.query.specs.declared.Node.{Node}
use Rattle.paths.specs.Grammar.{PropertyPath}
use Rattle.paths.specs.Reader.{path_limit, read_path}
use Rattle.paths.specs.Sheets.{names, name_faults, lines_within, path_nodes}

module _ (w limit : ℕ) (text : List ℕ) (d : Database) (store : List ℕ) where
  -- what is replied
  abbrev reply : Reply (List Node)
  reply = path_nodes w limit text d store

  -- 21
  pub off_grammar : {r : Refusal} → Err r ≡ verdict (read_path path_limit text) → reply ≡ refused r
  unfolding path_nodes
  off_grammar e = rw (verdict_refused (read_path path_limit text) e)

  module _ (p : PropertyPath) (read : read_path path_limit text ≡ accepted p) where
    -- 11
    pub off_form : {r : Refusal} → Err r ≡ verdict (check_database w d store) → reply ≡ refused r
    unfolding path_nodes
    off_form e = rw (read, verdict_refused (check_database w d store) e)

    module _ (stored : no_refusal ≡ verdict (check_database w d store)) where
      -- 10 or 9
      pub bad_name : {r : Refusal} → Err r ≡ verdict (no_fault (name_faults (schema w d) (names p))) → reply ≡ refused r
      unfolding path_nodes
      bad_name e = rw (read, (verdict_accepted (check_database w d store) stored).1, verdict_refused (no_fault (name_faults (schema w d) (names p))) e)

      -- 2, or the lines
      pub named : no_refusal ≡ verdict (no_fault (name_faults (schema w d) (names p))) → reply ≡ lines_within limit p
      unfolding path_nodes
      named e = rw (read, (verdict_accepted (check_database w d store) stored).1, (verdict_accepted (no_fault (name_faults (schema w d) (names p))) e).1)
