-- The term of a checked query, its mus split: its lines are on the form, and it has no more nodes than the query.
use mathlib.Core.Path.{◌≡◌, ap}
use Prim.Native.Nat.{ℕ, ◌≤◌}
use native.Mathlib.Omega.{arith}
use lib.ListN.{length, take, length-take, length-map}
use Rattle.laws.proofs.EmptyLists.{each_index}
use Rattle.algebra.specs.Term.{Term}
use Rattle.algebra.specs.Columns.{Schema, size}
use Rattle.algebra.proofs.SplitTerms.{split_size, closed_unsplit}
use Rattle.query.specs.declared.Node.TheVariants.{Table}
use Rattle.query.specs.declared.Line.{Line}
use Rattle.query.specs.declared.Query.{Query}
use Rattle.query.specs.Lines.{nodes, lines}
use Rattle.query.proofs.Reading.{size_lines}
use Rattle.query.proofs.CheckReply.{Checked, CheckedSplit}
use Rattle.query.proofs.Splitting.{LinesFormed, split_formed}

-- a query has no more lines than it counts
pub few_nodes : (q : Query) → length (nodes q) ≤ q.count
few_nodes q = omega (arith, length-map (take q.count q.lines) (λ (l : Line). l.node), length-take q.count q.lines)

module _ {limit : ℕ} {q : Query} {G : Schema} where
  pub term_formed : {t : Term} → CheckedSplit limit q G t → LinesFormed G.width t
  term_formed c =
      rw (← c.is_split)
      (split_formed G.width c.typed
      (rw (← c.written) (each_index _ (Table 0) (nodes q) (λ i h. c.on_form_lem i (let f = few_nodes q in omega arith)))))

  -- "one node fewer" for each mu
  pub term_few : {t : Term} → CheckedSplit limit q G t → size t ≤ q.count
  term_few c =
      let h = split_size {G = G} c.typed (rw c.is_split c.well_formed.closed) in
      omega (arith, few_nodes q, ap length c.written, size_lines c.typed, ap size c.is_split)

  -- lines of a well-formed term need no splitting
  pub well_checked : {t : Term} → Checked limit q G t → CheckedSplit limit q G t
  well_checked {t} c = record {
    in_range_lem = c.in_range_lem;
    on_form_lem = c.on_form_lem;
    typed = t;
    written = c.written;
    is_split = closed_unsplit c.well_formed.closed;
    well_formed = c.well_formed;
  }

  -- of a query whose own lines are the checked term's
  pub own_checked : {t : Term} → nodes q ≡ lines t → CheckedSplit limit q G t → Checked limit q G t
  own_checked e c = record { in_range_lem = c.in_range_lem; on_form_lem = c.on_form_lem; written = e; well_formed = c.well_formed }
