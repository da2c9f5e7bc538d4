-- A pass as a loop over the nodes: the first fault so far.
use mathlib.Core.Path.{◌≡◌, refl, ap, ap₂, sym, ◌∙◌}
use mathlib.Core.List.{List, [], ◌∷◌, ◌++◌}
use Prim.Native.Nat.{ℕ, ◌+◌, ◌<◌}
use lib.ListN.{length, get_or, take, drop}
use lib.Seq.{take-length}
use Rattle.std.proofs.lemmas.List.{take-append-drop}
use Rattle.laws.proofs.Passes.{walk, walk_append, walk_more}
use Rattle.std.specs.Prelude.{Err}
use Rattle.algebra.specs.Term.{Term}
use Rattle.algebra.specs.Columns.{no_cols, Schema}
use Rattle.database.specs.declared.Refusal.{Refusal}
use Rattle.database.specs.Refusals.{Verdict, no_refusal}
use Rattle.database.specs.Refusals.{Reply, verdict, no_fault, ◌>>=◌}
use Rattle.query.specs.declared.Query.{Query}
use Rattle.query.specs.Check.{first_pass, second_pass}
use Rattle.query.specs.Facts.{Visit}
use Rattle.query.specs.Shape.{Shaped}
use Rattle.query.specs.Passes.{no_visit, visits_of, numbers, first_at, second_at, first_of, first_verdict, second_verdict}
use Rattle.query.proofs.ShapedNodes.{nodes_are}
use Rattle.query.proofs.Walks.{first_walk, second_walk}

-- the first fault of two lists
pub first_of_faults : (l m : List Refusal) → first_of (verdict (no_fault l)) (verdict (no_fault m)) ≡ verdict (no_fault (l ++ m))
first_of_faults [] m = refl
first_of_faults (r ∷ l) m = refl

module _ (f : List Visit → Visit → List Refusal) (vs : List Visit) where
  -- what the first i nodes give
  abbrev pub found : ℕ → Verdict
  found i = verdict (no_fault (walk f [] (take i vs)))

  pub found_none : no_refusal ≡ found 0
  unfolding walk
  found_none = refl

  pub found_more : (i : ℕ) → i < length vs → (u v : Verdict) → u ≡ found i → v ≡ verdict (no_fault (f (take i vs) (get_or vs i no_visit)))
      → first_of u v ≡ found (i + 1)
  found_more i h u v e g =
      ap₂ first_of e g ∙ first_of_faults (walk f [] (take i vs)) (f (take i vs) (get_or vs i no_visit))
      ∙ ap (λ (l : List Refusal). verdict (no_fault l)) (sym (walk_more f vs i no_visit h))

  -- where the nodes before have no fault, that of a node is the first of all
  pub found_first : (i : ℕ) → i < length vs → no_refusal ≡ found i → {r : Refusal}
      → Err r ≡ verdict (no_fault (f (take i vs) (get_or vs i no_visit))) → Err r ≡ verdict (no_fault (walk f [] vs))
  found_first i h e {r} g =
      let rest = walk f (take (i + 1) vs) (drop (i + 1) vs) in
      ap (λ (v : Verdict). first_of v (verdict (no_fault rest))) (found_more i h no_refusal (Err r) e g)
      ∙ first_of_faults (walk f [] (take (i + 1) vs)) rest
      ∙ ap (λ (l : List Refusal). verdict (no_fault l)) (sym (walk_append f [] (take (i + 1) vs) (drop (i + 1) vs)))
      ∙ ap (λ (l : List Visit). verdict (no_fault (walk f [] l))) (take-append-drop (i + 1) vs)

  pub found_all : (i : ℕ) → i ≡ length vs → found i ≡ verdict (no_fault (walk f [] vs))
  found_all i e = ap (λ (l : List Visit). verdict (no_fault (walk f [] l))) (ap (λ (k : ℕ). take k vs) e ∙ take-length vs)

module _ (q : Query) (start : List ℕ) (s : Shaped q start) (G : Schema) where
  -- what the walks reply is what the passes do
  pub first_verdict_lem : verdict (no_fault (walk first_at [] (visits_of G q))) ≡ first_verdict q
  unfolding numbers
  first_verdict_lem =
      ap (λ (l : List Visit). verdict (no_fault (walk first_at [] l))) (nodes_are q start s G)
      ∙ ap (λ (l : List Refusal). verdict (no_fault l)) (first_walk G s.term [] no_cols [] 0)
      ∙ ap (λ (r : Reply Term). verdict (r >>= λ t. no_fault (first_pass t [] [] 0))) (sym s.reads)

  pub second_verdict_lem : verdict (no_fault (walk (second_at G) [] (visits_of G q))) ≡ second_verdict G q
  second_verdict_lem =
      ap (λ (l : List Visit). verdict (no_fault (walk (second_at G) [] l))) (nodes_are q start s G)
      ∙ ap (λ (l : List Refusal). verdict (no_fault l)) (second_walk G s.term [] no_cols [] 0)
      ∙ ap (λ (r : Reply Term). verdict (r >>= λ t. no_fault (second_pass G t no_cols 0))) (sym s.reads)
