-- A sheet without a mu is its own split, and gets the numbers that it got before there were any.
use mathlib.Core.Path.{◌≡◌, refl, ap, ap₂, sym, ◌∙◌}
use mathlib.Core.List.{List, [], ◌∷◌, ◌++◌, map}
use Prim.Native.Nat.{ℕ}
use lib.ListN.{length, take, drop as dropFirst, take-append-drop}
use Rattle.laws.proofs.EachMember.{Each}
use Rattle.laws.proofs.EmptyLists.{each_split}
use Rattle.algebra.specs.Term.{Term, table, var, fact, pair, filter, copy, drop, last, fix, mu}
use Rattle.algebra.specs.Columns.{Schema}
use Rattle.algebra.specs.Split.{split, mus}
use Rattle.algebra.proofs.SplitTerms.{split_identity}
use Rattle.database.specs.Refusals.{Reply, refused, accepted, no_fault, ◌>>=◌}
use Rattle.query.specs.declared.Node.{Node}
use Rattle.query.specs.declared.Node.TheVariants.{Pair, Fix, Mu}
use Rattle.query.specs.declared.Line.{Line}
use Rattle.query.specs.declared.Query.{Query}
use Rattle.query.specs.Lines.{nodes, line, with_nodes, check_form, lines, term_of}
use Rattle.query.specs.Check.{split_faults, split_term, split_sheet, faults, check_query}
use Rattle.query.proofs.TermLines.{term_lines}
use Rattle.query.proofs.Splitting.{split_iff}
use Rattle.query.proofs.CheckReply.{CheckedSplit}

-- no line is a mu
abbrev pub Plain : List Node → Type 0
Plain ns = Each (λ (x : Node). (v : ℕ) → ¬ (x ≡ Mu v)) ns

one_plain : (a : List Node) (x : Node) → Plain (a ++ (x ∷ [])) → Plain a × ((v : ℕ) → ¬ (x ≡ Mu v))
one_plain a x h = let (i, j) = each_split _ a (x ∷ []) h in (i, j.0)

two_plain : (a b : List Node) (x : Node) → Plain (a ++ (b ++ (x ∷ []))) → Plain a × Plain b
two_plain a b x h = let (i, j) = each_split _ a (b ++ (x ∷ [])) h in (i, (one_plain b x j).0)

plain_mus : (t : Term) → Plain (lines t) → mus t ≡ 0
unfolding lines mus
plain_mus (table t) h = refl
plain_mus (var v) h = refl
plain_mus (fact c x) h = refl
plain_mus (pair o a b) h = let (i, j) = two_plain (lines a) (lines b) (Pair o) h in rw (plain_mus a i, plain_mus b j)
plain_mus (filter f a) h = plain_mus a (one_plain (lines a) _ h).0
plain_mus (copy c d a) h = plain_mus a (one_plain (lines a) _ h).0
plain_mus (drop c a) h = plain_mus a (one_plain (lines a) _ h).0
plain_mus (last c a) h = plain_mus a (one_plain (lines a) _ h).0
plain_mus (fix v a b) h = let (i, j) = two_plain (lines a) (lines b) (Fix v) h in rw (plain_mus a i, plain_mus b j)
plain_mus (mu v a) h = absurd ((one_plain (lines a) (Mu v) h).1 v refl)

-- what its lines read to is split already
plain_term : (ns : List Node) (t : Term) → Plain ns → ns ≡ lines t → (mus t ≡ 0) × (split t ≡ t)
plain_term ns t h e = let m : mus t ≡ 0 = plain_mus t (rw (← e) h) in (m, split_identity t m)

-- the query with its own lines
own_lines : (q : Query) → length (nodes q) ≡ q.count → with_nodes q (nodes q) ≡ q
own_lines q e =
    ap₂ (λ (n : ℕ) (l : List Line). record { count = n; lines = l }) e
    (ap₂ (λ (l : List Line) (n : ℕ). l ++ dropFirst n q.lines) (lined (take q.count q.lines)) e ∙ take-append-drop q.count q.lines)
  where
    lined : (l : List Line) → map line (map (λ (x : Line). x.node) l) ≡ l
    lined [] = refl
    lined (x ∷ l) = ap (λ (r : List Line). x ∷ r) (lined l)

pub split_plain : {limit : ℕ} {G : Schema} (q : Query) (t : Term) → CheckedSplit limit q G t → Plain (nodes q) → length (nodes q) ≡ q.count
    → split_sheet q t ≡ q
split_plain q t c h n =
    let e : lines t ≡ nodes q = ap lines (sym c.is_split ∙ (plain_term (nodes q) c.typed h c.written).1) ∙ sym c.written in
    ap (with_nodes q) e ∙ own_lines q n

-- the check of document 01, which knows of no split
abbrev pub plain_check : ℕ → Query → Schema → Reply Term
plain_check limit q G = do
  _ ← check_form G.width limit q
  t ← term_of (nodes q)
  _ ← no_fault (faults G t)
  accepted t

pub plain_check_lem : (limit : ℕ) (q : Query) (G : Schema) → Plain (nodes q) → check_query limit q G ≡ plain_check limit q G
unfolding check_query split_term
plain_check_lem limit q G h = ap (λ (r : Reply Term). check_form G.width limit q >>= λ _. r) (by_term_lem (term_of (nodes q)) refl)
  where
    by_term_lem : (r : Reply Term) → term_of (nodes q) ≡ r
        → (r >>= λ typed. (no_fault (split_faults typed 0) >>= λ _. accepted (split typed)) >>= λ t. no_fault (faults G t) >>= λ _. accepted t)
        ≡ (r >>= λ t. no_fault (faults G t) >>= λ _. accepted t)
    by_term_lem (refused x) e = refl
    by_term_lem (accepted t) e =
        let (m, s) = plain_term (nodes q) t h ((term_lines (nodes q) t).0 e) in
        rw ((split_iff t 0).1 (ap mus s ∙ m), s)
