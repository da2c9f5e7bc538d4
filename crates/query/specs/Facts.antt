-- What the check tells later stages of each node. w is the number of columns.
use Rattle.std.specs.Prelude.{List, [], ◌∷◌, ◌++◌, map, ℕ, ◌+◌, ◌-◌, length, replicate, Result, Ok, Err}
use Rattle.laws.specs.Lists.{member, tabulate}
use Rattle.algebra.specs.Term.{Term, table, var, fact, pair, filter, copy, drop, last, fix, mu}
use Rattle.algebra.specs.Columns.{Cols, no_cols, Schema, cols, free, size}
use Rattle.relation.specs.Rows.{columns_of}
use Rattle.database.specs.Stored.{table_limit}
use Rattle.database.specs.declared.Refusal.{Refusal}
use Rattle.database.specs.Refusals.{Reply, refused, accepted}
use Rattle.query.specs.declared.Variables.{Variables}
use Rattle.query.specs.declared.Facts.{Facts}
use Rattle.query.specs.declared.Query.{Query}
use Rattle.query.specs.declared.Checked.{Checked}
use Rattle.query.specs.Lines.{node_limit}
use Rattle.query.specs.Check.{split_sheet}

-- a node of a term: how many lines stand before its own, the term that it ends, the columns of the variable around it, and the numbers of
-- the fixes in whose step it lies, the innermost first
pub record Visit : Type 0 where
  pub start : ℕ
  pub term : Term
  pub variable : Cols
  pub around : List ℕ

-- the nodes of a term, in node order. C, v: the columns of the variable around the term and the fixes around it; n: the lines before its own
unfoldable pub visits : Schema → Cols → List ℕ → ℕ → Term → List Visit
visits G C v n (table t) = record { start = n; term = table t; variable = C; around = v } ∷ []
visits G C v n (var u) = record { start = n; term = var u; variable = C; around = v } ∷ []
visits G C v n (fact c x) = record { start = n; term = fact c x; variable = C; around = v } ∷ []
visits G C v n (pair o a b) =
    visits G C v n a ++ (visits G C v (n + size a) b ++ (record { start = n; term = pair o a b; variable = C; around = v } ∷ []))
visits G C v n (filter f a) = visits G C v n a ++ (record { start = n; term = filter f a; variable = C; around = v } ∷ [])
visits G C v n (copy c d a) = visits G C v n a ++ (record { start = n; term = copy c d a; variable = C; around = v } ∷ [])
visits G C v n (drop c a) = visits G C v n a ++ (record { start = n; term = drop c a; variable = C; around = v } ∷ [])
visits G C v n (last c a) = visits G C v n a ++ (record { start = n; term = last c a; variable = C; around = v } ∷ [])
visits G C v n (fix u a b) =
    visits G C v n a
    ++ (visits G (cols G C a) (u ∷ v) (n + size a) b ++ (record { start = n; term = fix u a b; variable = C; around = v } ∷ []))
visits G C v n (mu u a) = visits G C v n a ++ (record { start = n; term = mu u a; variable = C; around = v } ∷ [])

abbrev pub variables_of : List ℕ → Variables
variables_of l = record { has = tabulate (λ v. member v l) table_limit }

-- a list up to the length of the array
abbrev pub padded : {A : Type 0} → A → List A → List A
padded a l = l ++ replicate (node_limit - length l) a

abbrev pub facts_of : Schema → List Visit → Facts
facts_of G vs =
    record {
      start = padded 0 (map (λ (x : Visit). x.start) vs);
      free = padded (variables_of []) (map (λ (x : Visit). variables_of (free x.term)) vs);
      columns = padded (columns_of G.width no_cols) (map (λ (x : Visit). columns_of G.width (cols G x.variable x.term)) vs);
    }

abbrev pub visited : Schema → Reply Term → List Visit
visited G (refused r) = []
visited G (accepted t) = visits G no_cols [] 0 t

-- of a query q, what the check replies to it: a refusal, or the split sheet with what it tells of each node
abbrev pub checked_value : Schema → Query → Reply Term → Result Checked Refusal
checked_value G q (refused r) = Err r
checked_value G q (accepted t) = Ok (record { query = split_sheet q t; facts = facts_of G (visits G no_cols [] 0 t) })
