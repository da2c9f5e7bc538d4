-- The moves of lines by which the rules write their sheets.
use Rattle.std.specs.Prelude.{List, ◌∷◌, ◌++◌, map, ℕ, ◌+◌, ◌-◌, take, drop}
use Rattle.algebra.specs.declared.Pairing.TheVariants.{Union, Join}
use Rattle.query.specs.declared.Node.{Node}
use Rattle.query.specs.declared.Node.TheVariants.{Pair, Fix}
use Rattle.query.specs.declared.Line.{Line}
use Rattle.query.specs.declared.Query.{Query}
use Rattle.query.specs.Lines.{line}
use Rattle.rewrite.specs.Patterns.{rename_line}

-- a query with other lines, as many of them counting
abbrev pub with_lines : Query → List Line → Query
with_lines q l = record { count = q.count; lines = l }

-- the elements from a to b and those from b to c exchanged: rules 1 to 5 move [step, fix] behind what follows it, rules 7 to 11
-- a filter before lines that it takes
abbrev pub exchanged : {A : Type 0} → ℕ → ℕ → ℕ → List A → List A
exchanged a b c l = take a l ++ (take (c - b) (drop b l) ++ (take (b - a) (drop a l) ++ drop c l))

-- one element more at s among the first n; what stands past index n stays: kind 7 puts its filter's line behind the left operand
abbrev pub inserted : {A : Type 0} → ℕ → ℕ → A → List A → List A
inserted s n x l = take s l ++ (x ∷ (take (n - s) (drop s l) ++ drop (n + 1) l))

-- the query with one line more
abbrev pub with_inserted : Query → ℕ → Node → Query
with_inserted q s x = record { count = q.count + 1; lines = inserted s q.count (line x) q.lines }

-- "Each `var` of the right fix takes the left one's number."
abbrev pub renamed_line : ℕ → ℕ → Line → Line
renamed_line u v l = line (rename_line u v l.node)

-- rule 6: from the left step's first line, step, fix, right seed, right step, right fix, join becomes right seed, join, step, right step, union, fix.
-- The step starts at s, its fix=v stands at f, the right step starts at m, the join stands at j; the right fix is a fix=u.
abbrev pub merged : ℕ → ℕ → ℕ → ℕ → ℕ → ℕ → List Line → List Line
merged s f m j u v l =
    take s l
    ++ (take (m - (f + 1)) (drop (f + 1) l)
    ++ (line (Pair Join)
    ∷ (take (f - s) (drop s l)
    ++ (map (renamed_line u v) (take (j - 1 - m) (drop m l)) ++ (line (Pair Union) ∷ (line (Fix v) ∷ drop (j + 1) l))))))
