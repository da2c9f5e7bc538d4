-- The five rules that move a filter past another line are sound, at closed and at open nodes alike, and whatever the filter compares: that a filter sees
-- only the columns that it names (`holds_same`) is all that is asked of it.
use mathlib.Core.Path.{◌≡◌, refl, ap, sym, ◌∙◌, subst}
use mathlib.Core.Bool.{true}
use Rattle.std.specs.Prelude.{Option, Some, None}
use mathlib.Core.Logic.{inl, inr, ◌↔◌}
use Prim.Native.Nat.{ℕ, ◌+◌, ◌≤◌}
use native.Mathlib.Omega.{arith}
use lib.Dec.{eqb}
use Rattle.laws.specs.Lists.{when◌then◌else◌}
use Rattle.laws.proofs.Options.{none_some, some_inj}
use Rattle.laws.proofs.Tests.{true_false, same?}
use Rattle.laws.proofs.Lists.{count}
use Rattle.algebra.specs.declared.Pairing.{Pairing}
use Rattle.algebra.specs.declared.Pairing.TheVariants.{Union, Join, Except}
use Rattle.algebra.specs.declared.Condition.{Condition}
use Rattle.algebra.specs.Mapping.{Mapping, Relation, or_else, combine}
use Rattle.algebra.specs.Term.{Term, table, var, fact, pair, filter, copy, drop, last, fix, mu, Environment, Holds, paired, meaning, bind}
use Rattle.algebra.specs.Columns.{Cols, no_cols, Schema, pair_cols, cols, named, size, fix_numbers}
use Rattle.algebra.specs.WellFormed.{Each, Closed, c_pair, c_filter, Path, p_union, p_left, p_right, p_except, p_filter}
use Rattle.algebra.specs.Past.{Past, past_union, past_left, past_right, past_except, past_filter, past_pair, under_filter, find_past, adds_node, side_has, SideHas, moved}
use Rattle.algebra.proofs.Mappings.{Equal, equal_trans, is_some, join_comm}
use Rattle.algebra.proofs.ColumnSets.{same_at_lem}
use Rattle.algebra.proofs.Each.{each_map, every_each, each_every, holds_same}
use Rattle.algebra.proofs.Domain.{Domain, TypedTables, domain_at}
use Rattle.algebra.proofs.Typing.{cols_closed, closed_typed, path_typed}
use Rattle.algebra.proofs.Alike.{select_equal}
use Rattle.algebra.proofs.Swap.{TypedBy, ForClosed, ForPath, Swap}

-- the node at which a kind finds its filter
abbrev pub past_node : Past → Term
past_node (past_union f a b) = filter f (pair Union a b)
past_node (past_left f a b) = filter f (pair Join a b)
past_node (past_right f a b) = filter f (pair Join a b)
past_node (past_except f a b) = filter f (pair Except a b)
past_node (past_filter f g a) = filter f (filter g a)

-- what a kind finds, case by case: what holds of each rule's own node under its kind holds of all that is found
module _ (P : ℕ → Term → Past → Type 0)
    (at-union : (f : Condition) (a b : Term) → P 7 (filter f (pair Union a b)) (past_union f a b))
    (at_left : (f : Condition) (a b : Term) → P 8 (filter f (pair Join a b)) (past_left f a b))
    (at_right : (f : Condition) (a b : Term) → P 9 (filter f (pair Join a b)) (past_right f a b))
    (at-except : (f : Condition) (a b : Term) → P 10 (filter f (pair Except a b)) (past_except f a b))
    (at-filter : (f g : Condition) (a : Term) → P 11 (filter f (filter g a)) (past_filter f g a))
    (k : ℕ) {m : Past} where
  -- one test of the kind
  at_kind : (n : ℕ) (a : Term) (x : Past) → P n a x → (o : Option Past) → (o ≡ Some m → P k a m) → (when eqb k n then Some x else o) ≡ Some m → P k a m
  at_kind n a x h o other e = elim (same? k n) [
    | inl (j, i) ↦ subst (P k a) (some_inj (rw i at e)) (subst (λ (l : ℕ). P l a x) (sym j) h)
    | inr (_, i) ↦ other (rw i at e)
  ]

  in_pair : (f : Condition) (o : Pairing) (a b : Term) → past_pair k f o a b ≡ Some m → P k (filter f (pair o a b)) m
  unfolding past_pair
  in_pair f Union a b e = at_kind 7 _ _ (at-union f a b) None none_some e
  in_pair f Join a b e = at_kind 8 _ _ (at_left f a b) _ (λ i. at_kind 9 _ _ (at_right f a b) None none_some i) e
  in_pair f Except a b e = at_kind 10 _ _ (at-except f a b) None none_some e

  in_filter : (f : Condition) (a : Term) → under_filter k f a ≡ Some m → P k (filter f a) m
  unfolding under_filter
  in_filter f (table t) e = none_some e
  in_filter f (var v) e = none_some e
  in_filter f (fact c w) e = none_some e
  in_filter f (pair o a b) e = in_pair f o a b e
  in_filter f (filter g a) e = at_kind 11 _ _ (at-filter f g a) None none_some e
  in_filter f (copy c d a) e = none_some e
  in_filter f (drop c a) e = none_some e
  in_filter f (last c a) e = none_some e
  in_filter f (fix v a b) e = none_some e
  in_filter f (mu v a) e = none_some e

  pub past_cases : (a : Term) → find_past k a ≡ Some m → P k a m
  unfolding find_past
  past_cases (table t) e = none_some e
  past_cases (var v) e = none_some e
  past_cases (fact c w) e = none_some e
  past_cases (pair o a b) e = none_some e
  past_cases (filter f a) e = in_filter f a e
  past_cases (copy c d a) e = none_some e
  past_cases (drop c a) e = none_some e
  past_cases (last c a) e = none_some e
  past_cases (fix v a b) e = none_some e
  past_cases (mu v a) e = none_some e

-- what a kind finds is what stands there
pub past_found : (k : ℕ) (a : Term) {m : Past} → find_past k a ≡ Some m → a ≡ past_node m
past_found k a e =
    past_cases (λ _ b m. b ≡ past_node m) (λ f a b. refl) (λ f a b. refl) (λ f a b. refl) (λ f a b. refl) (λ f g a. refl) k a e

-- kind 7 is the one that adds a node
pub past_adds : (k : ℕ) (a : Term) {m : Past} → find_past k a ≡ Some m → adds_node m ≡ eqb k 7
unfolding adds_node
past_adds k a e =
    past_cases (λ l _ m. adds_node m ≡ eqb l 7) (λ f a b. refl) (λ f a b. refl) (λ f a b. refl) (λ f a b. refl) (λ f g a. refl) k a e

pub side_iff : (G : Schema) (C : Cols) (m : Past) → (side_has G C m ≡ true) ↔ SideHas G C m
unfolding side_has
side_iff G C (past_union f a b) = ((λ _. tt), λ _. refl)
side_iff G C (past_left f a b) = (every_each (named f) (cols G C a), each_every (named f) (cols G C a))
side_iff G C (past_right f a b) = (every_each (named f) (cols G C b), each_every (named f) (cols G C b))
side_iff G C (past_except f a b) = ((λ _. tt), λ _. refl)
side_iff G C (past_filter f g a) = ((λ _. tt), λ _. refl)

-- "Kind 7 adds a node", the others none
pub moved_size : (m : Past) → size (moved m) ≡ size (past_node m) + (when adds_node m then 1 else 0)
unfolding moved size adds_node
moved_size (past_union f a b) = omega arith
moved_size (past_left f a b) = omega arith
moved_size (past_right f a b) = omega arith
moved_size (past_except f a b) = omega arith
moved_size (past_filter f g a) = omega arith

moved_numbers : (m : Past) (n : ℕ) → count n (fix_numbers (moved m)) ≤ count n (fix_numbers (past_node m))
unfolding moved fix_numbers
moved_numbers (past_union f a b) n = omega arith
moved_numbers (past_left f a b) n = omega arith
moved_numbers (past_right f a b) n = omega arith
moved_numbers (past_except f a b) n = omega arith
moved_numbers (past_filter f g a) n = omega arith

-- The same rows: a filter of paired relations, and paired relations of which one is filtered.

select : Condition → Relation → Relation
select f R m = R m × Holds f m

-- each row has the filter's columns
Covered : Condition → Relation → Type 0
Covered f R = (x : Mapping) → R x → Each (λ c. is_some (x c) ≡ true) (named f)

-- rows of these columns have the filter's, which are among them
covered : (f : Condition) (D : Cols) {R : Relation} → Each (λ c. D c ≡ true) (named f) → ((x : Mapping) → R x → Domain x D) → Covered f R
unfolding Covered
covered f D h typed x r = each_map (named f) (λ c e. domain_at x D c (typed x r) e) h

first_some : (o p : Option ℕ) → is_some o ≡ true → o ≡ or_else o p
first_some None p e = true_false (sym e)
first_some (Some a) p e = refl

-- a joined row has there what the left one has
first_same : (f : Condition) (x y : Mapping) → Each (λ c. is_some (x c) ≡ true) (named f) → Each (λ c. x c ≡ combine x y c) (named f)
unfolding combine
first_same f x y h = each_map (named f) (λ c e. first_some (x c) (y c) e) h

join_select : (f : Condition) (R S : Relation) → Covered f R → Equal (select f (paired Join R S)) (paired Join (select f R) S)
unfolding paired select Covered
join_select f R S has m = (
  (λ ((x, y, r, s, c, e), h).
      let i = first_same f x y (has x r) in
      (x, y, (r, holds_same f m x (each_map (named f) (λ d j. ap (λ (z : Mapping). z d) e ∙ sym j) i) h), s, c, e)),
  (λ (x, y, (r, h), s, c, e).
      let i = first_same f x y (has x r) in
      ((x, y, r, s, c, e), holds_same f x m (each_map (named f) (λ d j. j ∙ sym (ap (λ (z : Mapping). z d) e)) i) h)),
)

join_sides : (R S : Relation) → Equal (paired Join R S) (paired Join S R)
join_sides R S m = (join_comm R S m, join_comm S R m)

-- the rows of the named side have the filter's columns
abbrev SideCovered : Environment → Environment → Past → Type 0
SideCovered T ρ (past_union f a b) = Unit {0}
SideCovered T ρ (past_left f a b) = Covered f (meaning T a ρ)
SideCovered T ρ (past_right f a b) = Covered f (meaning T b ρ)
SideCovered T ρ (past_except f a b) = Unit {0}
SideCovered T ρ (past_filter f g a) = Unit {0}

past_keeps : (T ρ : Environment) (m : Past) → SideCovered T ρ m → Equal (meaning T (past_node m) ρ) (meaning T (moved m) ρ)
unfolding moved meaning paired select
past_keeps T ρ (past_union f a b) _ = λ x. (
  (λ (r, h). elim r [ inl y ↦ inl (y, h) | inr y ↦ inr (y, h) ]),
  (elim [ inl (y, h) ↦ (inl y, h) | inr (y, h) ↦ (inr y, h) ]),
)
past_keeps T ρ (past_left f a b) has = join_select f (meaning T a ρ) (meaning T b ρ) has
past_keeps T ρ (past_right f a b) has =
    let R = meaning T a ρ in
    let S = meaning T b ρ in
    equal_trans (select_equal (Holds f) (join_sides R S)) (equal_trans (join_select f S R has) (join_sides (select f S) R))
past_keeps T ρ (past_except f a b) _ = λ x. ((λ ((r, n), h). ((r, h), n)), λ ((r, h), n). ((r, n), h))
past_keeps T ρ (past_filter f g a) _ = λ x. ((λ ((r, h), i). ((r, i), h)), λ ((r, i), h). ((r, h), i))

-- The named side, closed or on the path, has the filter's columns: by the columns that the test looks at, and by its rows.

module _ (G : Schema) (C : Cols) (f : Condition) (a : Term) where
  abbrev Has : Cols → Type 0
  Has D = Each (λ c. cols G D a c ≡ true) (named f)

  -- a closed side's columns do not depend on the variable's
  closed_has : Closed G a → Has C → Has no_cols
  closed_has p h = each_map (named f) (λ c e. same_at_lem (cols_closed G no_cols C p) c ∙ e) h

  closed_covers : Closed G a → Has C → (T : Environment) → TypedTables G T → (ρ : Environment) → Covered f (meaning T a ρ)
  closed_covers p h T tables ρ = covered f (cols G no_cols a) (closed_has p h) (λ x. closed_typed G T tables p ρ x)

  path_covers : (v : ℕ) → Path G v C a → Has C → (T : Environment) → TypedTables G T → (ρ : Environment) (S : Relation) → TypedBy C S → Covered f (meaning T a (bind ρ v S))
  path_covers v p h T tables ρ S typed = covered f (cols G C a) h (λ x. path_typed G T tables p ρ S typed x)

module _ (G : Schema) (C : Cols) where
  past_closed : (m : Past) → SideHas G C m → Closed G (past_node m) → ForClosed G (past_node m) (moved m)
  unfolding moved cols pair_cols
  past_closed (past_union f a b) _ (c_filter (c_pair p q e) i) = record {
    closed = c_pair (c_filter p i) (c_filter q (each_map (named f) (λ c h. sym (same_at_lem e c) ∙ h) i)) e;
    columns = refl;
    keeps = λ T tables ρ. past_keeps T ρ (past_union f a b) tt;
  }
  past_closed (past_left f a b) side (c_filter (c_pair p q e) i) = record {
    closed = c_pair (c_filter p (closed_has G C f a p side)) q tt;
    columns = refl;
    keeps = λ T tables ρ. past_keeps T ρ (past_left f a b) (closed_covers G C f a p side T tables ρ);
  }
  past_closed (past_right f a b) side (c_filter (c_pair p q e) i) = record {
    closed = c_pair p (c_filter q (closed_has G C f b q side)) tt;
    columns = refl;
    keeps = λ T tables ρ. past_keeps T ρ (past_right f a b) (closed_covers G C f b q side T tables ρ);
  }
  past_closed (past_except f a b) _ (c_filter (c_pair p q e) i) = record {
    closed = c_pair (c_filter p i) q tt;
    columns = refl;
    keeps = λ T tables ρ. past_keeps T ρ (past_except f a b) tt;
  }
  past_closed (past_filter f g a) _ (c_filter (c_filter p j) i) = record {
    closed = c_filter (c_filter p i) j;
    columns = refl;
    keeps = λ T tables ρ. past_keeps T ρ (past_filter f g a) tt;
  }

  past_path : (m : Past) → SideHas G C m → (v : ℕ) → Path G v C (past_node m) → ForPath G v C (past_node m) (moved m)
  unfolding moved cols pair_cols
  past_path (past_union f a b) _ v (p_filter (p_union p q e) i) = record {
    path = p_union (p_filter p i) (p_filter q (each_map (named f) (λ c h. sym (same_at_lem e c) ∙ h) i)) e;
    columns = refl;
    keeps = λ T tables ρ S typed. past_keeps T (bind ρ v S) (past_union f a b) tt;
  }
  past_path (past_left f a b) side v (p_filter (p_left p q) i) = record {
    path = p_left (p_filter p side) q;
    columns = refl;
    keeps = λ T tables ρ S typed. past_keeps T (bind ρ v S) (past_left f a b) (path_covers G C f a v p side T tables ρ S typed);
  }
  past_path (past_left f a b) side v (p_filter (p_right p q) i) = record {
    path = p_right (c_filter p (closed_has G C f a p side)) q;
    columns = refl;
    keeps = λ T tables ρ S typed. past_keeps T (bind ρ v S) (past_left f a b) (closed_covers G C f a p side T tables (bind ρ v S));
  }
  past_path (past_right f a b) side v (p_filter (p_left p q) i) = record {
    path = p_left p (c_filter q (closed_has G C f b q side));
    columns = refl;
    keeps = λ T tables ρ S typed. past_keeps T (bind ρ v S) (past_right f a b) (closed_covers G C f b q side T tables (bind ρ v S));
  }
  past_path (past_right f a b) side v (p_filter (p_right p q) i) = record {
    path = p_right p (p_filter q side);
    columns = refl;
    keeps = λ T tables ρ S typed. past_keeps T (bind ρ v S) (past_right f a b) (path_covers G C f b v q side T tables ρ S typed);
  }
  past_path (past_except f a b) _ v (p_filter (p_except p q) i) = record {
    path = p_except (p_filter p i) q;
    columns = refl;
    keeps = λ T tables ρ S typed. past_keeps T (bind ρ v S) (past_except f a b) tt;
  }
  past_path (past_filter f g a) _ v (p_filter (p_filter p j) i) = record {
    path = p_filter (p_filter p i) j;
    columns = refl;
    keeps = λ T tables ρ S typed. past_keeps T (bind ρ v S) (past_filter f g a) tt;
  }

-- what the rule writes may be put for its node, closed or open, if the named side has the filter's columns
pub past_sound : (G : Schema) (C : Cols) (m : Past) → SideHas G C m → Swap G C (past_node m) (moved m)
past_sound G C m side = record { closed = past_closed G C m side; path = past_path G C m side; numbers = moved_numbers m }
