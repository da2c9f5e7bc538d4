-- The lines of a query's text are read exactly.
use mathlib.Core.Path.{◌≡◌, refl, sym, ◌∙◌, subst}
use mathlib.Core.Bool.{true, ◌&&◌}
use Rattle.std.specs.Prelude.{Some}
use mathlib.Core.List.{List, [], ◌∷◌, ◌++◌, append-nil}
use Prim.Native.Nat.{ℕ, ◌≤◌}
use Prim.Native.String.{String}
use lib.Dec.{leb}
use borrow.Author.Tests.{leb-true, le-leb}
use Rattle.laws.specs.Lists.{every}
use Rattle.laws.proofs.Options.{some_inj, none_some}
use Rattle.database.specs.declared.Refusal.TheVariants.{NodeCount}
use Rattle.database.specs.Refusals.{Reply, accepted, require, ◌>>=◌}
use Rattle.query.specs.declared.Node.{Node}
use Rattle.query.specs.Lines.{on_form}
use Rattle.text.specs.Numbers.{bytes, max_number, digits, comma_digits}
use Rattle.text.specs.Lines.{word, one, by_form, header_line, count_line, node_line, node_text}
use Rattle.text.proofs.NumberLists.{AllSmall}
use Rattle.text.proofs.Forms.{value_of, plain, plain_unbroken, key_numbers_unbroken, form_read, form_printed, in_range_lem, range_in}
use Rattle.text.proofs.NodeForms.{Small, node_unbroken}
use Rattle.text.proofs.NodeLines.{node_line_lem, line_node}
use Rattle.text.proofs.Exact.{ExactLine}

-- a node that the lines can say, over w columns
abbrev pub GoodNode : ℕ → Node → Type 0
GoodNode w n = (on_form w n ≡ true) × Small n

pub node_exact : (w : ℕ) → ExactLine (node_line w) node_text (GoodNode w)
node_exact w = record {
  reads = λ n (h, s). node_line_lem w n h s;
  unbroken = λ n (_, s). node_unbroken n s;
  printed = λ l n e. let (t, h, s) = line_node w l n e in (t, (h, s));
}

pub header_exact : ExactLine header_line (λ _. bytes "guide=1") (λ _. Unit {0})
unfolding comma_digits plain every bytes
header_exact = record {
  reads = λ _ _.
      form_read (word "guide=1" tt) tt (bytes "guide=1") (record { ns = []; small = tt; value = refl; line = append-nil (bytes "guide=1") });
  unbroken = λ _ _. plain_unbroken (bytes "guide=1") refl;
  printed = λ l _ e. let p = form_printed (word "guide=1" tt) tt l e in (alone l p.ns p.value p.line, tt);
}
  where
    alone : (l ns : List ℕ) → value_of {A = Unit {0}} (word "guide=1" tt) ns ≡ Some tt → bytes "guide=1" ++ comma_digits ns ≡ l → bytes "guide=1" ≡ l
    alone l [] v e = sym (append-nil (bytes "guide=1")) ∙ e
    alone l (n ∷ ns) v e = none_some v

-- a key and one number, at most so much
pub count_exact : (key : String) (most : ℕ) → plain (bytes key) ≡ true
    → ExactLine (count_line key most) (λ n. bytes key ++ digits n) (λ n. (n ≤ most) × (n ≤ max_number))
unfolding comma_digits
count_exact key most p = record {
  reads = λ n (h, s).
      range_in (λ n. leb n most) (by_form (one key (λ n. n)) (bytes key ++ digits n)) n
      (form_read (one key (λ n. n)) n (bytes key ++ digits n) (record { ns = n ∷ []; small = (s, tt); value = refl; line = refl }))
      (le-leb n most h);
  unbroken = λ n _. key_numbers_unbroken key p (n ∷ []);
  printed = λ l n e.
      let (read, low) = in_range_lem (λ n. leb n most) (by_form (one key (λ n. n)) l) n e in
      let q = form_printed (one key (λ n. n)) n l read in
      let (line, small) = single l n q.ns q.small q.value q.line in
      (line, (leb-true n most low, small));
}
  where
    single : (l : List ℕ) (n : ℕ) (ns : List ℕ) → AllSmall ns → value_of (one key (λ n. n)) ns ≡ Some n → bytes key ++ comma_digits ns ≡ l
        → (bytes key ++ digits n ≡ l) × (n ≤ max_number)
    single l n [] s v e = none_some v
    single l n (m ∷ []) (s, _) v e = subst (λ n. (bytes key ++ digits n ≡ l) × (n ≤ max_number)) (some_inj v) (e, s)
    single l n (m ∷ (k ∷ ns)) s v e = none_some v

pub nodes_plain : plain (bytes "nodes=") ≡ true
unfolding plain every bytes
nodes_plain = refl

-- the end of reading a query: its node count is tested
abbrev pub count_tested : ℕ → ℕ → List Node → Reply (List Node)
count_tested limit n ns = require (leb 1 n && leb n limit) (NodeCount 2) >>= λ _. accepted ns
