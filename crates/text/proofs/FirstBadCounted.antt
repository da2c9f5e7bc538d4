-- The readers of both texts name the first bad line.
use mathlib.Core.Path.{◌≡◌, refl, sym, ◌∙◌, subst}
use mathlib.Core.List.{List}
use Prim.Native.Nat.{ℕ, suc, ◌-◌}
use Prim.Native.String.{String}
use native.Mathlib.Omega.{arith}
use Rattle.database.specs.declared.Refusal.{Refusal}
use Rattle.database.specs.Refusals.{Reply, refused, place_of}
use Rattle.text.specs.Lines.{Rest, whole, header_line, count_line}
use Rattle.text.proofs.Exact.{many_again}
use Rattle.text.proofs.Counted.{counted_from, read_counted}
use Rattle.text.proofs.Carried.{carries_again}
use Rattle.text.proofs.FirstBad.{first_lines, FirstBad}
use Rattle.text.proofs.FirstLines.{fewer_lines}
use Rattle.text.proofs.LineByLine.{Alike, Linewise, one_place, linewise_due, alike_ended}

module _ {B : Type 0} (bad : ℕ → Refusal) (named : (n : ℕ) → place_of (bad n) ≡ n) where
  -- the same refusal where the lines up to it are the same
  same_refusal : (read read' : Rest → Reply B) → Alike bad B read read' → (text text' : List ℕ) (k : ℕ) → first_lines k text ≡ first_lines k text'
      → read (whole text) ≡ refused (bad k) → read' (whole text') ≡ refused (bad k)
  same_refusal read read' x text text' k f e =
      let (low, _) = x.reached (whole text) k e in
      let next : k ≡ suc (k - 1) = omega arith in
      x.same (whole text) (whole text') (k - 1) k (omega arith) refl (subst (λ m. first_lines m text ≡ first_lines m text') next f) e

  first_bad : (read read' : Rest → Reply B) → Alike bad B read read' → Alike bad B read' read
      → (text : List ℕ) (k : ℕ) → read (whole text) ≡ refused (bad k) → FirstBad bad (λ t. read' (whole t)) text k
  first_bad read read' x y text k e =
      let (low, high) = x.reached (whole text) k e in
      record {
        counted = low;
        reached = omega arith;
        before = λ text' f j h e'.
            let again = same_refusal read' read y text' text j (sym (fewer_lines j (k - 1) text text' (omega arith) f)) e' in
            let same = one_place bad B named j k (sym again ∙ e) in
            omega arith;
        there = λ text' f. same_refusal read read' x text text' k f e;
      }

  -- two readers whose ends name no bad line
  module _ {A : Type 0} (key : String) (most : ℕ) (part : Rest → Reply (A × Rest)) (x : Linewise bad B part) where
    abbrev Ends : (ℕ → List A → Reply B) → Type 0
    Ends finish = (n : ℕ) (l : List A) (k : ℕ) → finish n l ≡ refused (bad k) → ⊥

    alike_counted : (f f' : ℕ → List A → Reply B) → Ends f → Alike bad B (counted_from bad key most part f) (counted_from bad key most part f')
    alike_counted f f' g =
        (linewise_due bad B named header_line).carried _ _ λ _.
        (linewise_due bad B named (count_line key most)).carried _ _ λ n.
        (carries_again (Alike bad B) (many_again part) (λ _. x) n tt).carried _ _ λ l.
        alike_ended bad B named (f n l) (g n l) (f' n l)

    pub first_bad_counted : (f f' : ℕ → List A → Reply B) → Ends f → Ends f' → (text : List ℕ) (k : ℕ)
        → read_counted bad key most part f text ≡ refused (bad k) → FirstBad bad (read_counted bad key most part f') text k
    first_bad_counted f f' g g' =
        first_bad (counted_from bad key most part f) (counted_from bad key most part f') (alike_counted f f' g) (alike_counted f' f g')
