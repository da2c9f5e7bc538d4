-- A text of a header, a count and so many parts: the accepted texts are those printed for the values of such parts.
use mathlib.Core.Path.{◌≡◌, refl, ◌∙◌}
use mathlib.Core.Bool.{true}
use mathlib.Core.List.{List, [], ◌++◌, flat_map, append-nil}
use Prim.Native.Nat.{ℕ, ◌≤◌}
use Prim.Native.String.{String}
use lib.ListN.{length}
use Rattle.laws.proofs.EachMember.{Each}
use Rattle.database.specs.declared.Refusal.{Refusal}
use Rattle.database.specs.Refusals.{Reply, accepted, ◌>>=◌}
use Rattle.text.specs.Numbers.{bytes, max_number, digits}
use Rattle.text.specs.Lines.{Rest, due, many, ended, whole, header_line, count_line}
use Rattle.text.specs.Texts.{line_text}
use Rattle.text.proofs.Forms.{plain}
use Rattle.text.proofs.ReplyLaws.{bind_accepted, required}
use Rattle.text.proofs.Exact.{Exact, put_together, nothing_after, reads_then, due_exact, many_exact}
use Rattle.text.proofs.Lines.{header_exact, count_exact}

-- how both texts are read: finish has the count and what was read
abbrev pub counted_from : {A B : Type 0} → (ℕ → Refusal) → String → ℕ → (Rest → Reply (A × Rest)) → (ℕ → List A → Reply B) → Rest → Reply B
counted_from bad key most part finish s = do
  (_, s₁) ← due bad header_line s
  (n, s₂) ← due bad (count_line key most) s₁
  (l, s₃) ← many part n s₂
  _ ← ended bad s₃
  finish n l

abbrev pub read_counted : {A B : Type 0} → (ℕ → Refusal) → String → ℕ → (Rest → Reply (A × Rest)) → (ℕ → List A → Reply B) → List ℕ → Reply B
read_counted bad key most part finish text = counted_from bad key most part finish (whole text)

abbrev pub counted_text : {A : Type 0} → String → (A → List ℕ) → List A → List ℕ
counted_text key text l = line_text (bytes "guide=1") ++ (line_text (bytes key ++ digits (length l)) ++ flat_map text l)

module _ {A B : Type 0} (bad : ℕ → Refusal) (key : String) (most : ℕ) (p : plain (bytes key) ≡ true)
    {part : Rest → Reply (A × Rest)} {text : A → List ℕ} {Good : A → Type 0} (x : Exact part text Good) (finish : ℕ → List A → Reply B) where
  pub counted_reads : (l : List A) → length l ≤ most → length l ≤ max_number → Each Good l
      → read_counted bad key most part finish (counted_text key text l) ≡ finish (length l) l
  counted_reads l few small good =
      let reads : Reply B → Type 0 = λ r. r ≡ finish (length l) l in
      let parts = flat_map text l in
      reads_then reads (due_exact bad header_exact) tt tt 1 (line_text (bytes key ++ digits (length l)) ++ parts) _ λ k₁.
      reads_then reads (due_exact bad (count_exact key most p)) (length l) (few, small) k₁ parts _ λ k₂.
      rw (← append-nil parts)
      (reads_then reads (many_exact x (length l)) l (good, refl) k₂ [] _ λ k₃. refl)

  pub counted_printed : (t : List ℕ) (b : B) → read_counted bad key most part finish t ≡ accepted b
      → (l : List A) × (t ≡ counted_text key text l) × (length l ≤ most) × Each Good l × (finish (length l) l ≡ accepted b)
  counted_printed t b e =
      bind_accepted (due bad header_line (whole t)) _ e λ (_, s₁) header e₁.
      bind_accepted (due bad (count_line key most) s₁) _ e₁ λ (n, s₂) count e₂.
      bind_accepted (many part n s₂) _ e₂ λ (l, s₃) parts e₃.
      bind_accepted (ended bad s₃) _ e₃ λ _ over last.
      let (b₁, _) = (due_exact bad header_exact).printed (whole t) s₁ tt header in
      let (b₂, (few, _)) = (due_exact bad (count_exact key most p)).printed s₁ s₂ n count in
      let (b₃, (good, counted)) = (many_exact x n).printed s₂ s₃ l parts in
      let same = put_together (line_text (bytes "guide=1")) (line_text (bytes key ++ digits n)) (flat_map text l) s₃.bytes b₁ b₂ b₃ in
      let all = same ∙ nothing_after _ s₃.bytes (required _ _ tt over) in
      (l, rw counted all, rw counted few, good, rw counted last)
