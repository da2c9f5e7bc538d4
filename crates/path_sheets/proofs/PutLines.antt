-- Lines put behind a sheet's: one list after another, and what a limit leaves of them.
use mathlib.Core.Path.{◌≡◌, refl, ap, ap₂, sym, ◌∙◌}
use mathlib.Core.Bool.{Bool}
use mathlib.Core.List.{List, [], ◌∷◌, ◌++◌, map, append_assoc, append-nil, map-append, map-map}
use Prim.Native.Nat.{ℕ, suc, ◌+◌, ◌-◌, ◌≤◌, ◌<◌, min}
use native.Mathlib.Omega.{arith}
use native.Mathlib.Decide.{dec_lt}
use lib.Dec.{leb}
use lib.ListN.{length, take, drop, get_or, set, replicate, length-append, length-map}
use lib.Seq.{set_at, append_snoc, drop_at, take_at}
use borrow.Author.Tests.{le-leb, lt-leb}
use Rattle.std.specs.Prelude.{Option, Some, None}
use Rattle.laws.specs.Lists.{when◌then◌else◌}
use Rattle.laws.specs.Options.{mapped, ◌then◌}
use Rattle.laws.proofs.Fronts.{drop_next}
use Rattle.query.specs.declared.Node.{Node}
use Rattle.query.specs.declared.Line.{Line}
use Rattle.query.specs.declared.Query.{Query}
use Rattle.query.specs.Lines.{node_limit, line, blank}
use Rattle.text.specs.Texts.{query_value}
use Rattle.reading.specs.QueryReading.{stored}
use Rattle.reading.proofs.ReaderLawsQuery.{stored_more}
use Rattle.path_sheets.specs.declared.Sheet.{Sheet}
use Rattle.path_sheets.specs.Put.{put_line, put_all, raised_low, again_lines, replaced}

-- lines put in place: what they leave where they found room, and that they found none
pub left_some : {A : Type 0} {r : Option (Unit {0})} {o : Option A} {u : Unit {0}} (a : A) → mapped (λ (_ : Unit {0}). a) r ≡ o → r ≡ Some u → o ≡ Some a
left_some a e f = sym e ∙ ap (mapped (λ (_ : Unit {0}). a)) f

pub left_none : {A : Type 0} {r : Option (Unit {0})} {o : Option A} (a : A) → mapped (λ (_ : Unit {0}). a) r ≡ o → r ≡ None → o ≡ None
left_none a e f = sym e ∙ ap (mapped (λ (_ : Unit {0}). a)) f

pub none_left : {A B : Type 0} {r : Option A} {o : Option B} (f : A → B) → r ≡ None → o ≡ None → mapped f r ≡ o
none_left f e h = ap (mapped f) e ∙ sym h

-- one line is a list of one
pub put_single : (s : Sheet) (x : Node) → put_all s (x ∷ []) ≡ put_line s x
unfolding put_all
put_single s x = by_line (put_line s x)
  where
    by_line : (o : Option Sheet) → (o then (λ (t : Sheet). put_all t [])) ≡ o
    by_line None = refl
    by_line (Some t) = refl

pub put_append : (s : Sheet) (l m : List Node) → put_all s (l ++ m) ≡ (put_all s l then (λ (t : Sheet). put_all t m))
unfolding put_all
put_append s [] m = refl
put_append s (x ∷ l) m = by_line (put_line s x) (λ t. put_append t l m)
  where
    by_line : (o : Option Sheet) → ((t : Sheet) → put_all t (l ++ m) ≡ (put_all t l then (λ (t : Sheet). put_all t m)))
        → (o then (λ (t : Sheet). put_all t (l ++ m))) ≡ (o then (λ (t : Sheet). put_all t l) then (λ (t : Sheet). put_all t m))
    by_line None h = refl
    by_line (Some t) h = h t

-- lines behind those of a list, and behind a line and a list
pub put_more : (s : Sheet) (l m : List Node) {o : Option Sheet} → put_all s l ≡ o → put_all s (l ++ m) ≡ (o then (λ (t : Sheet). put_all t m))
put_more s l m e = put_append s l m ∙ ap (λ (o : Option Sheet). o then (λ (t : Sheet). put_all t m)) e

pub put_behind : (s : Sheet) (x : Node) (l m : List Node) {t u : Sheet} → put_line s x ≡ Some t → put_all t l ≡ Some u
    → put_all s (x ∷ (l ++ m)) ≡ put_all u m
unfolding put_all
put_behind s x l m {t} e f = ap (λ (o : Option Sheet). o then (λ (t : Sheet). put_all t (l ++ m))) e ∙ put_more t l m f

-- the first of the lines that come again
pub again_next : (q : Query) (i end r : ℕ) → i < end → i < length q.lines
    → again_lines q i end r ≡ raised_low r (get_or q.lines i blank).node ∷ again_lines q (i + 1) end r
again_next q i end r h k =
    let f : Line → Node = λ (l : Line). raised_low r l.node in
    let e : end - i ≡ suc (end - (i + 1)) = omega arith in
    ap₂ (λ n (ls : List Line). map f (take n ls)) e (drop_next q.lines i blank k)

pub again_step : (s : Sheet) (q : Query) (i end r : ℕ) {o : Option Sheet} → i < end → i < length q.lines → o ≡ put_line s (raised_low r (get_or q.lines i blank).node)
    → put_all s (again_lines q i end r) ≡ (o then (λ (t : Sheet). put_all t (again_lines q (i + 1) end r)))
unfolding put_all
again_step s q i end r h k e =
    ap (put_all s) (again_next q i end r h k) ∙ ap (λ (o : Option Sheet). o then (λ (t : Sheet). put_all t (again_lines q (i + 1) end r))) (sym e)

-- none is left
pub again_none : (s : Sheet) (q : Query) (i end r : ℕ) → end ≤ i → put_all s (again_lines q i end r) ≡ Some s
unfolding put_all
again_none s q i end r h =
    let e : end - i ≡ 0 = omega arith in
    ap (λ n. put_all s (map (λ (l : Line). raised_low r l.node) (take n (drop i q.lines)))) e

-- the sheet of a list of lines, and whether there is room for them
abbrev pub sheet_of : ℕ → List Node → Sheet
sheet_of limit l = record { query = query_value l; limit = limit }

abbrev pub fitting : ℕ → List Node → Option Sheet
fitting limit l = when leb (length l) limit then Some (sheet_of limit l) else None

pub fits : (limit : ℕ) (l : List Node) → length l ≤ limit → fitting limit l ≡ Some (sheet_of limit l)
fits limit l h = ap (λ (b : Bool). when b then Some (sheet_of limit l) else None) (le-leb (length l) limit h)

pub too_long : (limit : ℕ) (l : List Node) → limit < length l → fitting limit l ≡ None
too_long limit l h = ap (λ (b : Bool). when b then Some (sheet_of limit l) else None) (lt-leb (length l) limit h)

module _ (limit : ℕ) (low : limit ≤ node_limit) where
  put_fits : (l : List Node) (x : Node) → length l < limit → put_line (sheet_of limit l) x ≡ Some (sheet_of limit (l ++ (x ∷ [])))
  unfolding put_line
  put_fits l x h =
      ap (λ (b : Bool). when b then None else Some (record { query = stored (query_value l) x; limit = limit })) (lt-leb limit (length l) h)
      ∙ ap (λ q. Some (record { query = q; limit = limit })) (stored_more l x (omega arith))

  put_full : (l : List Node) (x : Node) → limit ≤ length l → put_line (sheet_of limit l) x ≡ None
  unfolding put_line
  put_full l x h =
      ap (λ (b : Bool). when b then None else Some (record { query = stored (query_value l) x; limit = limit })) (le-leb limit (length l) h)

  pub put_one : (l : List Node) (x : Node) → length l ≤ limit → put_line (sheet_of limit l) x ≡ fitting limit (l ++ (x ∷ []))
  put_one l x h =
      elim (dec_lt (length l) limit) [
        | yes k ↦ put_fits l x k ∙ sym (fits limit (l ++ (x ∷ [])) (omega (arith, length-append l (x ∷ []))))
        | no k ↦ put_full l x (omega arith) ∙ sym (too_long limit (l ++ (x ∷ [])) (omega (arith, length-append l (x ∷ []))))
      ]

  pub put_all_lem : (l m : List Node) → length l ≤ limit → put_all (sheet_of limit l) m ≡ fitting limit (l ++ m)
  unfolding put_all
  put_all_lem l [] h = sym (ap (fitting limit) (append-nil l) ∙ fits limit l h)
  put_all_lem l (x ∷ m) h =
      elim (dec_lt (length l) limit) [
        | yes k ↦
            ap (λ (o : Option Sheet). o then (λ (t : Sheet). put_all t m)) (put_fits l x k)
            ∙ put_all_lem (l ++ (x ∷ [])) m (omega (arith, length-append l (x ∷ []))) ∙ ap (fitting limit) (append_assoc l (x ∷ []) m)
        | no k ↦
            ap (λ (o : Option Sheet). o then (λ (t : Sheet). put_all t m)) (put_full l x (omega arith))
            ∙ sym (too_long limit (l ++ (x ∷ m)) (omega (arith, length-append l (x ∷ m))))
      ]

  -- another last line
  pub replaced_last : (l : List Node) (x y : Node) → length l < limit → replaced (sheet_of limit (l ++ (x ∷ []))) (length l) y ≡ sheet_of limit (l ++ (y ∷ []))
  replaced_last l x y h =
      ap (λ (b : Bool). when b then sheet_of limit (l ++ (x ∷ [])) else record {
        query = record { count = length (l ++ (x ∷ [])); lines = set (query_value (l ++ (x ∷ []))).lines (length l) (line y) };
        limit = limit;
      }) (lt-leb node_limit (length l) (omega arith))
      ∙ ap₂ (λ k ls. record { query = record { count = k; lines = ls }; limit = limit })
      (length-append l (x ∷ []) ∙ sym (length-append l (y ∷ [])))
      (ap (λ (k : List Line). set k (length l) (line y)) (lines_are x) ∙ set_at (map line l) (line x) blanks (line y) (length l) (length-map l line)
      ∙ sym (lines_are y))
    where
      blanks : List Line
      blanks = replicate (node_limit - (length l + 1)) blank

      lines_are : (z : Node) → (query_value (l ++ (z ∷ []))).lines ≡ map line l ++ (line z ∷ blanks)
      lines_are z =
          ap₂ (λ (ls : List Line) k. ls ++ replicate (node_limit - k) blank) (map-append line l (z ∷ [])) (length-append l (z ∷ []))
          ∙ append_snoc (map line l) (line z) blanks

-- the lines behind l come again
pub again_part : (l m : List Node) (r : ℕ) → length (l ++ m) ≤ node_limit
    → again_lines (query_value (l ++ m)) (length l) (min (length (l ++ m)) node_limit) r ≡ map (raised_low r) m
again_part l m r h =
    let f : Line → Node = λ (x : Line). raised_low r x.node in
    let blanks = replicate (node_limit - length (l ++ m)) blank in
    let e : min (length (l ++ m)) node_limit - length l ≡ length m = omega (arith, length-append l m) in
    ap₂ (λ k (ls : List Line). map f (take k (drop (length l) ls))) e
    (ap (λ (ls : List Line). ls ++ blanks) (map-append line l m) ∙ append_assoc (map line l) (map line m) blanks)
    ∙ ap (λ (ls : List Line). map f (take (length m) ls)) (drop_at (map line l) (map line m ++ blanks) (length l) (length-map l line))
    ∙ ap (map f) (take_at (map line m) blanks (length m) (length-map m line))
    ∙ map-map f line m
