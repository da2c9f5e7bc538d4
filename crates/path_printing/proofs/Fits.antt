-- The text of a path's sheet fits into what the program lends: its lines are short, and there are few of them.
use mathlib.Core.Path.{◌≡◌, refl, ap, sym, ◌∙◌}
use mathlib.Core.List.{List, [], ◌∷◌, ◌++◌, flat_map}
use Prim.Native.Nat.{ℕ, ◌*◌, ◌^◌, ◌≤◌, ◌<◌}
use native.Mathlib.Nat.{mul-le-mul_right}
use native.Mathlib.Omega.{arith}
use lib.Dec.{leb, lit≤}
use lib.ListN.{length, length-append}
use Rattle.laws.proofs.EachMember.{Each}
use Rattle.algebra.specs.declared.Pairing.{Pairing}
use Rattle.algebra.specs.declared.Pairing.TheVariants.{Union, Join, Except}
use Rattle.relation.specs.Rows.{columns}
use Rattle.database.specs.declared.Refusal.TheVariants.{ShortSlice}
use Rattle.std.specs.Prelude.{Ok}
use Rattle.database.specs.Refusals.{Reply, refused, accepted, require, ◌>>=◌}
use Rattle.database.proofs.Replies.{accepted_then}
use Rattle.query.specs.declared.Node.{Node}
use Rattle.query.specs.declared.Node.TheVariants.{Pair, Copy}
use Rattle.query.specs.declared.Query.{Query}
use Rattle.query.specs.Lines.{node_limit, nodes}
use Rattle.text.specs.Numbers.{bytes, digits, comma_digits}
use Rattle.text.specs.Lines.{node_text}
use Rattle.text.specs.Texts.{Table, database_value, query_value, line_text, query_text}
use Rattle.text.specs.Replies.{load_tables, query_reply, store_after}
use Rattle.text.proofs.QueryValue.{nodes_value}
use Rattle.writing.specs.Rooms.{line_room}
use Rattle.writing.proofs.Rooms.{digits_room, commas_room, each_room, line_room_lem}
use Rattle.paths.specs.Reader.{path_limit, read_path}
use Rattle.paths.specs.Sheets.{path_nodes}
use Rattle.paths.proofs.OnForm.{OfLines}
use Rattle.paths.proofs.PathSheet.{path_each}
use Rattle.answering.specs.Answer.{taken, empty_store}
use Rattle.answering.specs.Stages.{reply_room}
use Rattle.path_printing.specs.Printed.{path_over, sheet_text, path_bytes}
use Rattle.path_printing.proofs.Over.{ok_not_err, ok_same}

-- the longest is `pair=except`
abbrev longest : ℕ
longest = line_room 5 6

abbrev Short : Node → Type 0
Short x = length (line_text (node_text x)) ≤ longest

-- a key and a number of at most two digits
numbered : (key : List ℕ) (n : ℕ) → length key ≤ 6 → n < 10 ^ 2 → length (line_text (key ++ digits n)) ≤ longest
numbered key n h k = omega (arith, line_room_lem key (digits n) (digits_room 2 n (lit≤ tt) k))

short_pair : (o : Pairing) → Short (Pair o)
unfolding node_text bytes
short_pair Union = lit≤ tt
short_pair Join = lit≤ tt
short_pair Except = lit≤ tt

short_copy : (c d : ℕ) → c < 3 → d < 3 → Short (Copy c d)
unfolding node_text bytes
short_copy c d h k =
    let low : 3 ≤ 10 ^ 1 = lit≤ tt in
    omega (arith, line_room_lem (bytes "copy=") (comma_digits (c ∷ (d ∷ []))) (commas_room 1 (c ∷ (d ∷ [])) (lit≤ tt) (omega arith, (omega arith, tt))))

short_lines : OfLines Short
unfolding node_text bytes
short_lines =
    let low : 16 ≤ 10 ^ 2 = lit≤ tt in
    record {
      of_table = λ t h. numbered (bytes "table=") t (lit≤ tt) (omega arith);
      of_var = λ v h. numbered (bytes "var=") v (lit≤ tt) (omega arith);
      of_pair = short_pair;
      of_copy = short_copy;
      of_drop = λ c h. numbered (bytes "drop=") c (lit≤ tt) (omega arith);
      of_fix = λ v h. numbered (bytes "fix=") v (lit≤ tt) (omega arith);
    }

text_fits : (ns : List Node) → Each Short ns → length ns ≤ node_limit → length (query_text ns) ≤ reply_room
unfolding query_text bytes
text_fits ns h few =
    let lines = each_room (λ x. line_text (node_text x)) longest ns h in
    let most : length ns * longest ≤ node_limit * longest = mul-le-mul_right longest few in
    let low : node_limit < 10 ^ 3 = lit≤ tt in
    let count = line_room_lem (bytes "nodes=") (digits (length ns)) (digits_room 3 (length ns) (lit≤ tt) (omega arith)) in
    let first : List ℕ = line_text (bytes "guide=1") in
    let second : List ℕ = line_text (bytes "nodes=" ++ digits (length ns)) in
    let rest : List ℕ = flat_map (λ x. line_text (node_text x)) ns in
    let header : length first ≤ line_room 7 0 = lit≤ tt in
    omega (arith, length-append first (second ++ rest), length-append second rest)

-- the tests, from the last back
abbrev once_loaded : List ℕ → List Table → Reply (List Node)
once_loaded path ts = path_nodes columns node_limit path (database_value columns ts) (store_after (accepted ts) empty_store)

abbrev once_short : List ℕ → List ℕ → Reply (List Node)
once_short path book = load_tables columns book empty_store >>= once_loaded path

pub sheet_fits : (path book : List ℕ) (ns : List Node) → path_over path book ≡ accepted ns → length (query_text ns) ≤ reply_room
unfolding path_over
sheet_fits path book ns e =
    let room : Reply (Unit {0}) = require (leb (length book) taken.bytes) ShortSlice in
    let (_, _, f) = accepted_then (read_path path_limit path) (λ _. room >>= λ _. once_short path book) e in
    let (_, _, g) = accepted_then room (λ _. once_short path book) f in
    let (ts, _, h) = accepted_then (load_tables columns book empty_store) (once_loaded path) g in
    let (short, few) =
    path_each columns node_limit (database_value columns ts) (store_after (accepted ts) empty_store) (lit≤ tt) (lit≤ tt) Short short_lines path ns h in
    text_fits ns short few

-- the lines of a sheet that was read are the path's
sheet_read : (r : Reply (List Node)) {q : Query} → Ok q ≡ query_reply r → (ns : List Node) × (r ≡ accepted ns) × (q ≡ query_value ns)
sheet_read (refused r) e = ok_not_err e
sheet_read (accepted ns) e = (ns, refl, ok_same e)

-- the text of a sheet that was read is what is printed, and fits
pub sheet_told : (path book : List ℕ) {q : Query} → Ok q ≡ query_reply (path_over path book)
    → (query_text (nodes q) ≡ path_bytes path book) × (length (path_bytes path book) ≤ reply_room)
sheet_told path book e =
    let (ns, is, same) = sheet_read (path_over path book) e in
    let lines = ap (λ q. query_text (nodes q)) same ∙ ap query_text (nodes_value ns) in
    (lines ∙ ap sheet_text (sym is), rw is (sheet_fits path book ns is))
