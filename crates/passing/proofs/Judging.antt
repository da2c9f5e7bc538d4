-- What the tests of a kind reply tells of the room.
use mathlib.Core.Path.{◌≡◌, refl}
use mathlib.Core.Bool.{Bool, true, false}
use Prim.Native.Nat.{ℕ, ◌≤◌}
use native.Mathlib.Omega.{arith}
use borrow.Author.Tests.{lt-ltb, ltb-true}
use Rattle.std.specs.Prelude.{Some}
use Rattle.database.specs.declared.Refusal.TheVariants.{NodeCount, SideLacks}
use Rattle.database.specs.Refusals.{accepted, require, ◌>>=◌}
use Rattle.query.specs.declared.Query.{Query}
use Rattle.query.specs.declared.Facts.{Facts}
use Rattle.query.specs.Lines.{node_limit}
use Rattle.passing.specs.declared.Passed.{Passed}
use Rattle.passing.specs.declared.Passed.TheVariants.{PastUnion, PastLeft, PastRight, PastExcept, PastFilter}
use Rattle.passing.specs.Passing.{room_at, side_at, pass_judged}

-- room within a limit is room within a higher one
more_room : (q : Query) (m : Passed) {limit most : ℕ} → limit ≤ most → room_at limit q m ≡ true → room_at most q m ≡ true
more_room q (PastUnion f) {limit} {most} h e = lt-ltb q.count most (omega (arith, ltb-true q.count limit e))
more_room q (PastLeft f) h e = refl
more_room q (PastRight f) h e = refl
more_room q PastExcept h e = refl
more_room q PastFilter h e = refl

has_room : (r s : Bool) (m : Passed) {p : Passed} → (require r (NodeCount 0) >>= (λ _. require s SideLacks >>= (λ _. accepted m))) ≡ accepted p → r ≡ true
has_room false s m e = let z : ◌≡◌ {A = ℕ} 0 1 = cc in absurd (omega arith)
has_room true s m e = refl

-- a step that is judged accepted has room
pub accepted_room : (limit : ℕ) (q : Query) (facts : Facts) (i : ℕ) (m p : Passed) → limit ≤ node_limit → pass_judged limit q facts i (Some m) ≡ accepted p
    → room_at node_limit q m ≡ true
accepted_room limit q facts i m p h e = more_room q m h (has_room (room_at limit q m) (side_at q facts i m) m e)
