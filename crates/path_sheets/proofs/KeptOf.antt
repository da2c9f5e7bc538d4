-- What the code keeps of a reader's state: the lines written in it, as far as there is room, its recursions, and what stands before its operand.
use mathlib.Core.Path.{◌≡◌, refl, ap, ap₂, sym, ◌∙◌}
use mathlib.Core.Bool.{Bool, true, false}
use Rattle.std.specs.Prelude.{Option, Some, None}
use mathlib.Core.List.{List, [], ◌∷◌, ◌++◌}
use Prim.Native.Nat.{ℕ, ◌+◌, ◌≤◌}
use native.Mathlib.Omega.{arith}
use lib.ListN.{length, take, length-append, length-replicate}
use Rattle.laws.specs.Options.{present}
use Rattle.algebra.specs.declared.Pairing.TheVariants.{Union}
use Rattle.query.specs.declared.Node.{Node}
use Rattle.query.specs.declared.Node.TheVariants.{Pair}
use Rattle.query.specs.Lines.{node_limit}
use Rattle.paths.specs.Grammar.{PropertyPath, name}
use Rattle.paths.specs.Reader.{Frame, frame, Ending, name-one, State, due, ended, start, path_limit}
use Rattle.paths.specs.Sheets.{recursions}
use Rattle.paths.specs.Patterns.{from_middle}
use Rattle.paths.specs.Written.{outer_recursions, outer_lines, written, turn_end, end_behind, sequence_end, path_end}
use Rattle.path_sheets.specs.declared.Before.{Before}
use Rattle.path_sheets.specs.declared.Writing.{Writing}
use Rattle.path_sheets.specs.Put.{put_all, lines_if, sequence_last, path_last}
use Rattle.path_sheets.specs.BySign.{no_before, no_writing, due_with}
use Rattle.path_sheets.proofs.PutLines.{sheet_of, fitting, put_all_lem}

abbrev pub frames_of : State → List Frame
frames_of (due fs f) = fs
frames_of (ended k fs f p) = fs

abbrev pub frame_of : State → Frame
frame_of (due fs f) = f
frame_of (ended k fs f p) = f

abbrev pub ended_of : State → Bool
ended_of (due fs f) = false
ended_of (ended k fs f p) = true

abbrev pub numbers_of : State → ℕ
numbers_of (due fs f) = outer_recursions (f ∷ fs)
numbers_of (ended k fs f p) = outer_recursions (f ∷ fs) + recursions p

abbrev pub before_of : List Frame → Frame → Before
before_of fs (frame a s i) =
    record {
      alternatives = present a;
      sequence = present s;
      inverted = i;
      first = length (outer_lines (frame a s i ∷ fs));
      number = outer_recursions (frame a s i ∷ fs);
    }

-- the outermost first
unfoldable pub outer_of : List Frame → List Before
outer_of [] = []
outer_of (f ∷ fs) = outer_of fs ++ (before_of fs f ∷ [])

pub outer_length : (fs : List Frame) → length (outer_of fs) ≡ length fs
unfolding outer_of
outer_length [] = refl
outer_length (f ∷ fs) = omega (arith, length-append (outer_of fs) (before_of fs f ∷ []), outer_length fs)

-- what is kept of a state; only the entries of open parentheses mean something
abbrev pub writing_of : ℕ → State → List Before → Writing
writing_of limit s outer =
    record {
      sheet = sheet_of limit (written s);
      numbers = numbers_of s;
      ended = ended_of s;
      before = before_of (frames_of s) (frame_of s);
      depth = length (frames_of s);
      outer = outer;
    }

pub record Writes (limit : ℕ) (w : Writing) (s : State) : Type 0 where
  pub outer : List Before
  pub is : w ≡ writing_of limit s outer
  pub fits : length (written s) ≤ limit
  pub inside : take (length (frames_of s)) outer ≡ outer_of (frames_of s)
  pub room : length outer ≡ path_limit

-- the name 1 is the only one that may go on
abbrev pub One : State → Type 0
One (due fs f) = Unit {0}
One (ended k fs f p) = k ≡ name-one → p ≡ name 1

-- the lines that end what stands before an operand
last_lines : (o : Option PropertyPath) (l : List Node) → lines_if (present o) l ≡ end_behind l o
last_lines None l = refl
last_lines (Some p) l = refl

pub sequence_last_lem : (fs : List Frame) (f : Frame) → sequence_last (before_of fs f) ≡ sequence_end f
sequence_last_lem fs (frame a s i) = ap (λ (l : List Node). turn_end i ++ l) (last_lines s from_middle)

path_last_lem : (fs : List Frame) (f : Frame) → path_last (before_of fs f) ≡ path_end f
path_last_lem fs (frame a s i) = ap₂ ◌++◌ (sequence_last_lem fs (frame a s i)) (last_lines a (Pair Union ∷ []))

pub writes_start : (limit : ℕ) → Writes limit (no_writing limit) start
unfolding outer_lines outer_recursions outer_of
writes_start limit =
    record {
      outer = (no_writing limit).outer;
      is = refl;
      fits = omega arith;
      inside = refl;
      room = length-replicate path_limit no_before;
    }

-- an operand is due behind lines
pub due_is : (limit : ℕ) (w : Writing) (fs : List Frame) (a s : Option PropertyPath) → w.numbers ≡ outer_recursions (frame a s false ∷ fs)
    → due_with w (sheet_of limit (outer_lines (frame a s false ∷ fs))) (present a) (present s) ≡ record {
      sheet = sheet_of limit (outer_lines (frame a s false ∷ fs));
      numbers = outer_recursions (frame a s false ∷ fs);
      ended = false;
      before = before_of fs (frame a s false);
      depth = w.depth;
      outer = w.outer;
    }
due_is limit w fs a s n =
    ap (λ m. record {
      sheet = sheet_of limit (outer_lines (frame a s false ∷ fs));
      numbers = m;
      ended = false;
      before = record { alternatives = present a; sequence = present s; inverted = false; first = length (outer_lines (frame a s false ∷ fs)); number = m };
      depth = w.depth;
      outer = w.outer;
    }) n

-- the lines that end a path
pub path_sheet : (limit : ℕ) → limit ≤ node_limit → (k : Ending) (fs : List Frame) (f : Frame) (p : PropertyPath) (l : List Node)
    → length (written (ended k fs f p)) ≤ limit → l ≡ written (ended k fs f p) ++ path_end f
    → put_all (sheet_of limit (written (ended k fs f p))) (path_last (before_of fs f)) ≡ fitting limit l
path_sheet limit low k fs f p l h e =
    put_all_lem limit low (written (ended k fs f p)) (path_last (before_of fs f)) h
    ∙ ap (λ (m : List Node). fitting limit (written (ended k fs f p) ++ m)) (path_last_lem fs f) ∙ ap (fitting limit) (sym e)
