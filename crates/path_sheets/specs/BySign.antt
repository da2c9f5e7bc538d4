-- What each sign does to what is written.
use Rattle.std.specs.Prelude.{Option, Some, Bool, true, false, [], ◌++◌, ℕ, ◌+◌, ◌-◌, min, leb, get_or, set, replicate}
use Rattle.laws.specs.Lists.{when◌then◌else◌}
use Rattle.laws.specs.Options.{mapped}
use Rattle.query.specs.declared.Node.TheVariants.{Table}
use Rattle.query.specs.Lines.{node_limit}
use Rattle.text.specs.Texts.{query_value}
use Rattle.paths.specs.declared.Sign.{Sign}
use Rattle.paths.specs.declared.Sign.TheVariants.{Digit, Alternate, Follow, Invert, Repeat, Enter, Leave, Other}
use Rattle.paths.specs.Reader.{path_limit}
use Rattle.paths.specs.Patterns.{to_middle}
use Rattle.path_sheets.specs.declared.Sheet.{Sheet}
use Rattle.path_sheets.specs.declared.Before.{Before}
use Rattle.path_sheets.specs.declared.Writing.{Writing}
use Rattle.path_sheets.specs.Put.{put_line, put_all, sequence_last, path_last, plus_lines, replaced}

abbrev pub no_before : Before
no_before = record { alternatives = false; sequence = false; inverted = false; first = 0; number = 0 }

abbrev pub no_writing : ℕ → Writing
no_writing limit =
    record {
      sheet = record { query = query_value []; limit = limit };
      numbers = 0;
      ended = false;
      before = no_before;
      depth = 0;
      outer = replicate path_limit no_before;
    }

-- an operand is due behind the lines of s, with a: alternatives before it, and q: a sequence
abbrev pub due_with : Writing → Sheet → Bool → Bool → Writing
due_with w s a q =
    record {
      sheet = s;
      numbers = w.numbers;
      ended = false;
      before = record { alternatives = a; sequence = q; inverted = false; first = s.query.count; number = w.numbers };
      depth = w.depth;
      outer = w.outer;
    }

-- an operand has ended with the lines of s and n recursions
abbrev pub ended_with : Writing → Sheet → ℕ → Writing
ended_with w s n = record { sheet = s; numbers = n; ended = true; before = w.before; depth = w.depth; outer = w.outer }

-- behind a sign, if its lines find room
abbrev pub by_digit : Writing → ℕ → Option Writing
by_digit w d =
    when w.ended
    then Some (ended_with w (replaced w.sheet w.before.first (Table (10 + d))) w.numbers)
    else mapped (λ (s : Sheet). ended_with w s w.numbers) (put_line w.sheet (Table d))

abbrev pub by_bar : Writing → Option Writing
by_bar w = mapped (λ (s : Sheet). due_with w s true false) (put_all w.sheet (path_last w.before))

abbrev pub by_slash : Writing → Option Writing
by_slash w = mapped (λ (s : Sheet). due_with w s w.before.alternatives true) (put_all w.sheet (sequence_last w.before ++ to_middle))

abbrev pub by_caret : Writing → Writing
by_caret w =
    record {
      sheet = w.sheet;
      numbers = w.numbers;
      ended = false;
      before = record {
        alternatives = w.before.alternatives;
        sequence = w.before.sequence;
        inverted = true;
        first = w.before.first;
        number = w.before.number;
      };
      depth = w.depth;
      outer = w.outer;
    }

-- the recursions of an operand, and the number of its plus: the operand's recursions come twice
abbrev pub own_numbers : Writing → ℕ
own_numbers w = min w.numbers node_limit - w.before.number

abbrev pub plus_number : Writing → ℕ
plus_number w = min w.numbers node_limit + own_numbers w

abbrev pub by_plus : Writing → Option Writing
by_plus w =
    mapped (λ (s : Sheet). ended_with w s (plus_number w + 1)) (put_all w.sheet (plus_lines w.sheet.query w.before.first (own_numbers w) (plus_number w)))

abbrev pub by_enter : Writing → Writing
by_enter w =
    when leb path_limit w.depth then w else
    record {
      sheet = w.sheet;
      numbers = w.numbers;
      ended = false;
      before = record { alternatives = false; sequence = false; inverted = false; first = w.sheet.query.count; number = w.numbers };
      depth = w.depth + 1;
      outer = set w.outer w.depth w.before;
    }

abbrev pub by_leave : Writing → Option Writing
by_leave w =
    when leb path_limit (w.depth - 1) then Some w else
    mapped (λ (s : Sheet). record {
      sheet = s;
      numbers = w.numbers;
      ended = true;
      before = get_or w.outer (w.depth - 1) no_before;
      depth = w.depth - 1;
      outer = w.outer;
    }) (put_all w.sheet (path_last w.before))

abbrev pub by_sign : Writing → Sign → Option Writing
by_sign w (Digit d) = by_digit w d
by_sign w Alternate = by_bar w
by_sign w Follow = by_slash w
by_sign w Invert = Some (by_caret w)
by_sign w Repeat = by_plus w
by_sign w Enter = Some (by_enter w)
by_sign w Leave = by_leave w
by_sign w Other = Some w
