-- What a writer of a text replies, and what the lent slice holds afterwards.
use Rattle.std.specs.Prelude.{List, ◌++◌, ℕ, leb, length, drop}
use Rattle.laws.specs.Lists.{when◌then◌else◌}
use Rattle.std.specs.Prelude.{Result, Ok, Err}
use Rattle.database.specs.declared.Refusal.{Refusal}
use Rattle.database.specs.declared.Refusal.TheVariants.{ShortSlice}

-- a text written into a lent slice: whole, or not at all where the slice is short
abbrev pub write_reply : List ℕ → List ℕ → Result ℕ Refusal
write_reply text slice = when leb (length text) (length slice) then Ok (length text) else Err ShortSlice

abbrev pub slice_after : List ℕ → List ℕ → List ℕ
slice_after text slice = when leb (length text) (length slice) then text ++ drop (length text) slice else slice
