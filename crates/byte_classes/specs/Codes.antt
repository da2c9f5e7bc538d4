-- A class as a number, for `is_byte`: a digit is its value, and the classes of one byte come before those of several.
use Rattle.std.specs.Prelude.{ℕ}
use Rattle.byte_classes.specs.declared.ByteClass.{ByteClass}
use Rattle.byte_classes.specs.declared.ByteClass.TheVariants.{Digit, Letter, Comma, Equals, LineEnd, Other}

-- the first code of a class of several bytes
abbrev pub several : ℕ
several = 13

abbrev pub code_of : ByteClass → ℕ
code_of (Digit value) = value
code_of Comma = 10
code_of Equals = 11
code_of LineEnd = 12
code_of Letter = several
code_of Other = 14
