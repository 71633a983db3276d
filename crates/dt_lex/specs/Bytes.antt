-- Classes of bytes (Devicetree Specification v0.4, 2.2 and 6).
use Rattle.std.specs.Prelude.{ℕ, Bool, ◌||◌, ◌&&◌, not, ◌==◌, nat_le}
use Rattle.std.specs.Char.{is_ascii_hexdigit}
use Rattle.dt_model.specs.Names.{is_name_byte, is_letter, is_digit}
use Rattle.dt_lex.specs.declared.byte.Class.{Class}
use Rattle.dt_lex.specs.declared.byte.Class.TheVariants.{Blank, LineBlank, Line, Name, Path, Label, LabelStart, Quoted, Single, Digit, Octal, Hex}

-- whether a byte is in a class
abbrev pub is_in : Class → ℕ → Bool
is_in Blank b = b == 32 || (nat_le 9 b && nat_le b 13)
is_in LineBlank b = b == 32 || b == 9
is_in Line b = not (b == 10)
is_in Name b = is_name_byte b || b == 64
is_in Path b = is_name_byte b || b == 64 || b == 47
is_in Label b = is_letter b || is_digit b || b == 95
is_in LabelStart b = is_letter b || b == 95
is_in Quoted b = not (b == 34) && not (b == 92)
is_in Single b = not (b == 39) && not (b == 92) && not (b == 10)
is_in Digit b = is_digit b
is_in Octal b = nat_le 48 b && nat_le b 55
is_in Hex b = is_ascii_hexdigit b
