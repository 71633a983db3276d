-- The bytes of texts and characters as functions, which read on from byte to byte; laws tie them to what they are.
use Rattle.std.specs.Prelude.{ℕ, ◌+◌, ◌-◌, ◌*◌, ◌%◌, ◌==◌, ◌&&◌, nat_lt, List, [], ◌∷◌, length, slice_index, slice_range, if◌then◌else◌}
use Rattle.dt_lex.specs.declared.byte.Class.TheVariants as class
use Rattle.dt_lex.specs.Bytes.{is_in}
use Rattle.dt_lex.specs.Numbers.{digit_of}
use Rattle.dt_lex.specs.Vocabulary.{simple_value}

-- where in a text: among bytes that stand for themselves; behind `\`; behind so many octal digits, or hexadecimal ones, which
-- spell a number
pub data Within : Type 0 where
  plain : Within
  behind_backslash : Within
  octal : (value count : ℕ) → Within
  hex : (value count : ℕ) → Within

-- a byte at the front, and what the bytes behind it say if it begins an escape and if it doesn't
abbrev pub or_escape : ℕ → (escaped itself : List ℕ) → List ℕ
or_escape b escaped itself = if b == 92 then escaped else b ∷ itself

-- the bytes that the rest of a text's inside means
abbrev pub unescaped : Within → List ℕ → List ℕ
unescaped plain [] = []
unescaped plain (b ∷ w) = or_escape b (unescaped behind_backslash w) (unescaped plain w)
unescaped behind_backslash [] = []
unescaped behind_backslash (b ∷ w) =
    if is_in class.Octal b then unescaped (octal (digit_of b) 1) w
    else if b == 120 then unescaped (hex 0 0) w
    else simple_value b ∷ unescaped plain w
unescaped (octal value count) [] = value % 256 ∷ []
unescaped (octal value count) (b ∷ w) =
    if nat_lt count 3 && is_in class.Octal b then unescaped (octal (value * 8 + digit_of b) (count + 1)) w
    else (value % 256) ∷ or_escape b (unescaped behind_backslash w) (unescaped plain w)
unescaped (hex value count) [] = value ∷ []
unescaped (hex value count) (b ∷ w) =
    if nat_lt count 2 && is_in class.Hex b then unescaped (hex (value * 16 + digit_of b) (count + 1)) w
    else value ∷ or_escape b (unescaped behind_backslash w) (unescaped plain w)

-- a word without its first and its last byte
abbrev pub inner : List ℕ → List ℕ
inner w = slice_range w 1 (length w - 1)

-- the bytes that a text between quotes means, without a NUL at their end
abbrev pub text_bytes : List ℕ → List ℕ
text_bytes w = unescaped plain (inner w)

-- the value of a character between quotes
abbrev pub character_value : List ℕ → ℕ
character_value w = slice_index (unescaped plain (inner w)) 0
