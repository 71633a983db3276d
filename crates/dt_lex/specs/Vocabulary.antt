-- The words of devicetree source (Devicetree Specification v0.4, 2.2 and 6).
use Rattle.std.specs.Prelude.{◌≡◌, ℕ, ◌%◌, ◌==◌, true, false, List, [], ◌∷◌, ◌++◌, drop, codes, if◌then◌else◌}
use Rattle.dt_lex.specs.declared.byte.Class.{Class}
use Rattle.dt_lex.specs.declared.byte.Class.TheVariants as class
use Rattle.dt_lex.specs.Bytes.{is_in}
use Rattle.dt_lex.specs.Numbers.{digits, number_behind}
use Rattle.dt_lex.specs.Words.{Each, Word, One, Either, Without, Starting, Then, AnyOf, IsLongestWord}

-- one or more bytes of a class
abbrev pub Run : Class → List ℕ → Type 0
Run c = Starting (is_in c) (Each (is_in c))

-- bytes without a `*/`, and `*/`
abbrev pub Closing : List ℕ → Type 0
Closing = Then (Without (codes "*/")) (Word (codes "*/"))

-- `/*` to the next `*/`
abbrev pub BlockComment : List ℕ → Type 0
BlockComment = Then (Word (codes "/*")) Closing

-- `//` to the line's end
abbrev pub LineComment : List ℕ → Type 0
LineComment = Then (Word (codes "//")) (Each (is_in class.Line))

-- what the C preprocessor leaves: an opening, spaces or tabs, a digit, and the rest of the line
abbrev pub LineMarker : List ℕ → List ℕ → Type 0
LineMarker opening =
    Then (Word opening) (Then (Run class.LineBlank) (Starting (is_in class.Digit) (Each (is_in class.Line))))

-- letters, digits and `_`, no digit first
abbrev pub Identifier : List ℕ → Type 0
Identifier = Starting (is_in class.LabelStart) (Each (is_in class.Label))

-- an identifier and `:`
abbrev pub LabelWord : List ℕ → Type 0
LabelWord = Then Identifier (Word (codes ":"))

-- `&` and an identifier
abbrev pub LabelReference : List ℕ → Type 0
LabelReference = Then (Word (codes "&")) Identifier

-- `&{`, bytes of names and `/`, and `}`
abbrev pub PathReference : List ℕ → Type 0
PathReference = Then (Word (codes "&{")) (Then (Each (is_in class.Path)) (Word (codes "}")))

abbrev pub suffixes : List (List ℕ)
suffixes = codes "ULL" ∷ codes "UL" ∷ codes "LL" ∷ codes "U" ∷ codes "L" ∷ [] ∷ []

-- what may stand after an integer's digits
abbrev pub IntegerSuffix : List ℕ → Type 0
IntegerSuffix = AnyOf suffixes

-- one or more digits of a class, and a suffix
abbrev pub Digits : Class → List ℕ → Type 0
Digits c = Starting (is_in c) (Then (Each (is_in c)) IntegerSuffix)

-- a prefix, one or more hexadecimal digits, and a suffix
abbrev pub Hexadecimal : List ℕ → List ℕ → Type 0
Hexadecimal prefix = Then (Word prefix) (Digits class.Hex)

-- the classes of digits
abbrev pub IsDigits : Class → Type 0
IsDigits class.Digit = Unit {0}
IsDigits class.Hex = Unit {0}
IsDigits _ = ⊥

-- two hexadecimal digits
abbrev pub ByteWord : List ℕ → Type 0
ByteWord = Then (One (is_in class.Hex)) (One (is_in class.Hex))

-- ---- escapes

-- the byte that `\` and this byte stand for
abbrev pub simple_value : ℕ → ℕ
simple_value b =
    if b == 97 then 7
    else if b == 98 then 8
    else if b == 116 then 9
    else if b == 110 then 10
    else if b == 118 then 11
    else if b == 102 then 12
    else if b == 114 then 13
    else b

-- one to so many digits of a class
abbrev pub OneDigit : Class → List ℕ → Type 0
OneDigit c = One (is_in c)

-- `\` and one to three octal digits
abbrev pub OctalEscape : List ℕ → Type 0
OctalEscape =
    Then (Word (92 ∷ []))
    (Either (OneDigit class.Octal) (Either (Then (OneDigit class.Octal) (OneDigit class.Octal)) (Then (OneDigit class.Octal) (Then (OneDigit class.Octal) (OneDigit class.Octal)))))

-- `\x` and one or two hexadecimal digits
abbrev pub HexEscape : List ℕ → Type 0
HexEscape = Then (Word (codes "\\x")) (Either (OneDigit class.Hex) (Then (OneDigit class.Hex) (OneDigit class.Hex)))

-- a byte that means another behind `\`: neither an octal digit nor `x`
abbrev pub IsSimple : ℕ → Type 0
IsSimple b = (is_in class.Octal b ≡ false) × (b == 120 ≡ false)

-- An escape, and the byte that it means: octal ones modulo 256.
pub data IsEscape : List ℕ → ℕ → Type 0 where
  simple : (b : ℕ) → IsSimple b → IsEscape (92 ∷ b ∷ []) (simple_value b)
  octal : (w : List ℕ) → OctalEscape w → IsEscape w (number_behind 8 0 (digits (is_in class.Octal) (drop 1 w)) % 256)
  hex : (w : List ℕ) → HexEscape w → IsEscape w (number_behind 16 0 (digits (is_in class.Hex) (drop 2 w)))

abbrev pub Escape : List ℕ → Type 0
Escape w = (b : ℕ) × IsEscape w b

-- What is between the quotes of a text, and its bytes: bytes that mean themselves, and escapes, each as long as it
-- can be.
pub data IsInside : List ℕ → List ℕ → Type 0 where
  nothing : IsInside [] []
  itself : (b : ℕ) (w v : List ℕ) → is_in class.Quoted b ≡ true → IsInside w v → IsInside (b ∷ w) (b ∷ v)
  escaped : (e w v : List ℕ) (b : ℕ) → IsEscape e b → IsLongestWord Escape (e ++ w) e w → IsInside w v → IsInside (e ++ w) (b ∷ v)

-- a text between quotes, and its bytes
pub record IsText (word value : List ℕ) : Type 0 where
  pub inside : List ℕ
  pub whole : word ≡ 34 ∷ (inside ++ 34 ∷ [])
  pub says : IsInside inside value

abbrev pub TextWord : List ℕ → Type 0
TextWord w = (value : List ℕ) × IsText w value

-- a character between quotes, and its value
pub data IsCharacter : List ℕ → ℕ → Type 0 where
  itself_alone : (b : ℕ) → is_in class.Single b ≡ true → IsCharacter (39 ∷ b ∷ 39 ∷ []) b
  escaped_alone : (e : List ℕ) (b : ℕ) → IsEscape e b → IsCharacter (39 ∷ (e ++ 39 ∷ [])) b

abbrev pub CharacterWord : List ℕ → Type 0
CharacterWord w = (value : ℕ) × IsCharacter w value
