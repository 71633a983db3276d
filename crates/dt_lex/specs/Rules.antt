-- The rules that cut a text (Devicetree Specification v0.4, 6).
use Rattle.std.specs.Prelude.{◌≡◌, ℕ, Bool, true, false, List, [], ◌∷◌, codes}
use Rattle.dt_lex.specs.declared.byte.Class.TheVariants as class
use Rattle.dt_lex.specs.declared.token.Mode.{Mode}
use Rattle.dt_lex.specs.declared.token.Mode.TheVariants as mode
use Rattle.dt_lex.specs.declared.token.Keyword.TheVariants as keyword
use Rattle.dt_lex.specs.declared.token.Mark.TheVariants as mark
use Rattle.dt_lex.specs.declared.rule.Directive.{Directive}
use Rattle.dt_lex.specs.declared.rule.Directive.TheVariants as directive
use Rattle.dt_lex.specs.declared.rule.Rule.{Rule}
use Rattle.dt_lex.specs.declared.rule.Rule.TheVariants as rule
use Rattle.dt_lex.specs.Modes.{mark_bytes, keyword_bytes}
use Rattle.dt_lex.specs.Words.{Word}
use Rattle.dt_lex.specs.Vocabulary.{Run, BlockComment, LineComment, LineMarker, LabelWord, LabelReference, PathReference, ByteWord, Digits, Hexadecimal, CharacterWord, TextWord}

-- the bytes of a directive that is refused
abbrev pub directive_bytes : Directive → List ℕ
directive_bytes directive.Include = codes "/include/"
directive_bytes directive.Incbin = codes "/incbin/"
directive_bytes directive.OmitIfNoRef = codes "/omit-if-no-ref/"

-- the words of a rule
abbrev pub words : Rule → List ℕ → Type 0
words rule.Blanks = Run class.Blank
words rule.BlockComment = BlockComment
words rule.OpenComment = Word (codes "/*")
words rule.LineComment = LineComment
words rule.LineMarker = LineMarker (codes "#")
words rule.LongLineMarker = LineMarker (codes "#line")
words rule.Label = LabelWord
words (rule.Keyword k) = Word (keyword_bytes k)
words (rule.Directive d) = Word (directive_bytes d)
words rule.LabelReference = LabelReference
words rule.PathReference = PathReference
words rule.Name = Run class.Name
words rule.Byte = ByteWord
words rule.Hexadecimal = Hexadecimal (codes "0x")
words rule.CapitalHexadecimal = Hexadecimal (codes "0X")
words rule.Decimal = Digits class.Digit
words rule.Character = CharacterWord
words rule.Text = TextWord
words (rule.Mark m) = Word (mark_bytes m)

abbrev pub in_names : Mode → Bool
in_names mode.Name = true
in_names mode.Bytes = false
in_names mode.Plain = false

abbrev pub in_bytes : Mode → Bool
in_bytes mode.Name = false
in_bytes mode.Bytes = true
in_bytes mode.Plain = false

abbrev pub in_plain : Mode → Bool
in_plain mode.Name = false
in_plain mode.Bytes = false
in_plain mode.Plain = true

-- whether a rule holds in a mode, at the first byte of a line or elsewhere
abbrev pub allowed : Rule → Mode → Bool → Bool
allowed rule.LineMarker m fresh = fresh
allowed rule.LongLineMarker m fresh = fresh
allowed rule.Name m fresh = in_names m
allowed rule.Byte m fresh = in_bytes m
allowed rule.Hexadecimal m fresh = in_plain m
allowed rule.CapitalHexadecimal m fresh = in_plain m
allowed rule.Decimal m fresh = in_plain m
allowed rule.Character m fresh = in_plain m
allowed rule.Text m fresh = in_plain m
allowed _ m fresh = true

-- the words of a rule that holds here
abbrev pub In : Rule → Mode → Bool → List ℕ → Type 0
In r m fresh w = (allowed r m fresh ≡ true) × words r w

-- the rules, in the order in which they are tried
abbrev pub rules : List Rule
rules =
    rule.Blanks ∷ rule.BlockComment ∷ rule.OpenComment ∷ rule.LineComment ∷ rule.LineMarker ∷ rule.LongLineMarker
    ∷ rule.Label
    ∷ rule.Keyword keyword.Version ∷ rule.Keyword keyword.Plugin ∷ rule.Keyword keyword.Memreserve ∷ rule.Keyword keyword.Bits
    ∷ rule.Keyword keyword.DeleteNode ∷ rule.Keyword keyword.DeleteProperty
    ∷ rule.Directive directive.Include ∷ rule.Directive directive.Incbin ∷ rule.Directive directive.OmitIfNoRef
    ∷ rule.LabelReference ∷ rule.PathReference ∷ rule.Name ∷ rule.Byte
    ∷ rule.Hexadecimal ∷ rule.CapitalHexadecimal ∷ rule.Decimal ∷ rule.Character ∷ rule.Text
    ∷ rule.Mark mark.ShiftLeft ∷ rule.Mark mark.ShiftRight ∷ rule.Mark mark.LessOrEqual ∷ rule.Mark mark.GreaterOrEqual
    ∷ rule.Mark mark.Equal ∷ rule.Mark mark.NotEqual ∷ rule.Mark mark.And ∷ rule.Mark mark.Or
    ∷ rule.Mark mark.OpenBrace ∷ rule.Mark mark.CloseBrace ∷ rule.Mark mark.OpenBracket ∷ rule.Mark mark.CloseBracket
    ∷ rule.Mark mark.OpenParenthesis ∷ rule.Mark mark.CloseParenthesis ∷ rule.Mark mark.Less ∷ rule.Mark mark.Greater
    ∷ rule.Mark mark.Semicolon ∷ rule.Mark mark.Equals ∷ rule.Mark mark.Comma ∷ rule.Mark mark.Colon ∷ rule.Mark mark.Question
    ∷ rule.Mark mark.Plus ∷ rule.Mark mark.Minus ∷ rule.Mark mark.Star ∷ rule.Mark mark.Slash ∷ rule.Mark mark.Percent
    ∷ rule.Mark mark.Ampersand ∷ rule.Mark mark.Bar ∷ rule.Mark mark.Caret ∷ rule.Mark mark.Tilde ∷ rule.Mark mark.Exclamation ∷ []
