-- The modes of reading, and the bytes of marks and keywords.
use Rattle.std.specs.Prelude.{ℕ, List, codes}
use Rattle.dt_lex.specs.declared.token.Mode.{Mode}
use Rattle.dt_lex.specs.declared.token.Mode.TheVariants as mode
use Rattle.dt_lex.specs.declared.token.Keyword.{Keyword}
use Rattle.dt_lex.specs.declared.token.Keyword.TheVariants as keyword
use Rattle.dt_lex.specs.declared.token.Mark.{Mark}
use Rattle.dt_lex.specs.declared.token.Mark.TheVariants as mark
use Rattle.dt_lex.specs.declared.token.TokenKind.{TokenKind}
use Rattle.dt_lex.specs.declared.token.TokenKind.TheVariants as kind

-- the mode that a token leaves outside brackets
abbrev pub mode_outside : TokenKind → Mode → Mode
mode_outside (kind.Mark mark.OpenBracket) m = mode.Bytes
mode_outside (kind.Mark mark.OpenBrace) m = mode.Name
mode_outside (kind.Mark mark.Semicolon) m = mode.Name
mode_outside (kind.Keyword keyword.DeleteNode) m = mode.Name
mode_outside (kind.Keyword keyword.DeleteProperty) m = mode.Name
mode_outside (kind.Keyword keyword.Memreserve) m = mode.Plain
mode_outside kind.Name m = mode.Plain
mode_outside _ m = m

-- the mode that a token leaves between brackets
abbrev pub mode_between : TokenKind → Mode
mode_between (kind.Mark mark.CloseBracket) = mode.Plain
mode_between _ = mode.Bytes

-- the mode that a token leaves
abbrev pub mode_behind : TokenKind → Mode → Mode
mode_behind k mode.Bytes = mode_between k
mode_behind k mode.Name = mode_outside k mode.Name
mode_behind k mode.Plain = mode_outside k mode.Plain

-- the bytes of a mark
abbrev pub mark_bytes : Mark → List ℕ
mark_bytes mark.ShiftLeft = codes "<<"
mark_bytes mark.ShiftRight = codes ">>"
mark_bytes mark.LessOrEqual = codes "<="
mark_bytes mark.GreaterOrEqual = codes ">="
mark_bytes mark.Equal = codes "=="
mark_bytes mark.NotEqual = codes "!="
mark_bytes mark.And = codes "&&"
mark_bytes mark.Or = codes "||"
mark_bytes mark.OpenBrace = codes "{"
mark_bytes mark.CloseBrace = codes "}"
mark_bytes mark.OpenBracket = codes "["
mark_bytes mark.CloseBracket = codes "]"
mark_bytes mark.OpenParenthesis = codes "("
mark_bytes mark.CloseParenthesis = codes ")"
mark_bytes mark.Less = codes "<"
mark_bytes mark.Greater = codes ">"
mark_bytes mark.Semicolon = codes ";"
mark_bytes mark.Equals = codes "="
mark_bytes mark.Comma = codes ","
mark_bytes mark.Colon = codes ":"
mark_bytes mark.Question = codes "?"
mark_bytes mark.Plus = codes "+"
mark_bytes mark.Minus = codes "-"
mark_bytes mark.Star = codes "*"
mark_bytes mark.Slash = codes "/"
mark_bytes mark.Percent = codes "%"
mark_bytes mark.Ampersand = codes "&"
mark_bytes mark.Bar = codes "|"
mark_bytes mark.Caret = codes "^"
mark_bytes mark.Tilde = codes "~"
mark_bytes mark.Exclamation = codes "!"

-- the bytes of a keyword
abbrev pub keyword_bytes : Keyword → List ℕ
keyword_bytes keyword.Version = codes "/dts-v1/"
keyword_bytes keyword.Plugin = codes "/plugin/"
keyword_bytes keyword.Memreserve = codes "/memreserve/"
keyword_bytes keyword.Bits = codes "/bits/"
keyword_bytes keyword.DeleteNode = codes "/delete-node/"
keyword_bytes keyword.DeleteProperty = codes "/delete-property/"
