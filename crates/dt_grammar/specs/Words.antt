-- Tokens with their bytes, and the names, labels, references and operators that they are.
use Rattle.std.specs.Prelude.{◌≡◌, ℕ, List, ◌++◌, map, slice_range, Option, Some, None, codes}
use Rattle.std.specs.List.{AllByRecursion}
use Rattle.dt_model.specs.Names.{Name, IsNodeName, IsPropertyName, IsLabel}
use Rattle.dt_model.specs.Path.{Path, path_text}
use Rattle.dt_model.specs.Source.{Reference, by_label, by_path}
use Rattle.dt_lex.specs.declared.token.TokenKind.{TokenKind}
use Rattle.dt_lex.specs.declared.token.TokenKind.TheVariants as kind
use Rattle.dt_lex.specs.declared.token.Token.{Token}
use Rattle.dt_lex.specs.declared.token.Mark.{Mark}
use Rattle.dt_lex.specs.declared.token.Mark.TheVariants as mark
use Rattle.dt_lex.specs.declared.token.Keyword.{Keyword}
use Rattle.dt_expr.specs.declared.step.Unary.{Unary}
use Rattle.dt_expr.specs.declared.step.Unary.TheVariants as unary
use Rattle.dt_expr.specs.declared.step.Binary.{Binary}
use Rattle.dt_expr.specs.declared.step.Binary.TheVariants as binary

-- a token, and the bytes of its place in the text
pub record Word : Type 0 where
  pub kind : TokenKind
  pub bytes : List ℕ

abbrev pub Words : Type 0
Words = List Word

abbrev pub word_of : List ℕ → Token → Word
word_of text t = record { kind = t.kind; bytes = slice_range text t.start t.«end» }

abbrev pub words_of : List ℕ → List Token → Words
words_of text ts = map (word_of text) ts

abbrev pub IsMark : Mark → Word → Type 0
IsMark m w = w.kind ≡ kind.Mark m

abbrev pub IsKeyword : Keyword → Word → Type 0
IsKeyword k w = w.kind ≡ kind.Keyword k

-- `l:`
pub record IsLabelWord (w : Word) (l : Name) : Type 0 where
  pub kind : w.kind ≡ kind.Label
  pub bytes : w.bytes ≡ l ++ codes ":"
  pub valid : IsLabel l

pub record IsNodeWord (w : Word) (n : Name) : Type 0 where
  pub kind : w.kind ≡ kind.Name
  pub bytes : w.bytes ≡ n
  pub valid : IsNodeName n

pub record IsPropertyWord (w : Word) (n : Name) : Type 0 where
  pub kind : w.kind ≡ kind.Name
  pub bytes : w.bytes ≡ n
  pub valid : IsPropertyName n

-- `&l`, or `&{/path}`
pub data IsReferenceWord (w : Word) : Reference → Type 0 where
  to_label : (l : Name) → w.kind ≡ kind.LabelReference → w.bytes ≡ codes "&" ++ l → IsLabel l → IsReferenceWord w (by_label l)
  to_path : (p : Path) → w.kind ≡ kind.PathReference → w.bytes ≡ codes "&{" ++ (path_text p ++ codes "}") → AllByRecursion IsNodeName p →
      IsReferenceWord w (by_path p)

-- ---- operators

abbrev pub unary_of : TokenKind → Option Unary
unary_of (kind.Mark mark.Minus) = Some unary.Minus
unary_of (kind.Mark mark.Tilde) = Some unary.Complement
unary_of (kind.Mark mark.Exclamation) = Some unary.Not
unary_of _ = None

abbrev pub binary_of : TokenKind → Option Binary
binary_of (kind.Mark mark.Or) = Some binary.Or
binary_of (kind.Mark mark.And) = Some binary.And
binary_of (kind.Mark mark.Bar) = Some binary.BitOr
binary_of (kind.Mark mark.Caret) = Some binary.BitXor
binary_of (kind.Mark mark.Ampersand) = Some binary.BitAnd
binary_of (kind.Mark mark.Equal) = Some binary.Equal
binary_of (kind.Mark mark.NotEqual) = Some binary.NotEqual
binary_of (kind.Mark mark.Less) = Some binary.Less
binary_of (kind.Mark mark.Greater) = Some binary.Greater
binary_of (kind.Mark mark.LessOrEqual) = Some binary.LessOrEqual
binary_of (kind.Mark mark.GreaterOrEqual) = Some binary.GreaterOrEqual
binary_of (kind.Mark mark.ShiftLeft) = Some binary.ShiftLeft
binary_of (kind.Mark mark.ShiftRight) = Some binary.ShiftRight
binary_of (kind.Mark mark.Plus) = Some binary.Plus
binary_of (kind.Mark mark.Minus) = Some binary.Minus
binary_of (kind.Mark mark.Star) = Some binary.Times
binary_of (kind.Mark mark.Slash) = Some binary.Divide
binary_of (kind.Mark mark.Percent) = Some binary.Remainder
binary_of _ = None

-- how loosely an operator binds
abbrev pub level_of : Binary → ℕ
level_of binary.Times = 1
level_of binary.Divide = 1
level_of binary.Remainder = 1
level_of binary.Plus = 2
level_of binary.Minus = 2
level_of binary.ShiftLeft = 3
level_of binary.ShiftRight = 3
level_of binary.Less = 4
level_of binary.Greater = 4
level_of binary.LessOrEqual = 4
level_of binary.GreaterOrEqual = 4
level_of binary.Equal = 5
level_of binary.NotEqual = 5
level_of binary.BitAnd = 6
level_of binary.BitXor = 7
level_of binary.BitOr = 8
level_of binary.And = 9
level_of binary.Or = 10
