-- What a token begins in a value, by its kind.
use Rattle.std.specs.Prelude.{Option, Some}
use Rattle.dt_lex.specs.declared.token.TokenKind.{TokenKind}
use Rattle.dt_lex.specs.declared.token.TokenKind.TheVariants as kind
use Rattle.dt_lex.specs.declared.token.Mark.TheVariants as mark
use Rattle.dt_lex.specs.declared.token.Keyword.TheVariants as keyword
use Rattle.dt_parse.specs.declared.value.Opening.{Opening}
use Rattle.dt_parse.specs.declared.value.Opening.TheVariants as opening
use Rattle.dt_parse.specs.declared.value.CellOpening.{CellOpening}
use Rattle.dt_parse.specs.declared.value.CellOpening.TheVariants as cell
use Rattle.dt_parse.specs.declared.value.ByteOpening.{ByteOpening}
use Rattle.dt_parse.specs.declared.value.ByteOpening.TheVariants as byte

abbrev pub opening_of : Option TokenKind → Opening
opening_of (Some (kind.Mark mark.Less)) = opening.Cells
opening_of (Some (kind.Mark mark.OpenBracket)) = opening.Bytes
opening_of (Some (kind.Keyword keyword.Bits)) = opening.SizedCells
opening_of (Some kind.Text) = opening.Text
opening_of (Some kind.LabelReference) = opening.Reference
opening_of (Some kind.PathReference) = opening.Reference
opening_of _ = opening.Nothing

abbrev pub cell_opening : Option TokenKind → CellOpening
cell_opening (Some kind.Label) = cell.Label
cell_opening (Some kind.LabelReference) = cell.Reference
cell_opening (Some kind.PathReference) = cell.Reference
cell_opening (Some (kind.Integer n)) = cell.Number
cell_opening (Some (kind.Character n)) = cell.Number
cell_opening (Some (kind.Mark mark.OpenParenthesis)) = cell.Number
cell_opening _ = cell.Nothing

abbrev pub byte_opening : Option TokenKind → ByteOpening
byte_opening (Some kind.Label) = byte.Label
byte_opening (Some (kind.Byte n)) = byte.Byte n
byte_opening _ = byte.Nothing
