-- Which rules the first byte of a text leaves to be tried.
use Rattle.std.specs.Prelude.{ℕ, Bool, true, false, List, [], ◌∷◌, ◌==◌, if◌then◌else◌}
use Rattle.dt_lex.specs.declared.token.Keyword.TheVariants as keyword
use Rattle.dt_lex.specs.declared.token.Mark.TheVariants as mark
use Rattle.dt_lex.specs.declared.rule.Directive.TheVariants as directive
use Rattle.dt_lex.specs.declared.rule.Rule.{Rule}
use Rattle.dt_lex.specs.declared.rule.Rule.TheVariants as rule
use Rattle.dt_lex.specs.declared.leader.Leader.{Leader}
use Rattle.dt_lex.specs.declared.leader.Leader.TheVariants as leader

-- the bytes that have a leader of their own
abbrev pub leaders : List (ℕ × Leader)
leaders =
    (47, leader.Slash) ∷ (35, leader.Hash) ∷ (38, leader.Ampersand) ∷ (39, leader.Apostrophe) ∷ (34, leader.Quote)
    ∷ (48, leader.Zero) ∷ (60, leader.Less) ∷ (62, leader.Greater) ∷ (61, leader.Equals) ∷ (33, leader.Exclamation)
    ∷ (124, leader.Bar) ∷ (123, leader.OpenBrace) ∷ (125, leader.CloseBrace) ∷ (91, leader.OpenBracket)
    ∷ (93, leader.CloseBracket) ∷ (40, leader.OpenParenthesis) ∷ (41, leader.CloseParenthesis)
    ∷ (59, leader.Semicolon) ∷ (44, leader.Comma) ∷ (58, leader.Colon) ∷ (63, leader.Question) ∷ (43, leader.Plus)
    ∷ (45, leader.Minus) ∷ (42, leader.Star) ∷ (37, leader.Percent) ∷ (94, leader.Caret) ∷ (126, leader.Tilde) ∷ []

abbrev pub leader_in : List (ℕ × Leader) → ℕ → Leader
leader_in [] b = leader.Other
leader_in (x ∷ xs) b = if b == x.0 then x.1 else leader_in xs b

-- what a byte is as the first of a text
abbrev pub leader_of : ℕ → Leader
leader_of b = leader_in leaders b

-- whether a rule's words may begin so
abbrev pub leads : Leader → Rule → Bool
leads leader.Slash rule.BlockComment = true
leads leader.Slash rule.OpenComment = true
leads leader.Slash rule.LineComment = true
leads leader.Slash (rule.Keyword keyword.Version) = true
leads leader.Slash (rule.Keyword keyword.Plugin) = true
leads leader.Slash (rule.Keyword keyword.Memreserve) = true
leads leader.Slash (rule.Keyword keyword.Bits) = true
leads leader.Slash (rule.Keyword keyword.DeleteNode) = true
leads leader.Slash (rule.Keyword keyword.DeleteProperty) = true
leads leader.Slash (rule.Directive directive.Include) = true
leads leader.Slash (rule.Directive directive.Incbin) = true
leads leader.Slash (rule.Directive directive.OmitIfNoRef) = true
leads leader.Slash (rule.Mark mark.Slash) = true
leads leader.Hash rule.LineMarker = true
leads leader.Hash rule.LongLineMarker = true
leads leader.Hash rule.Name = true
leads leader.Ampersand rule.LabelReference = true
leads leader.Ampersand rule.PathReference = true
leads leader.Ampersand (rule.Mark mark.And) = true
leads leader.Ampersand (rule.Mark mark.Ampersand) = true
leads leader.Apostrophe rule.Character = true
leads leader.Quote rule.Text = true
leads leader.Zero rule.Name = true
leads leader.Zero rule.Byte = true
leads leader.Zero rule.Hexadecimal = true
leads leader.Zero rule.CapitalHexadecimal = true
leads leader.Zero rule.Decimal = true
leads leader.Less (rule.Mark mark.ShiftLeft) = true
leads leader.Less (rule.Mark mark.LessOrEqual) = true
leads leader.Less (rule.Mark mark.Less) = true
leads leader.Greater (rule.Mark mark.ShiftRight) = true
leads leader.Greater (rule.Mark mark.GreaterOrEqual) = true
leads leader.Greater (rule.Mark mark.Greater) = true
leads leader.Equals (rule.Mark mark.Equal) = true
leads leader.Equals (rule.Mark mark.Equals) = true
leads leader.Exclamation (rule.Mark mark.NotEqual) = true
leads leader.Exclamation (rule.Mark mark.Exclamation) = true
leads leader.Bar (rule.Mark mark.Or) = true
leads leader.Bar (rule.Mark mark.Bar) = true
leads leader.OpenBrace (rule.Mark mark.OpenBrace) = true
leads leader.CloseBrace (rule.Mark mark.CloseBrace) = true
leads leader.OpenBracket (rule.Mark mark.OpenBracket) = true
leads leader.CloseBracket (rule.Mark mark.CloseBracket) = true
leads leader.OpenParenthesis (rule.Mark mark.OpenParenthesis) = true
leads leader.CloseParenthesis (rule.Mark mark.CloseParenthesis) = true
leads leader.Semicolon (rule.Mark mark.Semicolon) = true
leads leader.Comma rule.Name = true
leads leader.Comma (rule.Mark mark.Comma) = true
leads leader.Colon (rule.Mark mark.Colon) = true
leads leader.Question rule.Name = true
leads leader.Question (rule.Mark mark.Question) = true
leads leader.Plus rule.Name = true
leads leader.Plus (rule.Mark mark.Plus) = true
leads leader.Minus rule.Name = true
leads leader.Minus (rule.Mark mark.Minus) = true
leads leader.Star rule.Name = true
leads leader.Star (rule.Mark mark.Star) = true
leads leader.Percent (rule.Mark mark.Percent) = true
leads leader.Caret (rule.Mark mark.Caret) = true
leads leader.Tilde (rule.Mark mark.Tilde) = true
leads leader.Other rule.Blanks = true
leads leader.Other rule.Label = true
leads leader.Other rule.Name = true
leads leader.Other rule.Byte = true
leads leader.Other rule.Decimal = true
leads _ _ = false
