-- What is done at a token, with what is pending.
use Rattle.std.specs.Prelude.{nat_le, List, [], ◌∷◌, Option, Some, None, if◌then◌else◌}
use Rattle.dt_lex.specs.declared.token.TokenKind.{TokenKind}
use Rattle.dt_lex.specs.declared.token.TokenKind.TheVariants as kind
use Rattle.dt_lex.specs.declared.token.Mark.TheVariants as mark
use Rattle.dt_lex.specs.declared.token.Token.{Token}
use Rattle.dt_expr.specs.declared.step.Unary.{Unary}
use Rattle.dt_expr.specs.declared.step.Binary.{Binary}
use Rattle.dt_expr.specs.declared.step.Step.TheVariants as step
use Rattle.dt_parse.specs.declared.expression.Pending.{Pending}
use Rattle.dt_parse.specs.declared.expression.Pending.TheVariants as pending
use Rattle.dt_parse.specs.declared.expression.Stage.{Stage}
use Rattle.dt_parse.specs.declared.expression.Stage.TheVariants as stage
use Rattle.dt_parse.specs.declared.expression.Turn.{Turn}
use Rattle.dt_parse.specs.declared.expression.Turn.TheVariants as turn_kind
use Rattle.dt_grammar.specs.Words.{unary_of, binary_of, level_of}

abbrev pub kind_in : List Token → Option TokenKind
kind_in [] = None
kind_in (t ∷ ts) = Some t.kind

abbrev pub unary_in : Option TokenKind → Option Unary
unary_in None = None
unary_in (Some k) = unary_of k

abbrev pub binary_in : Option TokenKind → Option Binary
binary_in None = None
binary_in (Some k) = binary_of k

abbrev pub at_operand : Option TokenKind → Turn
at_operand (Some (kind.Integer n)) = turn_kind.Number n
at_operand (Some (kind.Character n)) = turn_kind.Number n
at_operand (Some (kind.Mark mark.OpenParenthesis)) = turn_kind.Push pending.Open
at_operand _ = turn_kind.Refuse

abbrev pub or_unary : Option Unary → Turn → Turn
or_unary None t = t
or_unary (Some op) t = turn_kind.Push (pending.Unary op)

abbrev pub behind_binary : Binary → Option Binary → Turn
behind_binary op None = turn_kind.Emit (step.Binary op)
behind_binary op (Some q) = if nat_le (level_of op) (level_of q) then turn_kind.Emit (step.Binary op) else turn_kind.Push (pending.Binary q)

abbrev pub at_question : Option TokenKind → Turn
at_question (Some (kind.Mark mark.Question)) = turn_kind.Push pending.Question
at_question _ = turn_kind.Whole

abbrev pub behind_operand : Option Binary → Option TokenKind → Turn
behind_operand (Some q) k = turn_kind.Push (pending.Binary q)
behind_operand None k = at_question k

abbrev pub at_else : Option TokenKind → Turn
at_else (Some (kind.Mark mark.Colon)) = turn_kind.Else
at_else _ = turn_kind.Refuse

abbrev pub at_close : Option TokenKind → Turn
at_close (Some (kind.Mark mark.CloseParenthesis)) = turn_kind.Close
at_close _ = turn_kind.Refuse

abbrev pub operand_turn : Option Pending → Option TokenKind → Turn
operand_turn None k = turn_kind.Refuse
operand_turn (Some (pending.Unary op)) k = turn_kind.Emit (step.Unary op)
operand_turn (Some (pending.Binary op)) k = behind_binary op (binary_in k)
operand_turn (Some p) k = behind_operand (binary_in k) k

abbrev pub whole_turn : Option Pending → Option TokenKind → Turn
whole_turn (Some pending.Colon) k = turn_kind.Emit step.Conditional
whole_turn (Some pending.Question) k = at_else k
whole_turn (Some pending.Open) k = at_close k
whole_turn _ k = turn_kind.Refuse

abbrev pub wanted_turn : Option Pending → Option TokenKind → Turn
wanted_turn None k = at_operand k
wanted_turn (Some p) k = or_unary (unary_in k) (at_operand k)

abbrev pub turn_at : Stage → Option Pending → Option TokenKind → Turn
turn_at stage.Wanted top k = wanted_turn top k
turn_at stage.Operand top k = operand_turn top k
turn_at stage.Whole top k = whole_turn top k
