use Rattle.std.proofs.Common.{refl}
use Rattle.dt_lex.specs.declared.token.Mark.TheVariants as mark
use Rattle.dt_lex.proofs.Decided.{lone, less, greater, equals}
use Rattle.dt_lex.proofs.piece.sole_mark.Goals as goal

pub returns-in-59 : goal.returns-in-59
returns-in-59 c = lone 59 c.args.second mark.Semicolon refl refl c.args.first c.in-59.is

pub returns-in-123 : goal.returns-in-123
returns-in-123 c = lone 123 c.args.second mark.OpenBrace refl refl c.args.first c.in-123.is

pub returns-in-125 : goal.returns-in-125
returns-in-125 c = lone 125 c.args.second mark.CloseBrace refl refl c.args.first c.in-125.is

pub returns-in-91 : goal.returns-in-91
returns-in-91 c = lone 91 c.args.second mark.OpenBracket refl refl c.args.first c.in-91.is

pub returns-in-93 : goal.returns-in-93
returns-in-93 c = lone 93 c.args.second mark.CloseBracket refl refl c.args.first c.in-93.is

pub returns-in-40 : goal.returns-in-40
returns-in-40 c = lone 40 c.args.second mark.OpenParenthesis refl refl c.args.first c.in-40.is

pub returns-in-41 : goal.returns-in-41
returns-in-41 c = lone 41 c.args.second mark.CloseParenthesis refl refl c.args.first c.in-41.is

pub returns-in-58 : goal.returns-in-58
returns-in-58 c = lone 58 c.args.second mark.Colon refl refl c.args.first c.in-58.is

pub returns-in-60 : goal.returns-in-60
returns-in-60 c = less c.args.second c.if-second-ne60.true c.if-second-ne61.true c.args.first c.in-60.is

pub returns-in-62 : goal.returns-in-62
returns-in-62 c = greater c.args.second c.if-second-ne62.true c.if-second-ne61-2.true c.args.first c.in-62.is

pub returns-in-61 : goal.returns-in-61
returns-in-61 c = equals c.args.second c.if-second-ne61-3.true c.args.first c.in-61.is

pub returns-in-37 : goal.returns-in-37
returns-in-37 c = lone 37 c.args.second mark.Percent refl refl c.args.first c.in-37.is

pub returns-in-94 : goal.returns-in-94
returns-in-94 c = lone 94 c.args.second mark.Caret refl refl c.args.first c.in-94.is

pub returns-in-126 : goal.returns-in-126
returns-in-126 c = lone 126 c.args.second mark.Tilde refl refl c.args.first c.in-126.is
