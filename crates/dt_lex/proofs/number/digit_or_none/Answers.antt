use Rattle.std.proofs.Common.{refl, ◌∙◌, arith}
use Rattle.dt_lex.specs.declared.number.TheConstants.{DIGITS}
use Rattle.dt_lex.proofs.NumberLemmas.{same_below, from_digits}
use Rattle.dt_lex.proofs.number.digit_or_none.Goals as goal

pub returns : goal.returns
unfolding same_below
returns c = c.from.ensures ∙ from_digits DIGITS c.args.b (omega arith) refl
