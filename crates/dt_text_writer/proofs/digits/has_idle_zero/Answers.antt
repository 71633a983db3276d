use Rattle.dt_text_writer.proofs.HexDigits.{one_digit, on_any}
use Rattle.dt_text_writer.proofs.digits.has_idle_zero.Goals as goal

pub returns-else-digits-gt1-clause-none : goal.returns-else-digits-gt1-clause-none
returns-else-digits-gt1-clause-none c = on_any _ _ (one_digit c.args.digits.now c.if-digits-gt1.false)
