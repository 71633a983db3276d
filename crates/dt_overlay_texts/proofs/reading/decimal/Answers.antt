use Rattle.std.proofs.Common.{rules}
use Rattle.std.specs.Str.{IsUtf8}
use Rattle.dt_overlay_texts.proofs.CellTexts.{digits_are_text}
use Rattle.dt_overlay_texts.proofs.reading.decimal.Goals as goal

pub returns-in_err-ok : goal.returns-in_err-ok
returns-in_err-ok c =
    let other : ¬ IsUtf8 c.args.digits.now = search rules in
    rw c.from_residual.ensures (λ n less is. other (digits_are_text c.args.digits.now n is))
