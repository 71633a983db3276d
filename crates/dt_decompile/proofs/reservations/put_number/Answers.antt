use Rattle.std.proofs.Common.{◌++◌, ◌∙◌, List, ℕ, refl, sym, ap}
use Rattle.dt_model.specs.Printed.{hexadecimal}
use Rattle.dt_text_writer.proofs.Writing.{exits_first, puts_last, cut_last}
use Rattle.dt_decompile.proofs.reservations.put_number.Goals as goal

pub returns-in_err-put-clause-refused : goal.returns-in_err-put-clause-refused
returns-in_err-put-clause-refused g c = exits_first _ _ _ _ _ c.from_residual.ensures.1 refl c.in_err-put.ensures.refused

pub returns-clause-written : goal.returns-clause-written
returns-clause-written g c =
    puts_last _ _ _ _ (ap (λ (l : List ℕ). c.args.lead.now ++ l) (sym (c.write_digits.ensures ∙ ap hexadecimal c.to_be_bytes.ensures)))
    c.in_ok-put.ensures.written c.put-2.ensures.written

pub returns-clause-refused : goal.returns-clause-refused
returns-clause-refused g c =
    cut_last _ _ _ _ (ap (λ (l : List ℕ). c.args.lead.now ++ l) (sym (c.write_digits.ensures ∙ ap hexadecimal c.to_be_bytes.ensures)))
    c.in_ok-put.ensures.written c.put-2.ensures.refused
