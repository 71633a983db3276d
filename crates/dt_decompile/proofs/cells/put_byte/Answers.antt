use Rattle.std.proofs.Common.{sym, ap, ◌++◌, List, ℕ}
use Rattle.dt_text_writer.proofs.Writing.{puts_last, cut_last}
use Rattle.dt_decompile.proofs.cells.put_byte.Goals as goal

pub returns-clause-written : goal.returns-clause-written
returns-clause-written g c =
    puts_last _ _ _ _ (ap (λ (l : List ℕ). c.args.lead.now ++ l) (sym c.write_digits.ensures)) c.in_ok-put.ensures.written c.put-2.ensures.written

pub returns-clause-refused : goal.returns-clause-refused
returns-clause-refused g c =
    cut_last _ _ _ _ (ap (λ (l : List ℕ). c.args.lead.now ++ l) (sym c.write_digits.ensures)) c.in_ok-put.ensures.written c.put-2.ensures.refused
