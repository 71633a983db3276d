use Rattle.std.proofs.Common.{refl}
use Rattle.dt_text_writer.proofs.Writing.{exits_first, puts_last, cut_last}
use Rattle.dt_decompile.proofs.texts.put_texts.Goals as goal

pub returns-in_err-put-clause-refused : goal.returns-in_err-put-clause-refused
returns-in_err-put-clause-refused g c =
    exits_first _ _ _ _ _ c.from_residual.ensures.1 refl c.in_err-put.ensures.refused

pub returns-clause-written : goal.returns-clause-written
returns-clause-written g c = puts_last _ _ _ _ refl c.in_ok-put.ensures.written c.put_texts_from.ensures.written

pub returns-clause-refused : goal.returns-clause-refused
returns-clause-refused g c = cut_last _ _ _ _ refl c.in_ok-put.ensures.written c.put_texts_from.ensures.refused
