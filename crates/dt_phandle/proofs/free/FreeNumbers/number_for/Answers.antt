use Rattle.dt_phandle.proofs.free.FreeNumbers.number_for.Goals as goal

pub returns-clause-left : goal.returns-clause-left
returns-clause-left c = λ taken l noted. c.take.ensures.left taken l
