use Rattle.std.proofs.Common.{◌≡◌, Bool, true, false, sym, ap, ◌∙◌}
use Rattle.dt_text_writer.proofs.Writing.{one_fault}
use Rattle.dt_text_writer.proofs.laws.one_ending.Goals as goal

pub returns-clause-only : goal.returns-clause-only
returns-clause-only c = λ bytes fault old new works written cut.
    let both : true ≡ false = sym cut.refused.cut.failed ∙ written.takes.works ∙ works in cc

pub returns-clause-fault : goal.returns-clause-fault
returns-clause-fault c = λ bytes fault other old new p q. one_fault p.refused q.refused
