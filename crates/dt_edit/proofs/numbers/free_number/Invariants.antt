-- The numbers that were met are marked.
use Rattle.dt_edit.proofs.PhandlesMet.{IsMarked}
use Rattle.dt_edit.proofs.numbers.free_number.Given as goal

abbrev pub invariant-loop-step : goal.invariant-loop-step
invariant-loop-step l =
    goal.iterator-loop-step.can_next l.step-iterator × goal.iterator-loop-step.is_finite l.step-iterator × IsMarked l.blob l.last l.taken l.step-iterator
