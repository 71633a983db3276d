-- What is left has the digits that are left of all.
use Rattle.std.proofs.Common.{◌≡◌, length}
use Rattle.dt_model.specs.Printed.{significant}
use Rattle.dt_text_writer.proofs.digits.without_zeros.Given as goal

abbrev pub invariant-loop-rest : goal.invariant-loop-rest
invariant-loop-rest l = significant l.rest ≡ significant l.digits

abbrev pub decreases-loop-rest : goal.decreases-loop-rest
decreases-loop-rest l = length l.rest
