-- The names so far are names of nodes, and the others are in what is left.
use Rattle.std.proofs.Common.{length}
use Rattle.dt_names.specs.Paths.{parts_left}
use Rattle.dt_names.proofs.PathTexts.{Counted}
use Rattle.dt_names.proofs.path.count_names.Given as goal

abbrev pub invariant-loop-rest : goal.invariant-loop-rest
invariant-loop-rest l = Counted l.text l.count (parts_left l.rest)

abbrev pub decreases-loop-rest : goal.decreases-loop-rest
decreases-loop-rest l = length (parts_left l.rest)
