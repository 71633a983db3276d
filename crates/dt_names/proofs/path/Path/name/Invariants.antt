-- The name that is looked for is in what is left.
use Rattle.std.proofs.Common.{length}
use Rattle.dt_names.specs.Paths.{parts_left}
use Rattle.dt_names.proofs.PathTexts.{IsLeft}
use Rattle.dt_names.proofs.path.Path.name.Given as goal

abbrev pub invariant-loop-rest : goal.invariant-loop-rest
invariant-loop-rest l = IsLeft l.self l.index l.left (parts_left l.rest)

abbrev pub decreases-loop-rest : goal.decreases-loop-rest
decreases-loop-rest l = length (parts_left l.rest)
