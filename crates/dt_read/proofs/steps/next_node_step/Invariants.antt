use Rattle.std.proofs.Common.{◌≡◌, length}
use Rattle.dt_read.specs.StepsLeft.{steps_left}
use Rattle.dt_read.specs.Walked.{without_properties}
use Rattle.dt_read.proofs.steps.next_node_step.Given as goal

abbrev pub invariant-loop-node : goal.invariant-loop-node
invariant-loop-node l = (without_properties (steps_left l.ahead) ≡ without_properties (steps_left l.fn.cursor)) × (l.cursor ≡ l.fn.cursor)

abbrev pub decreases-loop-node : goal.decreases-loop-node
decreases-loop-node l = length l.ahead
