use Rattle.std.proofs.Common.{◌≡◌, length}
use Rattle.dt_read.specs.TreeTokens.{head_named}
use Rattle.dt_read.proofs.walk.sibling_in.Given as goal

abbrev pub invariant-loop-node : goal.invariant-loop-node
invariant-loop-node l = head_named l.siblings l.name ≡ head_named l.fn.siblings l.name

abbrev pub decreases-loop-node : goal.decreases-loop-node
decreases-loop-node l = length l.siblings
