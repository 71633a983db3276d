-- What is left makes what all tokens make.
use Rattle.std.proofs.Common.{◌≡◌, [], length}
use Rattle.dt_read.specs.Growth.{grown, MayGrow}
use Rattle.dt_read.proofs.flatten.plant.Given as goal

abbrev pub invariant-loop-token : goal.invariant-loop-token
invariant-loop-token l =
    MayGrow l.cursor l.tree.slots l.open_nodes
    × (record l.tree { slots = grown l.cursor l.tree.slots l.open_nodes } ≡ record l.fn.tree { slots = grown l.fn.cursor l.fn.tree.slots [] })

abbrev pub decreases-loop-token : goal.decreases-loop-token
decreases-loop-token l = length l.cursor
