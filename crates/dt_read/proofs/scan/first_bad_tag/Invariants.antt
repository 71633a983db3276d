-- The tokens so far lead from the front of the block to the rest.
use Rattle.std.proofs.Common.{◌≡◌, length}
use Rattle.dt_read.specs.Scan.{Reaches}
use Rattle.dt_read.specs.View.{position_of}
use Rattle.dt_read.proofs.scan.first_bad_tag.Given as goal

abbrev pub invariant-loop-next : goal.invariant-loop-next
invariant-loop-next l = Reaches l.strings l.block l.offset l.rest (position_of l.place) × (l.names ≡ l.strings)

abbrev pub decreases-loop-next : goal.decreases-loop-next
decreases-loop-next l = length l.rest
