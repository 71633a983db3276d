-- What was counted and what is left is all, and so is bounded.
use Rattle.std.proofs.Common.{◌≡◌, ◌+◌, ◌≤◌, length}
use Rattle.dt_read.specs.Pairs.{pairs_of}
use Rattle.dt_read.proofs.counts.count_pairs.Given as goal

abbrev pub invariant-loop-behind : goal.invariant-loop-behind
invariant-loop-behind l = (l.count + length (pairs_of l.rest) ≡ length (pairs_of l.bytes)) × (l.count + length l.rest ≤ length l.bytes)

abbrev pub decreases-loop-behind : goal.decreases-loop-behind
decreases-loop-behind l = length l.rest
