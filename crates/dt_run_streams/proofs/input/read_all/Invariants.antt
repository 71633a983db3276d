-- What was read was taken from the feed, in order, and is at most a piece above the limit.
use Rattle.std.proofs.Common.{◌-◌, ◌≤◌}
use Rattle.std.specs.Prelude.{length}
use Rattle.std.specs.Io.KnownBytes.{Consumes}
use Rattle.dt_run_streams.proofs.input.read_all.Given as goal

abbrev pub invariant-loop-piece : goal.invariant-loop-piece
invariant-loop-piece g l = Consumes (g.F.Feed.remaining l.initial.feed) (g.F.Feed.remaining l.feed) l.all.items × (length l.all.items ≤ 16781312)

abbrev pub decreases-loop-piece : goal.decreases-loop-piece
decreases-loop-piece g l = 16777217 - length l.all.items
