-- The names that are left are those of the nodes on the way.
use Rattle.std.specs.Prelude.{length}
use Rattle.dt_edit.proofs.DownPaths.{IsLeft}
use Rattle.dt_edit.proofs.finding.path_of.Given as goal

abbrev pub invariant-loop-here : goal.invariant-loop-here
invariant-loop-here l = record {
  left : IsLeft l.blob l.node l.way l.path;
}

abbrev pub decreases-loop-here : goal.decreases-loop-here
decreases-loop-here l = length l.way
