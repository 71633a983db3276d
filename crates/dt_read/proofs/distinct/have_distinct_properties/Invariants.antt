-- The tokens that are left decide as all do.
use Rattle.std.proofs.Common.{◌↔◌, ◌∷◌, ◌++◌, [], length}
use Rattle.dt_read.specs.Distinct.{AreDistinctInEach}
use Rattle.dt_read.specs.Marks.{last_mark, marks_of}
use Rattle.dt_read.proofs.distinct.have_distinct_properties.Given as goal

abbrev pub invariant-loop-place : goal.invariant-loop-place
invariant-loop-place l = AreDistinctInEach l.cursor ↔ AreDistinctInEach (marks_of l.structure ++ last_mark ∷ [])

abbrev pub decreases-loop-place : goal.decreases-loop-place
decreases-loop-place l = length l.cursor
