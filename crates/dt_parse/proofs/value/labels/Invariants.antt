-- Some labels are read.
use Rattle.std.proofs.Common.{length}
use Rattle.dt_parse.proofs.LabelLists.{LabelsRead}
use Rattle.dt_parse.proofs.value.labels.Given as goal

abbrev pub invariant-loop-names : goal.invariant-loop-names
invariant-loop-names l = LabelsRead l.fn.cursor l.cursor l.names.items

abbrev pub decreases-loop-names : goal.decreases-loop-names
decreases-loop-names l = length l.cursor
