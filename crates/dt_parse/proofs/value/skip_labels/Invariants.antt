-- Some labels are passed.
use Rattle.std.proofs.Common.{ℕ, List, length}
use Rattle.dt_parse.proofs.LabelLists.{LabelsRead}
use Rattle.dt_parse.proofs.value.skip_labels.Given as goal

abbrev pub invariant-loop-cursor : goal.invariant-loop-cursor
invariant-loop-cursor l = (names : List (List ℕ)) × LabelsRead l.fn.cursor l.cursor names

abbrev pub decreases-loop-cursor : goal.decreases-loop-cursor
decreases-loop-cursor l = length l.cursor
