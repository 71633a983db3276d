-- What is listed for the properties that are left completes what is listed for all.
use Rattle.std.proofs.Common.{drop}
use Rattle.dt_trees.specs.Views.{props_said}
use Rattle.dt_overlay_read.proofs.FixupsLabels.{LabelsLeft}
use Rattle.dt_overlay_read.proofs.fixups.list_fixups.Given as goal

abbrev pub invariant-loop-fixup : goal.invariant-loop-fixup
invariant-loop-fixup g l =
    LabelsLeft (g.T.Target.reading l.target) (g.V.TreeView.tree l.object) (props_said l.fixup-items) (drop l.fixup-index (props_said l.fixup-items)) l.initial.out.items l.out.items
