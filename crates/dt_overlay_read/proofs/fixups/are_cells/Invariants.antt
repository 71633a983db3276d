-- The texts that are left decide.
use Rattle.std.proofs.Common.{◌↔◌}
use Rattle.dt_trees.specs.Placed.{reading_of}
use Rattle.dt_overlay_read.proofs.FixupsTold.{HasCells, HasAllTold}
use Rattle.dt_overlay_read.proofs.fixups.are_cells.Given as goal

abbrev pub invariant-loop-text : goal.invariant-loop-text
invariant-loop-text g l = record {
  next : (goal.iterator-loop-text g).can_next l.text-iterator;
  ends : (goal.iterator-loop-text g).is_finite l.text-iterator;
  left : HasCells (reading_of (g.V.TreeView.tree l.object)) l.value ↔ HasAllTold (reading_of (g.V.TreeView.tree l.object)) l.text-iterator;
}
