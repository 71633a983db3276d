-- What is listed for the texts that are left completes what is listed for the value.
use Rattle.dt_overlay_read.proofs.FixupsTold.{CellsLeft}
use Rattle.dt_overlay_read.proofs.fixups.list_cells.Given as goal

abbrev pub invariant-loop-text : goal.invariant-loop-text
invariant-loop-text g l = record {
  next : (goal.iterator-loop-text g).can_next l.text-iterator;
  ends : (goal.iterator-loop-text g).is_finite l.text-iterator;
  left : CellsLeft (g.V.TreeView.tree l.object) l.value l.text-iterator l.number l.initial.out.items l.out.items;
}
