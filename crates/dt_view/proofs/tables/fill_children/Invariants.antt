-- The table has the nodes that were opened.
use Rattle.dt_read.proofs.Walking.{IsWalked}
use Rattle.dt_view.proofs.Children.{AreFound}
use Rattle.dt_view.proofs.tables.fill_children.Given as goal

abbrev pub invariant-loop-step : goal.invariant-loop-step
invariant-loop-step l =
    goal.iterator-loop-step.can_next l.step-iterator × goal.iterator-loop-step.is_finite l.step-iterator
    × IsWalked l.blob l.open_nodes l.step-iterator × AreFound l.blob l.children.entries l.step-iterator
