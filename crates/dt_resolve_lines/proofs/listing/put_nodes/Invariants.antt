-- The lines of the nodes before have passed.
use Rattle.dt_trees.specs.Placed.{reading_of}
use Rattle.dt_resolve_lines.specs.Listed.{AreOwn}
use Rattle.dt_text_writer.specs.Written.{state}
use Rattle.dt_resolve_lines.proofs.Nodes.{ArePast}
use Rattle.dt_resolve_lines.proofs.listing.put_nodes.Given as goal

abbrev pub invariant-loop-step : goal.invariant-loop-step
invariant-loop-step g l =
    (goal.iterator-loop-step g).can_next l.step-iterator × (goal.iterator-loop-step g).is_finite l.step-iterator
    × ArePast (AreOwn l.listing (reading_of l.index)) l.index (state g.S.Sink.taken l.initial.writer) (state g.S.Sink.taken l.writer) l.step-iterator
