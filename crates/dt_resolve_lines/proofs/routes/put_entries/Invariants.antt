-- The lines of the entries before have passed.
use Rattle.std.specs.Prelude.{◌≤◌, ◌+◌}
use Rattle.dt_trees.specs.Placed.{path_at, reading_of}
use Rattle.dt_irq.specs.RoutesLeft.{AreLeft, length_left}
use Rattle.dt_resolve_lines.specs.AllLines.{routes_told}
use Rattle.dt_text_writer.specs.Written.{state}
use Rattle.dt_resolve_lines.proofs.Going.{IsGoing}
use Rattle.dt_resolve_lines.proofs.routes.put_entries.Given as goal

abbrev pub invariant-loop-entry : goal.invariant-loop-entry
invariant-loop-entry g l =
    let t = g.V.TreeView.tree l.view in
    AreLeft t (path_at t l.node) l.index l.entries
    × IsGoing (routes_told (reading_of t) (path_at t l.node)) l.index (state g.S.Sink.taken l.initial.writer) (state g.S.Sink.taken l.writer)
    × (l.index + length_left l.entries ≤ length_left l.initial.routes)

abbrev pub decreases-loop-entry : goal.decreases-loop-entry
decreases-loop-entry g l = length_left l.entries
