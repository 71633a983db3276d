-- The lines of the entries before have passed.
use Rattle.std.specs.Prelude.{◌≤◌, ◌+◌}
use Rattle.dt_trees.specs.Placed.{path_at, reading_of}
use Rattle.dt_ranges.specs.Left.{AreLeft, entries_left}
use Rattle.dt_resolve_lines.specs.AllLines.{regions_told}
use Rattle.dt_text_writer.specs.Written.{state}
use Rattle.dt_resolve_lines.proofs.Going.{IsGoing}
use Rattle.dt_resolve_lines.proofs.regions.put_entries.Given as goal

abbrev pub invariant-loop-region : goal.invariant-loop-region
invariant-loop-region g l =
    let t = g.V.TreeView.tree l.view in
    AreLeft t (path_at t l.node) l.index l.entries
    × IsGoing (regions_told (reading_of t) (path_at t l.node)) l.index (state g.S.Sink.taken l.initial.writer) (state g.S.Sink.taken l.writer)
    × (l.index + entries_left l.entries ≤ entries_left l.initial.regions)

abbrev pub decreases-loop-region : goal.decreases-loop-region
decreases-loop-region g l = entries_left l.entries
