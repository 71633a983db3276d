-- The numbers so far are those that the nodes have now.
use Rattle.std.proofs.Common.{◌≡◌, ◌++◌, ℕ, List, map, take, drop}
use Rattle.dt_model.specs.Path.{Path}
use Rattle.dt_overlay_object.specs.Plans.{AreBroughtBy, renumbered}
use Rattle.dt_trees.specs.Placed.{reading_of}
use Rattle.dt_overlay_landing.proofs.numbers.renumber_writes.Given as goal

abbrev pub invariant-loop-i : goal.invariant-loop-i
invariant-loop-i g l =
    let o = g.V.TreeView.tree l.object in
    (numbers : List (Path × ℕ)) → AreBroughtBy o numbers l.brought
    → l.writes.items ≡ map (renumbered (reading_of o) numbers) (take l.i l.initial.writes.items) ++ drop l.i l.initial.writes.items
