-- Going on from here is the whole route.
use Rattle.std.specs.Prelude.{◌≡◌, ◌-◌, ◌≤◌}
use Rattle.dt_trees.specs.Placed.{reading_of}
use Rattle.dt_resolve_model.specs.World.{tree_world}
use Rattle.dt_resolve_model.specs.Interrupts.{most_hops, routed}
use Rattle.dt_irq.specs.Seen.{interrupt_in, IsSpecified}
use Rattle.dt_irq.proofs.routing.routed.Given as goal

abbrev pub invariant-loop-at : goal.invariant-loop-at
invariant-loop-at g l =
    let t = g.V.TreeView.tree l.view in
    record {
      few : l.hops ≤ 64;
      there : IsSpecified t l.at.node l.at.specifier.now;
      on : routed (tree_world (reading_of t)) (64 - l.hops) l.hops (interrupt_in t l.at) ≡ routed (tree_world (reading_of t)) most_hops 0 (interrupt_in t l.sent);
    }

abbrev pub decreases-loop-at : goal.decreases-loop-at
decreases-loop-at g l = 64 - l.hops
