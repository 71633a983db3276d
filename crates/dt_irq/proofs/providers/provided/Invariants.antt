-- Going on from here is the whole route.
use Rattle.std.specs.Prelude.{◌≡◌, ◌-◌, ◌≤◌}
use Rattle.dt_trees.specs.Placed.{reading_of}
use Rattle.dt_resolve_model.specs.World.{tree_world}
use Rattle.dt_resolve_model.specs.Interrupts.{most_hops}
use Rattle.dt_resolve_model.specs.Specifiers.{provided}
use Rattle.dt_irq.specs.Seen.{end_of, sent_in, HasArrived}
use Rattle.dt_irq.proofs.providers.provided.Given as goal

abbrev pub invariant-loop-map : goal.invariant-loop-map
invariant-loop-map g l =
    let t = g.V.TreeView.tree l.view in
    record {
      few : l.route.hops ≤ 64;
      arrived : HasArrived t l.route;
      on : provided (tree_world (reading_of t)) l.kind (64 - l.route.hops) l.route.hops (end_of t l.route) ≡ provided (tree_world (reading_of t)) l.kind most_hops 0 (sent_in t l.sent);
    }

abbrev pub decreases-loop-map : goal.decreases-loop-map
decreases-loop-map g l = 64 - l.route.hops
