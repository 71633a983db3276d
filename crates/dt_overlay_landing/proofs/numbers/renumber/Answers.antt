use Rattle.std.proofs.Common.{◌≡◌, map, subst}
use Rattle.dt_model.specs.Tree.{Reading}
use Rattle.dt_overlay_object.specs.Plans.{renumbered}
use Rattle.dt_overlay_landing.proofs.SeenWays.{seen_renumbered}
use Rattle.dt_overlay_landing.proofs.numbers.renumber.Goals as goal

pub returns-clause-renumbered : goal.returns-clause-renumbered
returns-clause-renumbered g c seen is first =
    let o = c.args.object.now in
    seen_renumbered (g.V.TreeView.tree o.tree.now) o seen c.renumber_writes.new.writes is first
    (subst (λ (r : Reading). c.renumber_writes.new.writes.items ≡ map (renumbered r seen.numbers) o.own_writes.items) is.reads (c.renumber_writes.ensures seen.numbers is.brought))
