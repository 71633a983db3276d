use Rattle.std.proofs.Common.{◌≡◌, ◌*◌, ◌^◌, true, sym, ◌∙◌}
use Rattle.std.specs.Prelude.{nat_lt}
use Rattle.dt_trees.specs.Placed.{path_at, reading_of}
use Rattle.dt_resolve_model.specs.World.{tree_world}
use Rattle.dt_ranges.proofs.Sent.{sent_on, sent_up}
use Rattle.dt_ranges.proofs.dma.dma_region.Goals as goal

pub returns : goal.returns
returns g c =
    let t = g.V.TreeView.tree c.args.view.now in
    let w = tree_world (reading_of t) in
    let p = path_at t c.args.node in
    let q = path_at t c.in-Some.bus in
    let own = c.in_ok-own.own in
    let fits : nat_lt c.args.address (2 ^ (32 * own.address)) ≡ true = sym c.fits.ensures ∙ c.if-not-fits.false in
    c.region_at.ensures
    ∙ sym (sent_on w p q c.args.address c.args.size own c.in-Some.ensures.2 c.in-Some.ensures.1 c.in_ok-own.ensures.is ∙ sent_up w q c.args.address c.args.size own fits)
