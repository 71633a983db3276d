use Rattle.std.proofs.Common.{◌≡◌, ◌∙◌, sym, ap, Some, is_some, true≢false}
use Rattle.dt_flat.specs.Arena.{node_from}
use Rattle.dt_flat.proofs.Descent.{path-within}
use Rattle.dt_overlay_base.proofs.Reached.{stands-led}
use Rattle.dt_overlay_base.proofs.flat_target.node_at.Goals as goal

pub unreachable-requires : goal.unreachable-requires
unreachable-requires c = true≢false (sym c.requires ∙ stands-led c.args.tree.now c.args.path.now ∙ ap is_some (sym c.node.ensures ∙ c.in-None.is))

pub returns : goal.returns
returns c =
    let leads : node_from c.args.tree.now.slots 0 c.args.path.now ≡ Some c.in-Some.node = sym c.node.ensures ∙ c.in-Some.is in
    record {
      leads = leads;
      there = path-within c.args.tree.now.slots c.args.path.now 0 c.in-Some.node c.validity.ensures.rooted.some leads;
      rooted = c.validity.ensures.rooted;
      paths = c.validity.ensures.paths;
      cells = c.validity.ensures.cells;
    }
