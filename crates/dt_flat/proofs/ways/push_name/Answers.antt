use Rattle.std.proofs.Common.{sym, subst, true≢false}
use Rattle.dt_model.specs.Names.{IsNodeName}
use Rattle.dt_flat.proofs.ToRoot.{node_named}
use Rattle.dt_flat.proofs.ways.push_name.Goals as goal

pub unreachable-requires : goal.unreachable-requires
unreachable-requires c =
    let named = node_named c.args.places.now c.args.node c.requires.valid.named c.requires.below c.requires.there in
    true≢false (sym (c.in_default.ensures.valid.1 (subst IsNodeName (sym c.name.ensures) named)))
