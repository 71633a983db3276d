use Rattle.std.proofs.Common.{◌∙◌}
use Rattle.dt_flat.specs.Arena.{properties}
use Rattle.dt_trees.proofs.Numbers.{within, properties_same}
use Rattle.dt_trees.proofs.Props.{props_more, props_all}
use Rattle.dt_trees.proofs.flat.props_of.Goals as goal

pub props-name-items-requires : goal.props-name-items-requires
props-name-items-requires c = within c.args.tree.now c.validity.ensures.rooted c.args.node c.requires

pub loop-name-preserved : goal.loop-name-preserved
loop-name-preserved c = record {
  next = tt;
  ends = tt;
  said = props_more c.loop-name.props.items c.push.new.self.items (record { name = c.in-Some.name; value = c.in-Some.value }) c.loop-name.name-iterator c.next.new.self (properties c.args.tree.now.slots c.args.node)
      c.in_ok-push.ensures.items c.in-Some.ensures.steps c.loop-name.invariant.said;
}

pub returns : goal.returns
returns c =
    props_all c.loop-name.props.items c.loop-name.name-iterator (properties c.args.tree.now.slots c.args.node) c.in-None.ensures.steps.0 c.loop-name.invariant.said
    ∙ properties_same c.args.tree.now c.args.node c.requires
