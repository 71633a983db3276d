use Rattle.dt_trees.specs.Placed.{path_at, properties_at}
use Rattle.dt_trees.proofs.Props.{props_more, props_all}
use Rattle.dt_read.proofs.tree_view.props_of.Goals as goal

pub loop-name-preserved : goal.loop-name-preserved
loop-name-preserved c = record {
  next = tt;
  ends = tt;
  said = props_more c.loop-name.props.items c.push.new.self.items (record { name = c.in-Some.name; value = c.in-Some.value }) c.loop-name.name-iterator c.next.new.self
      (properties_at c.args.blob.now (path_at c.args.blob.now c.args.node)) c.in_ok-push.ensures.items c.in-Some.ensures.steps c.loop-name.invariant.said;
}

pub returns : goal.returns
returns c =
    props_all c.loop-name.props.items c.loop-name.name-iterator (properties_at c.args.blob.now (path_at c.args.blob.now c.args.node)) c.in-None.ensures.steps.0 c.loop-name.invariant.said
