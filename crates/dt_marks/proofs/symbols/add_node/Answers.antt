use Rattle.dt_source_named_tree.specs.Said.{node_said}
use Rattle.std.proofs.Common.{map}
use Rattle.dt_marks.proofs.Labels.{all_new}
use Rattle.dt_marks.proofs.symbols.add_node.Goals as goal

pub add_all-requires-clause-new : goal.add_all-requires-clause-new
add_all-requires-clause-new c =
    all_new c.args.tree.now c.plant_node.new.self c.in_ok-symbols.symbols c.root.result c.in_ok-name.name (map node_said c.args.nodes.now) c.in_ok-symbols.ensures.ok.0 c.in_ok-symbols.ensures.ok.1 c.requires.apart c.requires.all
