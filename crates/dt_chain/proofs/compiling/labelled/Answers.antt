use Rattle.dt_model.specs.Named.{tree_of}
use Rattle.dt_chain.proofs.Stages.{room}
use Rattle.dt_chain.proofs.compiling.labelled.Goals as goal

pub add_symbols-requires : goal.add_symbols-requires
add_symbols-requires c = room (tree_of c.args.named.now) c.in_ok-tree.tree c.requires c.in_ok-tree.ensures.tree
