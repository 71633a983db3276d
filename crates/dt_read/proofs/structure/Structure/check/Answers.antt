use Rattle.std.proofs.Common.{refl}
use Rattle.dt_read.proofs.Nodes.{structure_from_tree}
use Rattle.dt_read.proofs.Ordering.{rising_places}
use Rattle.dt_read.proofs.structure.Structure.check.Goals as goal

pub invariant_of-result : goal.invariant_of-result
invariant_of-result c =
    let h = c.in-None.ensures.tree refl c.args.at in
    structure_from_tree c.args.strings.now c.args.at c.args.block.now h.0 c.requires h.1

pub returns-in-None-clause-tree : goal.returns-in-None-clause-tree
returns-in-None-clause-tree c = (invariant_of-result c).tree

pub returns-in-None-clause-places : goal.returns-in-None-clause-places
returns-in-None-clause-places c = rising_places c.args.strings.now c.args.at c.args.block.now _ (invariant_of-result c).tree
