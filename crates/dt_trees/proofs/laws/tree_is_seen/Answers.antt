use Rattle.dt_trees.proofs.NodePlaces.{at_node}
use Rattle.dt_trees.proofs.Numbers.{reads_same, place_same, stands}
use Rattle.dt_trees.proofs.laws.tree_is_seen.Goals as goal

pub returns-clause-reads : goal.returns-clause-reads
returns-clause-reads c = reads_same

pub returns-clause-numbers : goal.returns-clause-numbers
returns-clause-numbers c = place_same

pub returns-clause-nodes : goal.returns-clause-nodes
returns-clause-nodes c tree node rooted path = stands tree rooted node path

pub returns-clause-places : goal.returns-clause-places
returns-clause-places c t path node apart at = at_node t apart path node at
