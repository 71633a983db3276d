-- What is built of a source.
use Rattle.std.specs.Prelude.{◌≡◌, ◌≤◌, List, length, Ok}
use Rattle.dt_model.specs.Limits.{most_nodes}
use Rattle.dt_model.specs.Named.{NodeReference, Listed, NamedList}
use Rattle.dt_model.specs.Source.{Place, Mode, SoFar, nothing, read_all}
use Rattle.dt_source_nodes.specs.Nodes.{AreNodesAfter}
use Rattle.dt_source_named_tree.specs.Said.{IsTree}

-- the places are all read, and the nodes are those of a tree that has what is left after them
pub record AreNodesOf (mode : Mode) (places : List Place) (ns : List (Listed NodeReference)) : Type 0 where
  pub so_far : SoFar
  pub all_read : read_all mode nothing places ≡ Ok so_far
  pub after : AreNodesAfter so_far.events ns

-- where the nodes aren't too many, they are those of a tree
abbrev pub MayBeWhole : NamedList NodeReference → Type 0
MayBeWhole l = length l.nodes ≤ most_nodes → IsTree l
