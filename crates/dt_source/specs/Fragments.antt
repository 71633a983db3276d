-- The nodes that are built of an overlay's source.
use Rattle.std.specs.Prelude.{◌≡◌, List, Ok}
use Rattle.std.specs.Prelude as prelude
use Rattle.dt_model.specs.Named.{NodeReference, Listed}
use Rattle.dt_model.specs.OverlaySource.{OverlaySoFar, overlay_of}
use Rattle.dt_model.specs.Source.{Place}
use Rattle.dt_source_bodies.specs.Arena.{all_overlay}
use Rattle.dt_source_nodes.specs.Nodes.{AreNodesBy}

-- the places of an overlay's source are all read, and the nodes are those of a tree that has what is left after them
pub record AreOverlayNodes (places : List Place) (ns : List (Listed NodeReference)) : Type 0 where
  pub so_far : OverlaySoFar
  pub all_read : all_overlay places ≡ Ok so_far
  pub after : AreNodesBy so_far.source.events (overlay_of so_far.source.events prelude.[]).value ns
