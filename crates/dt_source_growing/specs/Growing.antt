-- A tree under construction as functions.
use Rattle.std.specs.Prelude.{List}
use Rattle.dt_model.specs.Source.{Part}
use Rattle.dt_source_growing.specs.Shape.{Shape}
use Rattle.dt_source_growing.specs.Listing.{IsSound}
use Rattle.dt_source_growing.specs.declared.growing.Growing.{Growing}
pub use Rattle.dt_source_growing.specs.Listing.{shape_of, Listing, kept, found, standing, IsIndexed, Adds, Drops, Keeps, listed, nodes_listed, properties_listed, item_of, to_node, given_to, HasNodes, HasProperties, HasLabels}

abbrev pub shape : Growing → Shape (List Part)
shape g = shape_of g.nodes.items g.children g.properties.items g.indices g.givings.items g.labels.map.entries

-- the tables of a tree find what stands, and nothing else
abbrev pub IsSoundGrowing : Growing → Type 0
IsSoundGrowing g = IsSound g.nodes.items g.children g.properties.items g.indices g.givings.items g.labels.map.entries
