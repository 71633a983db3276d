-- The cells that hold numbers of a tree's own nodes.
use Rattle.std.specs.Prelude.{Bool, true, false, List}
use Rattle.std.specs.List.{flat_map, list_any}
use Rattle.dt_model.specs.Fixups.{inside_offset, offsets_as}
use Rattle.dt_model.specs.Named.{NodeReference, NamedProperty as Named}
use Rattle.dt_model.specs.Object.{references_from}
use Rattle.dt_model.specs.Overlay.{inside, outside}
use Rattle.dt_model.specs.Tree.{Property}
use Rattle.dt_source_named_tree.specs.Said.{reference_said}
use Rattle.dt_source_named_tree.specs.declared.named.NamedProperty.{NamedProperty}

-- whether a reference is to a node of the tree
abbrev pub is_inside : NodeReference → Bool
is_inside (inside k) = true
is_inside (outside l) = false

-- whether one of these properties has such a cell
abbrev pub has_cells : List NamedProperty → Bool
has_cells ps = list_any (λ p. list_any (λ x. is_inside (reference_said x.reference)) p.value.pieces.items) ps

-- the offsets of the cells, by the properties in which they are
abbrev pub cells_of : List (Named NodeReference) → List Property
cells_of ps = flat_map (λ (p : Named NodeReference). offsets_as p.name (flat_map inside_offset (references_from 0 p.value))) ps
