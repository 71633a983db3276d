-- What the nodes of a named tree say.
use Rattle.std.specs.Prelude.{◌≡◌, ℕ, List, [], ◌∷◌, ◌++◌, map}
use Rattle.std.specs.Cow.{cow_slice_items}
use Rattle.dt_model.specs.Meaning.{Item, byte, reference}
use Rattle.dt_model.specs.Named as model
use Rattle.dt_model.specs.Overlay.{inside, outside}
use Rattle.dt_model.specs.Named.{NodeReference, Listed, NamedList, list_of, tree_of}
use Rattle.dt_model.specs.NamedOf.{IsNamed}
use Rattle.dt_source_named_tree.specs.declared.named.NamedReference.{NamedReference}
use Rattle.dt_source_named_tree.specs.declared.named.NamedReference.TheVariants.{Node, Label}
use Rattle.dt_source_named_tree.specs.declared.named.NamedPiece.{NamedPiece}
use Rattle.dt_source_named_tree.specs.declared.named.NamedValue.{NamedValue}
use Rattle.dt_source_named_tree.specs.declared.named.NamedProperty.{NamedProperty}
use Rattle.dt_source_named_tree.specs.declared.named.NamedNode.{NamedNode}

abbrev pub reference_said : NamedReference → NodeReference
reference_said (Node k) = inside k
reference_said (Label l) = outside l.now

abbrev pub pieces_said : List NamedPiece → List (Item NodeReference)
pieces_said [] = []
pieces_said (p ∷ ps) = map byte (cow_slice_items p.before) ++ reference (reference_said p.reference) ∷ pieces_said ps

abbrev pub value_said : NamedValue → List (Item NodeReference)
value_said v = pieces_said v.pieces.items ++ map byte (cow_slice_items v.bytes)

abbrev pub property_said : NamedProperty → model.NamedProperty NodeReference
property_said p = record { name = p.name.now; value = value_said p.value }

abbrev pub node_said : NamedNode → Listed NodeReference
node_said n = record {
  parent = n.parent;
  name = cow_slice_items n.name;
  content = record { labels = map (λ l. l.now) n.labels.items; properties = map property_said n.properties.items };
}

abbrev pub list_said : List (ℕ × ℕ) → List NamedNode → NamedList NodeReference
list_said reservations nodes = record { reservations = reservations; nodes = map node_said nodes }

-- the nodes stand in preorder, and their tree is one that a source may mean
pub record IsTree (l : NamedList NodeReference) : Type 0 where
  pub preorder : list_of (tree_of l) ≡ l.nodes
  pub named : IsNamed (tree_of l)
