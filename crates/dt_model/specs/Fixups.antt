-- The object of a named overlay: its tree under numbers, and the nodes that list where these are, so that they
-- can follow where it is applied (dtc's notes on overlay objects).
use Rattle.std.specs.Prelude.{◌≡◌, ℕ, not, List, [], ◌∷◌, ◌++◌, map, filter, Option, if◌then◌else◌, codes, decimal}
use Rattle.std.specs.List.{flat_map}
use Rattle.std.specs.Str.{bytes_eq}
use Rattle.dt_model.specs.Names.{Name}
use Rattle.dt_model.specs.Path.{Path, path_text}
use Rattle.dt_model.specs.Meaning.{cell}
use Rattle.dt_model.specs.Overlay.{inside, outside}
use Rattle.dt_model.specs.Source.{Place}
use Rattle.dt_model.specs.Tree.{Property, Forest, no_nodes, branch, Reading}
use Rattle.dt_model.specs.Object.{Cell, references_from}
use Rattle.dt_model.specs.Numbering.{IsNumbering}
use Rattle.dt_model.specs.Named as named
use Rattle.dt_model.specs.Named.{NodeReference, NamedProperty, Content, NamedForest, NamedPlaced, Named, nodes_of}
use Rattle.dt_model.specs.NamedOf.{asked_in}
use Rattle.dt_model.specs.NamedOverlay.{NamedFragment, IsNamedOverlayOf}
use Rattle.dt_model.specs.Instance.{instance_of, symbols_of, with_symbols, followed_by}

-- ---- `__fixups__`: the cells that wait for a node of some other tree, by its label

-- a reference at an offset of a property, as a cell that waits for the node of a label, if it is one
abbrev pub outside_cell : Path → Name → ℕ × NodeReference → List (Name × Cell)
outside_cell path property (offset, inside k) = []
outside_cell path property (offset, outside l) = (l, record { path = path; property = property; offset = offset }) ∷ []

abbrev pub outside_cells_of : NamedPlaced NodeReference → List (Name × Cell)
outside_cells_of n =
    flat_map (λ (p : NamedProperty NodeReference). flat_map (outside_cell n.path p.name) (references_from 0 p.value)) n.content.properties

-- all of them, nodes in preorder, and in the order of properties and offsets
abbrev pub outside_cells : Named NodeReference → List (Name × Cell)
outside_cells t = flat_map outside_cells_of (nodes_of t)

-- `path:property:offset`, the offset in decimal digits, and a NUL
abbrev pub cell_text : Cell → List ℕ
cell_text c = path_text c.path ++ (codes ":" ++ (c.property ++ (codes ":" ++ (decimal c.offset ++ 0 ∷ []))))

-- the labels, in the order in which they come first
abbrev pub first_labels : List (Name × Cell) → List Name
first_labels [] = []
first_labels ((l, c) ∷ cells) = l ∷ filter (λ k. not (bytes_eq k l)) (first_labels cells)

-- a label with the texts of its cells
abbrev pub text_for : Name → Name × Cell → List ℕ
text_for label (l, c) = if bytes_eq l label then cell_text c else []

abbrev pub fixup : List (Name × Cell) → Name → Property
fixup cells label = record { name = label; value = flat_map (text_for label) cells }

abbrev pub fixups : List (Name × Cell) → List Property
fixups cells = map (fixup cells) (first_labels cells)

-- ---- `__local_fixups__`: the cells that hold numbers of the overlay's own nodes, by the nodes and properties in which they are

-- the offset of a reference to a node of the overlay, as a cell
abbrev pub inside_offset : ℕ × NodeReference → List ℕ
inside_offset (offset, inside k) = cell offset
inside_offset (offset, outside l) = []

-- a property with these offsets, where there are some
abbrev pub offsets_as : Name → List ℕ → List Property
offsets_as name [] = []
offsets_as name (b ∷ bytes) = record { name = name; value = b ∷ bytes } ∷ []

abbrev pub local_properties : Content NodeReference → List Property
local_properties c =
    flat_map (λ (p : NamedProperty NodeReference). offsets_as p.name (flat_map inside_offset (references_from 0 p.value))) c.properties

-- a node in front of its siblings; left out where it has no property and no child
abbrev pub unless_empty : Name → List Property → Forest → Forest → Forest
unless_empty name [] no_nodes siblings = siblings
unless_empty name [] (branch x properties children others) siblings = branch name [] (branch x properties children others) siblings
unless_empty name (p ∷ ps) children siblings = branch name (p ∷ ps) children siblings

-- the nodes that hold such cells, and those above them
abbrev pub mirror : NamedForest NodeReference → Forest
mirror named.no_nodes = no_nodes
mirror (named.branch name content children siblings) = unless_empty name (local_properties content) (mirror children) (mirror siblings)

-- ---- the object

-- the two nodes, each where it isn't empty
abbrev pub fixup_nodes : Named NodeReference → Forest
fixup_nodes t =
    unless_empty (codes "__fixups__") (fixups (outside_cells t)) no_nodes
    (unless_empty (codes "__local_fixups__") (local_properties t.content) (mirror t.children) no_nodes)

-- a tree with them as the root's last children
abbrev pub with_fixups : Named NodeReference → Reading → Reading
with_fixups t r = record r { children = followed_by r.children (fixup_nodes t) }

-- The tree that an overlay's source is compiled to: the one that it means under the least numbers, with its labels and its
-- cells. This pins the tree.
pub record IsObjectOf (places : List Place) (t : Reading) : Type 0 where
  pub named : Named NodeReference
  pub fragments : List NamedFragment
  pub of_places : IsNamedOverlayOf places named fragments
  pub numbers : List (Option ℕ)
  pub numbering : IsNumbering (asked_in named) numbers
  pub is : t ≡ with_fixups named (with_symbols (symbols_of named) (instance_of numbers named))
