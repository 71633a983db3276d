-- The cells that wait for nodes of some other tree, as texts under the labels of those nodes.
use Rattle.std.specs.Prelude.{ℕ, List, [], ◌∷◌, ◌++◌, if◌then◌else◌, codes, decimal}
use Rattle.std.specs.Global.{Vec}
use Rattle.std.specs.List.{AllByRecursion, flat_map}
use Rattle.std.specs.Str.{bytes_eq}
use Rattle.dt_model.specs.Names.{Name, IsLabel}
use Rattle.dt_model.specs.Overlay.{inside, outside}
use Rattle.dt_model.specs.Object.{references_from}
use Rattle.dt_model.specs.Named.{NodeReference, NamedProperty, Content, Listed}
use Rattle.dt_model.specs.Tree.{Property, no_nodes}
use Rattle.dt_model.specs.Fixups.{unless_empty}
use Rattle.dt_flat.specs.Arena.{Slot}
use Rattle.dt_flat.specs.Planted.{planted}
use Rattle.dt_marks.specs.Paths.{behind}

-- ---- a table of texts

-- the properties that the entries of the table stand for, in order
abbrev pub properties_kept : List (Vec ℕ × Vec ℕ) → List Property
properties_kept [] = []
properties_kept (e ∷ es) = record { name = e.0.items; value = e.1.items } ∷ properties_kept es

-- one more text: it goes behind those of its label; a label that isn't there goes last
abbrev pub with_text : List Property → Name → List ℕ → List Property
with_text [] label text = record { name = label; value = text } ∷ []
with_text (p ∷ ps) label text =
    if bytes_eq label p.name then record { name = p.name; value = p.value ++ text } ∷ ps else p ∷ with_text ps label text

-- some more, each with its label
abbrev pub with_texts : List Property → List (Name × List ℕ) → List Property
with_texts ps [] = ps
with_texts ps (t ∷ ts) = with_texts (with_text ps t.0 t.1) ts

-- each is listed under a label
abbrev pub AreListable : List (Name × List ℕ) → Type 0
AreListable texts = AllByRecursion (λ (t : Name × List ℕ). IsLabel t.0) texts

-- ---- the texts of cells

-- `path:property:offset` and a NUL, where this is the text of the path
abbrev pub place_text : List ℕ → Name → ℕ → List ℕ
place_text path property offset = path ++ (codes ":" ++ (property ++ (codes ":" ++ (decimal offset ++ 0 ∷ []))))

-- that of a reference at an offset, with its label, if it is one by a label
abbrev pub reference_text : List ℕ → Name → ℕ × NodeReference → List (Name × List ℕ)
reference_text path property (offset, inside k) = []
reference_text path property (offset, outside l) = (l, place_text path property offset) ∷ []

-- those of a property
abbrev pub property_texts : List ℕ → NamedProperty NodeReference → List (Name × List ℕ)
property_texts path p = flat_map (reference_text path p.name) (references_from 0 p.value)

-- those of a node
abbrev pub content_texts : List ℕ → Content NodeReference → List (Name × List ℕ)
content_texts path c = flat_map (property_texts path) c.properties

-- those of the nodes that follow
abbrev pub texts_behind : (value lengths : List ℕ) → List (Listed NodeReference) → List (Name × List ℕ)
texts_behind value lengths ns = behind content_texts value lengths ns

-- those of all nodes; the first is the root
abbrev pub all_texts : List (Listed NodeReference) → List (Name × List ℕ)
all_texts [] = []
all_texts (root ∷ ns) = content_texts (codes "/") root.content ++ texts_behind [] (0 ∷ []) ns

-- the nodes of a tree after the node `__fixups__` of these nodes is made, where it isn't empty
abbrev pub with_outside : List Slot → List (Listed NodeReference) → List Slot
with_outside slots nodes = planted slots 0 (unless_empty (codes "__fixups__") (with_texts [] (all_texts nodes)) no_nodes no_nodes)
