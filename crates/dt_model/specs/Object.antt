-- Which trees are an object of an overlay, down to the bytes of its three bookkeeping nodes (dtc's notes on overlay objects).
use Rattle.std.specs.Prelude.{◌≡◌, ◌↔◌, ℕ, ◌+◌, ◌≤◌, ◌%◌, Bool, true, false, ◌&&◌, not, List, [], ◌∷◌, ◌++◌, length, map, Option, Some, None, is_some, IsSome, option_map, if◌then◌else◌, codes}
use Rattle.std.specs.List.{AllByRecursion, flat_map}
use Rattle.std.specs.Int.{w32, from_be_bytes}
use Rattle.std.specs.Str.{bytes_eq}
use Rattle.std.specs.Str.Parse.{IsNumeral, digits_value}
use Rattle.dt_model.specs.Names.{Name, IsNodeName, IsPropertyName}
use Rattle.dt_model.specs.Path.{Path, path_text, path_value, is_bookkeeping, is_bookkeeping_name}
use Rattle.dt_model.specs.Lists.{IsIn}
use Rattle.dt_model.specs.Meaning.{Item, byte, reference, cell, value_bytes}
use Rattle.dt_model.specs.Overlay.{OverlayReference, inside, outside, object_number, Overlay, Fragment}
use Rattle.dt_model.specs.Tree.{Property, Forest, no_nodes, branch, Reading, Node, Placed, preorder, sibling, node_at, stands_in, value_in}
use Rattle.dt_model.specs.Valid.{AreDistinct}

-- ---- cells

-- a cell of a node's property, by its offset in the value
pub record Cell : Type 0 where
  pub path : Path
  pub property : Name
  pub offset : ℕ

-- the object has the cell
abbrev pub HasCell : Reading → Cell → Type 0
HasCell object c = (value : List ℕ) × (value_in object c.path c.property ≡ Some value) × (c.offset + 4 ≤ length value)

-- the references of a value with the offsets of their cells, where the value begins at the offset k
abbrev pub references_from : {R : Type 0} → ℕ → List (Item R) → List (ℕ × R)
references_from k [] = []
references_from k (byte b ∷ items) = references_from (k + 1) items
references_from k (reference r ∷ items) = (k, r) ∷ references_from (k + 4) items

-- the cell is that of a reference to r
abbrev pub IsCellOf : Overlay → Cell → OverlayReference → Type 0
IsCellOf o c r = (items : List (Item OverlayReference)) × (o.value c.path c.property ≡ Some items) × IsIn (c.offset, r) (references_from 0 items)

-- ---- the node `__fixups__`: a property for each label, with the cells that wait for the label's node

-- the text `path:property:offset` of a cell, the offset in decimal digits
pub record IsCellText (text : List ℕ) (c : Cell) : Type 0 where
  pub digits : List ℕ
  pub numeral : IsNumeral 10 digits
  pub offset : digits_value 10 digits ≡ c.offset
  pub path : AllByRecursion IsNodeName c.path
  pub property : IsPropertyName c.property
  pub whole : text ≡ path_text c.path ++ (codes ":" ++ (c.property ++ (codes ":" ++ digits)))

-- the value is the texts of the cells, each with a NUL
abbrev pub AreCellTexts : List ℕ → List Cell → Type 0
AreCellTexts value [] = value ≡ []
AreCellTexts value (c ∷ cells) = (text rest : List ℕ) × (value ≡ text ++ 0 ∷ rest) × IsCellText text c × AreCellTexts rest cells

-- the properties' values are the texts of the cells, which are listed with the properties' names
abbrev pub AreFixups : List Property → List (Name × Cell) → Type 0
AreFixups [] fixups = fixups ≡ []
AreFixups (p ∷ ps) fixups =
    (cells : List Cell) × (rest : List (Name × Cell)) × (fixups ≡ map (λ c. (p.name, c)) cells ++ rest) × AreCellTexts p.value cells × AreFixups ps rest

abbrev pub properties_of : Option Node → List Property
properties_of None = []
properties_of (Some n) = n.properties

abbrev pub HasFixups : Reading → List (Name × Cell) → Type 0
HasFixups t fixups = AreFixups (properties_of (node_at t (codes "__fixups__" ∷ []))) fixups

-- ---- the node `__local_fixups__`: the cells that hold numbers of the object's own nodes, by a node and a property for each

-- the 32-bit numbers of a value, one after another
abbrev pub words_of : List ℕ → List ℕ
words_of (a ∷ b ∷ c ∷ d ∷ rest) = from_be_bytes w32 (a ∷ b ∷ c ∷ d ∷ []) ∷ words_of rest
words_of _ = []

abbrev pub cells_of : Placed → List Cell
cells_of n = flat_map (λ (p : Property). map (λ offset. record { path = n.path; property = p.name; offset = offset }) (words_of p.value)) n.properties

-- a node and those below it, with their paths below it
abbrev pub nodes_from : Option Node → List Placed
nodes_from None = []
nodes_from (Some n) = record { path = []; properties = n.properties } ∷ preorder [] n.children

-- the listed cells, in the order of nodes and properties
abbrev pub local_cells : Reading → List Cell
local_cells t = flat_map cells_of (nodes_from (node_at t (codes "__local_fixups__" ∷ [])))

-- ---- fragments

-- a child of the root is a fragment: no bookkeeping node, and with a child `__overlay__`
abbrev pub is_fragment : Name → Forest → Bool
is_fragment name children = not (is_bookkeeping_name name) && is_some (sibling children (codes "__overlay__"))

-- the names of the fragments among the root's children, in order
abbrev pub fragment_names : Forest → List Name
fragment_names no_nodes = []
fragment_names (branch name properties children siblings) =
    if is_fragment name children then name ∷ fragment_names siblings else fragment_names siblings

-- ---- the object

-- the bytes of a node's property in an object
abbrev pub object_value : Overlay → (Path → ℕ) → Path → Name → Option (List ℕ)
object_value o number p name =
    if bytes_eq name (codes "phandle")
    then (if o.keyed p then Some (cell (number p)) else None)
    else option_map (value_bytes (object_number number)) (o.value p name)

-- The tree is an object of the overlay, its keyed nodes by these numbers.
pub record Encodes (t : Reading) (o : Overlay) (number : Path → ℕ) : Type 0 where
  pub low : (p : Path) → o.keyed p ≡ true → 1 ≤ number p
  pub high : (p : Path) → o.keyed p ≡ true → number p ≤ 0xfffffffe
  pub own : (p q : Path) → o.keyed p ≡ true → o.keyed q ≡ true → number p ≡ number q → p ≡ q
  -- apart from the bookkeeping nodes it is the overlay's tree, its fragments in the overlay's order
  pub nodes : (p : Path) → is_bookkeeping p ≡ false → stands_in t p ≡ o.stands p
  pub values : (p : Path) (name : Name) → is_bookkeeping p ≡ false → value_in t p name ≡ object_value o number p name
  pub fragments : fragment_names t.children ≡ map (λ (f : Fragment). f.name) o.fragments
  -- the properties of `__symbols__` are the labels, each with its node's path
  pub symbols : (l : Name) → value_in t (codes "__symbols__" ∷ []) l ≡ option_map path_value (o.label l)
  -- `__fixups__` has a property for each label that the overlay doesn't give and a reference is by, lists each such
  -- reference's cell once, and has nothing else
  pub fixups : List (Name × Cell)
  pub fixups_listed : HasFixups t fixups
  pub fixups_once : AreDistinct fixups
  pub fixups_exact : (l : Name) (c : Cell) → IsIn (l, c) fixups ↔ IsCellOf o c (outside l)
  pub fixups_used : (l : Name) → IsSome (value_in t (codes "__fixups__" ∷ []) l) → (c : Cell) × IsIn (l, c) fixups
  pub no_nodes_of_fixups : (x : Name) (p : Path) → stands_in t (codes "__fixups__" ∷ x ∷ p) ≡ false
  -- `__local_fixups__` lists the cell of each reference to a node of the overlay once, and has only nodes and properties
  -- that the tree has, and nothing else
  pub locals_once : AreDistinct (local_cells t)
  pub locals_exact : (c : Cell) → IsIn c (local_cells t) ↔ ((p : Path) × IsCellOf o c (inside p))
  pub locals_words : (p : Path) (name : Name) (v : List ℕ) → value_in t (codes "__local_fixups__" ∷ p) name ≡ Some v → length v % 4 ≡ 0
  pub locals_nodes : (p : Path) → stands_in t (codes "__local_fixups__" ∷ p) ≡ true → stands_in t p ≡ true
  pub locals_values : (p : Path) (name : Name) → IsSome (value_in t (codes "__local_fixups__" ∷ p) name) → IsSome (value_in t p name)
