-- What an object has to be so that it is applied, in the order in which it is looked at (dtc's notes on overlay objects).
use Rattle.std.specs.Prelude.{◌≡◌, ◌≢◌, ℕ, ◌+◌, ◌≤◌, ◌%◌, ◌⊎◌, true, List, [], ◌∷◌, ◌++◌, length, Some, None, codes}
use Rattle.std.specs.List.{AllByRecursion}
use Rattle.std.specs.Int.{w32, from_be_bytes}
use Rattle.dt_model.specs.Names.{Name, IsNodeName}
use Rattle.dt_model.specs.Path.{Path, path_text, path_value}
use Rattle.dt_model.specs.Meaning.{cell}
use Rattle.dt_model.specs.Lists.{IsIn}
use Rattle.dt_model.specs.Tree.{Property, Reading, node_at, stands_in, value_in, nodes_of}
use Rattle.dt_model.specs.Overlay.{content}
use Rattle.dt_model.specs.Object.{Cell, AreCellTexts, fragment_names, properties_of, words_of, HasCell}
use Rattle.dt_model.specs.Numbers.{is_brought}
use Rattle.dt_model.specs.Applied.{node_named, node_numbered, number_at, symbol}

-- the node of the path has the number as its phandle
abbrev pub HasNumber : Reading → Path → ℕ → Type 0
HasNumber t p n = value_in t p (codes "phandle") ≡ Some (cell n)

-- each phandle is the cell of its number
abbrev pub HasCells : Reading → Type 0
HasCells t = (p : Path) (value : List ℕ) → value_in t p (codes "phandle") ≡ Some value → value ≡ cell (from_be_bytes w32 value)

-- ---- fragments

-- `target` holds a number
abbrev pub HoldsNumber : Reading → Name → Type 0
HoldsNumber object f = (value : List ℕ) × (value_in object (f ∷ []) (codes "target") ≡ Some value) × (length value ≡ 4)

-- there is no `target`, and `target-path` holds a path's text with its NUL
abbrev pub HoldsPath : Reading → Name → Type 0
HoldsPath object f =
    (value_in object (f ∷ []) (codes "target") ≡ None)
    × ((p : Path) × (value_in object (f ∷ []) (codes "target-path") ≡ Some (path_value p)) × AllByRecursion IsNodeName p)

abbrev pub HasTarget : Reading → Name → Type 0
HasTarget object f = HoldsNumber object f ⊎ HoldsPath object f

-- ---- `__fixups__`

abbrev pub fixups_in : Reading → List Property
fixups_in object = properties_of (node_at object (codes "__fixups__" ∷ []))

-- the value is the texts of one or more cells that the object has
pub record AreCellsOf (object : Reading) (value : List ℕ) (cells : List Cell) : Type 0 where
  pub texts : AreCellTexts value cells
  pub some : cells ≢ []
  pub there : AllByRecursion (HasCell object) cells

-- the base has a node with this number for the label
abbrev pub SymbolHasNumber : Reading → Name → ℕ → Type 0
SymbolHasNumber base l n = (q : Path) × (symbol base l ≡ Some q) × HasNumber base q n

-- a property of `__fixups__` is as it has to be
pub record IsFixup (base object : Reading) (x : Property) : Type 0 where
  pub cells : List Cell
  pub listed : AreCellsOf object x.value cells
  pub number : ℕ
  pub numbered : SymbolHasNumber base x.name number

-- ---- `__local_fixups__`

-- the four bytes at an offset are the number of a node, which a fragment brings if it brings the node that holds them
pub record IsLocalCell (object : Reading) (p : Path) (value : List ℕ) (offset : ℕ) : Type 0 where
  pub there : offset + 4 ≤ length value
  pub named : Path
  pub numbered : node_numbered (nodes_of object) (number_at value offset) ≡ Some named
  pub brought : is_brought (fragment_names object.children) p ≡ true → is_brought (fragment_names object.children) named ≡ true

-- the property lists such cells of the property of its name
pub record IsLocalFixup (object : Reading) (p : Path) (x : Property) : Type 0 where
  pub value : List ℕ
  pub there : value_in object p x.name ≡ Some value
  pub words : length x.value % 4 ≡ 0
  pub cells : AllByRecursion (IsLocalCell object p value) (words_of x.value)

-- the mirror of a node is as it has to be
pub record IsMirror (object : Reading) (p : Path) : Type 0 where
  pub stands : stands_in object p ≡ true
  pub properties : AllByRecursion (IsLocalFixup object p) (properties_of (node_at object (codes "__local_fixups__" ∷ p)))

-- ---- `__symbols__`

abbrev pub symbols_in : Reading → List Property
symbols_in object = properties_of (node_at object (codes "__symbols__" ∷ []))

-- the text begins with the path of what a fragment brings
abbrev pub IsOfFragment : Reading → List ℕ → Type 0
IsOfFragment object text =
    (f : Name) × IsIn f (fragment_names object.children)
    × ((text ≡ path_text (content f)) ⊎ ((rest : List ℕ) × (text ≡ path_text (content f) ++ (codes "/" ++ rest))))

-- the value is a text with its NUL, and where it begins with the path of what a fragment brings it names a node
pub record IsSymbol (object : Reading) (value : List ℕ) : Type 0 where
  pub text : List ℕ
  pub whole : value ≡ text ++ 0 ∷ []
  pub one : AllByRecursion (λ b. b ≢ 0) text
  pub named : IsOfFragment object text → (p : Path) × (node_named (nodes_of object) value ≡ Some p)

-- ---- all of it

abbrev pub HaveTargets : Reading → Type 0
HaveTargets object = AllByRecursion (HasTarget object) (fragment_names object.children)

abbrev pub AreFixedUp : Reading → Reading → Type 0
AreFixedUp base object = AllByRecursion (IsFixup base object) (fixups_in object)

abbrev pub AreMirrors : Reading → Type 0
AreMirrors object = (p : Path) → stands_in object (codes "__local_fixups__" ∷ p) ≡ true → IsMirror object p

abbrev pub AreSymbols : Reading → Type 0
AreSymbols object = AllByRecursion (λ (x : Property). IsSymbol object x.value) (symbols_in object)

pub record IsWellFormed (base object : Reading) : Type 0 where
  pub targets : HaveTargets object
  pub fixups : AreFixedUp base object
  pub mirror : AreMirrors object
  pub symbols : AreSymbols object
