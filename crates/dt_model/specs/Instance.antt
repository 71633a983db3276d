-- The tree that a blob holds, once each keyed node has its number: the instance of a meaning or of a named tree.
use Rattle.std.specs.Prelude.{◌≡◌, ℕ, zero, suc, ◌+◌, List, [], ◌∷◌, ◌++◌, map, Option, Some, None, is_some, unwrap_or, if◌then◌else◌, codes}
use Rattle.dt_model.specs.Names.{Name}
use Rattle.dt_model.specs.Path.{Path, path_value}
use Rattle.dt_model.specs.Meaning.{Meaning, cell, value_bytes, IsNaming, instance_value}
use Rattle.dt_model.specs.Numbering.{HasLeastNumbers}
use Rattle.dt_model.specs.Numbers.{paths_of}
use Rattle.dt_model.specs.Overlay.{object_number}
use Rattle.dt_model.specs.Ordered.{IsInOrder, AreLabelsInOrder}
use Rattle.dt_model.specs.Source.{Events, Place, Mode, base, raw, SourceMeans}
use Rattle.dt_model.specs.Tree.{Property, Forest, no_nodes, branch, Reading, stands_in, value_in}
use Rattle.dt_model.specs.Valid.{IsValid}
use Rattle.dt_model.specs.Named as named
use Rattle.dt_model.specs.Named.{NodeReference, NamedProperty, Content, NamedForest, Named, NamedPlaced, value_of, node_count, nodes_of}

-- ---- of a named tree

-- the number of node k
abbrev pub number_at : List (Option ℕ) → ℕ → Option ℕ
number_at [] k = None
number_at (number ∷ numbers) zero = number
number_at (number ∷ numbers) (suc k) = number_at numbers k

-- the number of a reference: its node's, or all ones if the node is of some other tree
abbrev pub number_for : List (Option ℕ) → NodeReference → ℕ
number_for numbers r = object_number (λ k. unwrap_or (number_at numbers k) 0) r

-- a property, where each reference is a number as a cell
abbrev pub numbered : List (Option ℕ) → NamedProperty NodeReference → Property
numbered numbers p = record { name = p.name; value = value_bytes (number_for numbers) p.value }

-- the property `phandle` of a node in which none is written, if it has a number
abbrev pub phandle_of : Content NodeReference → Option ℕ → List Property
phandle_of c None = []
phandle_of c (Some n) =
    if is_some (value_of c.properties (codes "phandle")) then [] else record { name = codes "phandle"; value = cell n } ∷ []

-- the properties of node k: a number that isn't written comes last
abbrev pub numbered_properties : List (Option ℕ) → ℕ → Content NodeReference → List Property
numbered_properties numbers k c = map (numbered numbers) c.properties ++ phandle_of c (number_at numbers k)

-- siblings in preorder, where the first of them has number k
abbrev pub numbered_forest : List (Option ℕ) → ℕ → NamedForest NodeReference → Forest
numbered_forest numbers k named.no_nodes = no_nodes
numbered_forest numbers k (named.branch name content children siblings) =
    branch name (numbered_properties numbers k content) (numbered_forest numbers (suc k) children)
    (numbered_forest numbers (suc k + node_count children) siblings)

-- the tree under these numbers of its nodes, with boot CPU 0
abbrev pub instance_of : List (Option ℕ) → Named NodeReference → Reading
instance_of numbers t = record {
  boot_cpu = 0;
  reservations = t.reservations;
  properties = numbered_properties numbers 0 t.content;
  children = numbered_forest numbers 1 t.children;
}

-- ---- of a meaning

-- the tree is the meaning's instance under the naming, and nothing else
pub record IsInstance (t : Reading) (m : Meaning) (number : Path → ℕ) : Type 0 where
  pub naming : IsNaming m number
  pub reservations : t.reservations ≡ m.reservations
  pub nodes : (p : Path) → stands_in t p ≡ m.stands p
  pub values : (p : Path) (name : Name) → value_in t p name ≡ instance_value m number p name

-- ---- the labels of a tree

-- a label, with the path of the node that it names
abbrev pub symbol : Path → Name → Property
symbol p l = record { name = l; value = path_value p }

-- the labels of these nodes in the order in which they were given, with their nodes' paths
abbrev pub AreSymbols : Events → List Path → List Property → Type 0
AreSymbols es [] symbols = symbols ≡ []
AreSymbols es (p ∷ ps) symbols =
    (labels : List Name) × (others : List Property) × (symbols ≡ map (symbol p) labels ++ others)
    × AreLabelsInOrder es p labels × AreSymbols es ps others

-- the same of a named tree
abbrev pub symbols_of : Named NodeReference → List Property
symbols_of t = symbols_among (nodes_of t)
  where
    symbols_among : List (NamedPlaced NodeReference) → List Property
    symbols_among [] = []
    symbols_among (n ∷ ns) = map (symbol n.path) n.content.labels ++ symbols_among ns

-- siblings, and behind them some more
abbrev pub followed_by : Forest → Forest → Forest
followed_by no_nodes more = more
followed_by (branch name properties children siblings) more = branch name properties children (followed_by siblings more)

-- a tree with its labels: as the properties of the root's last child `__symbols__`, where there is one
abbrev pub with_symbols : List Property → Reading → Reading
with_symbols [] t = t
with_symbols (s ∷ symbols) t = record t { children = followed_by t.children (branch (codes "__symbols__") (s ∷ symbols) no_nodes no_nodes) }

-- ---- the tree that a source means

-- The nodes and values of a source's places, in the order of the text, with the least numbers. This pins the tree.
pub record IsInstanceOf (mode : Mode) (reservations : List (ℕ × ℕ)) (places : List Place) (t : Reading) : Type 0 where
  pub meaning : Meaning
  pub means : SourceMeans mode reservations places meaning
  pub number : Path → ℕ
  pub instance : IsInstance t meaning number
  pub least : HasLeastNumbers t meaning number
  pub order : IsInOrder means.so_far.events meaning t
  pub valid : IsValid t
  pub boot_cpu : t.boot_cpu ≡ 0

-- what is added to a base's tree: its labels; nothing to a raw source's
abbrev pub added : Mode → List Property → Reading → Reading
added base symbols t = with_symbols symbols t
added raw symbols t = t

-- the tree that a source is compiled to
pub record IsTreeOf (mode : Mode) (reservations : List (ℕ × ℕ)) (places : List Place) (t : Reading) : Type 0 where
  pub bare : Reading
  pub instance : IsInstanceOf mode reservations places bare
  pub symbols : List Property
  pub labels : AreSymbols instance.means.so_far.events (paths_of bare) symbols
  pub is : t ≡ added mode symbols bare
