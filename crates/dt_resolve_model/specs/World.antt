-- What the rules for addresses and interrupts see of a tree, whether it is a blob's or a source's.
use Rattle.std.specs.Prelude.{ℕ, Bool, false, not, ◌&&◌, ◌||◌, ◌==◌, List, [], ◌∷◌, length, Option, Some, None, option_map, codes, if◌then◌else◌}
use Rattle.std.specs.List.{flat_map}
use Rattle.std.specs.Int.{w32, from_be_bytes}
use Rattle.std.specs.Str.{bytes_eq}
use Rattle.dt_names.specs.declared.fault.FaultKind.TheVariants.{UnknownPhandle}
use Rattle.dt_model.specs.Names.{Name}
use Rattle.dt_model.specs.Path.{Path}
use Rattle.dt_model.specs.Meaning.{Item, byte, reference, Meaning}
use Rattle.dt_model.specs.Tree.{Reading, nodes_of, value_in}
use Rattle.dt_model.specs.Applied.{node_numbered}
use Rattle.dt_resolve_model.specs.Answers.{Answer, undetermined, answer, refuse}

-- four bytes of a value: a number, exactly one reference, or neither
pub data Quad : Type 0 where
  figure : ℕ → Quad
  pointer : Path → Quad
  torn : Quad

-- a value by its length in bytes and its whole cells; a rest of one to three bytes has no cell (2.2.4)
pub record Value : Type 0 where
  pub size : ℕ
  pub cells : List Quad

-- a tree as the rules ask for it: the values of a node, and the node that a cell names as a phandle
pub record World : Type 0 where
  pub value : Path → Name → Answer (Option Value)
  pub node : Quad → Answer Path

-- bytes by fours, as numbers
abbrev pub quads_of : List ℕ → List Quad
quads_of (a ∷ b ∷ c ∷ d ∷ bytes) = figure (from_be_bytes w32 (a ∷ b ∷ c ∷ d ∷ [])) ∷ quads_of bytes
quads_of (a ∷ b ∷ c ∷ []) = []
quads_of (a ∷ b ∷ []) = []
quads_of (a ∷ []) = []
quads_of [] = []

abbrev pub value_of_bytes : List ℕ → Value
value_of_bytes bytes = record { size = length bytes; cells = quads_of bytes }

-- the node that was found, or the fault that there is none
abbrev pub node_found : Option Path → Answer Path
node_found None = refuse UnknownPhandle
node_found (Some p) = answer p

-- the node whose phandle a cell of a blob's tree is (2.3.3)
abbrev pub node_of_figure : Reading → Quad → Answer Path
node_of_figure t (figure n) = node_found (node_numbered (nodes_of t) n)
node_of_figure t (pointer p) = undetermined
node_of_figure t torn = undetermined

-- the world of a blob's tree: it has numbers alone, and determines every answer
abbrev pub tree_world : Reading → World
tree_world t = record {
  value = λ p name. answer (option_map value_of_bytes (value_in t p name));
  node = node_of_figure t;
}

-- a byte of a value with references: one of its own, the first of a reference, or a later one of it
pub data Octet : Type 0 where
  own_octet : ℕ → Octet
  lead_octet : Path → Octet
  later_octet : Octet

abbrev pub octets_of_item : Item Path → List Octet
octets_of_item (byte b) = own_octet b ∷ []
octets_of_item (reference p) = lead_octet p ∷ later_octet ∷ later_octet ∷ later_octet ∷ []

abbrev pub octets_of : List (Item Path) → List Octet
octets_of items = flat_map octets_of_item items

-- four bytes: four of the value's own are a number, and those that begin with a reference's first are that reference
abbrev pub quad_of_octets : Octet → Octet → Octet → Octet → Quad
quad_of_octets (lead_octet p) w x y = pointer p
quad_of_octets (own_octet a) (own_octet b) (own_octet c) (own_octet d) = figure (from_be_bytes w32 (a ∷ b ∷ c ∷ d ∷ []))
quad_of_octets v w x y = torn

abbrev pub quads_of_octets : List Octet → List Quad
quads_of_octets (a ∷ b ∷ c ∷ d ∷ octets) = quad_of_octets a b c d ∷ quads_of_octets octets
quads_of_octets (a ∷ b ∷ c ∷ []) = []
quads_of_octets (a ∷ b ∷ []) = []
quads_of_octets (a ∷ []) = []
quads_of_octets [] = []

abbrev pub value_of_items : List (Item Path) → Value
value_of_items items = record { size = length (octets_of items); cells = quads_of_octets (octets_of items) }

-- whether a number is the one that is written
abbrev pub is_written : ℕ → Option ℕ → Bool
is_written n None = false
is_written n (Some k) = n == k

-- the first of some nodes in which the number is written
abbrev pub node_written : Meaning → List Path → ℕ → Option Path
node_written m [] n = None
node_written m (p ∷ nodes) n = if is_written n (m.number p) then Some p else node_written m nodes n

-- A number used as a phandle: the node in which it is written. 0 and 0xffffffff are no node's; any other number may become a node's when
-- the tree is put into a blob.
abbrev pub written_node : ℕ → Option Path → Answer Path
written_node n (Some p) = answer p
written_node n None = if (n == 0) || (n == 0xffffffff) then refuse UnknownPhandle else undetermined

abbrev pub node_of_cell : Meaning → List Path → Quad → Answer Path
node_of_cell m nodes (figure n) = written_node n (node_written m nodes n)
node_of_cell m nodes (pointer p) = answer p
node_of_cell m nodes torn = undetermined

-- The world of a meaning, with some of its nodes, in which written numbers are looked for: it says nothing of a property `phandle`, nor
-- of what is no node of it.
abbrev pub meaning_world : Meaning → List Path → World
meaning_world m nodes = record {
  value = λ p name. if m.stands p && not (bytes_eq name (codes "phandle")) then answer (option_map value_of_items (m.value p name)) else undetermined;
  node = node_of_cell m nodes;
}
