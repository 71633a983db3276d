-- Applying an object to a tree: in bytes and numbers alone, whatever the two mean (dtc's notes on overlay objects).
use Rattle.std.specs.Prelude.{ℕ, ◌+◌, Bool, true, false, ◌&&◌, not, List, [], ◌∷◌, ◌++◌, take, drop, map, Option, Some, None, option_and_then, unwrap_or, if◌then◌else◌, codes}
use Rattle.std.specs.Option.{option_or}
use Rattle.std.specs.Int.{w32, from_be_bytes}
use Rattle.std.specs.Str.{bytes_eq}
use Rattle.dt_model.specs.Names.{Name}
use Rattle.dt_model.specs.Path.{Path, path_eq, path_value, is_bookkeeping}
use Rattle.dt_model.specs.Meaning.{cell}
use Rattle.dt_model.specs.Overlay.{content}
use Rattle.dt_model.specs.Merged.{Site, landing}
use Rattle.dt_model.specs.Object.{Cell, local_cells, properties_of}
use Rattle.dt_model.specs.Numbers.{number_in}
use Rattle.dt_model.specs.Tree.{Property, Forest, no_nodes, branch, Reading, Node, Placed, value_of, node_at, value_in, nodes_of}
use Rattle.dt_model.specs.Changes.{merged_node, changed_at}

-- ---- cells and their numbers

-- the bytes with the cell at an offset replaced
abbrev pub with_cell : List ℕ → ℕ → ℕ → List ℕ
with_cell bytes offset n = take offset bytes ++ (cell n ++ drop (offset + 4) bytes)

-- the number in a cell
abbrev pub number_at : List ℕ → ℕ → ℕ
number_at bytes offset = from_be_bytes w32 (take 4 (drop offset bytes))

-- whether the value is the number's cell
abbrev pub is_cell : ℕ → Option (List ℕ) → Bool
is_cell n None = false
is_cell n (Some value) = bytes_eq value (cell n)

-- the first of the nodes that has the number as its phandle
abbrev pub node_numbered : List Placed → ℕ → Option Path
node_numbered [] n = None
node_numbered (x ∷ nodes) n = if is_cell n (value_of x.properties (codes "phandle")) then Some x.path else node_numbered nodes n

-- the first of the nodes whose path's text, with its NUL, is the value
abbrev pub node_named : List Placed → List ℕ → Option Path
node_named [] value = None
node_named (x ∷ nodes) value = if bytes_eq (path_value x.path) value then Some x.path else node_named nodes value

-- the node that a tree's `__symbols__` has for a label
abbrev pub symbol : Reading → Name → Option Path
symbol t l = option_and_then (node_named (nodes_of t)) (value_in t (codes "__symbols__" ∷ []) l)

-- ---- what is written into an object's cells

-- a cell of a property, and the number that is written there
pub record Write : Type 0 where
  pub cell : Cell
  pub number : ℕ

-- a cell that holds the number of a node of the object gets the node's new number, if it has one
abbrev pub local_write : Reading → List (Path × ℕ) → Cell → Write
local_write object numbers c =
    let n : ℕ = number_at (unwrap_or (value_in object c.path c.property) []) c.offset in
    record { cell = c; number = unwrap_or (option_and_then (number_in numbers) (node_numbered (nodes_of object) n)) n }

-- a cell that waits for a label gets the number of the node that the base has for it
abbrev pub label_write : Reading → Name × Cell → Write
label_write base (l, c) =
    record { cell = c; number = number_at (unwrap_or (value_in base (unwrap_or (symbol base l) []) (codes "phandle")) []) 0 }

-- the writes, the object's own numbers first
abbrev pub writes : Reading → Reading → List (Name × Cell) → List (Path × ℕ) → List Write
writes base object fixups numbers = map (local_write object numbers) (local_cells object) ++ map (label_write base) fixups

-- whether the write is one of the property
abbrev pub is_at : Path → Name → Write → Bool
is_at p name w = path_eq w.cell.path p && bytes_eq w.cell.property name

-- the value of a property after the writes, in their order
abbrev pub value_after_writes : Path → Name → List Write → List ℕ → List ℕ
value_after_writes p name [] value = value
value_after_writes p name (w ∷ ws) value = value_after_writes p name ws (if is_at p name w then with_cell value w.cell.offset w.number else value)

-- a property with its cells written; a `phandle` is its node's new number
abbrev pub written_property : List Write → List (Path × ℕ) → Path → Property → Property
written_property ws numbers path p = record {
  name = p.name;
  value = if bytes_eq p.name (codes "phandle") then cell (unwrap_or (number_in numbers path) 0) else value_after_writes path p.name ws p.value;
}

abbrev pub written_forest : List Write → List (Path × ℕ) → Path → Forest → Forest
written_forest ws numbers path no_nodes = no_nodes
written_forest ws numbers path (branch name properties children siblings) =
    branch name (map (written_property ws numbers (path ++ name ∷ [])) properties) (written_forest ws numbers (path ++ name ∷ []) children)
    (written_forest ws numbers path siblings)

abbrev pub written_node : List Write → List (Path × ℕ) → Path → Node → Node
written_node ws numbers path n =
    record { properties = map (written_property ws numbers path) n.properties; children = written_forest ws numbers path n.children }

-- ---- where nodes land

abbrev pub if_named : List ℕ → Option Path → Option Path
if_named value None = None
if_named value (Some q) = if bytes_eq (path_value q) value then Some q else None

-- where a node lands on the path of this text, if one does
abbrev pub landed_named : List Placed → List Site → List ℕ → Option Path
landed_named [] earlier value = None
landed_named (x ∷ nodes) earlier value = option_or (if_named value (landing earlier x.path)) (landed_named nodes earlier value)

-- nothing lands among the bookkeeping nodes
abbrev pub is_plain : Option Path → Bool
is_plain None = true
is_plain (Some q) = not (is_bookkeeping q)

-- ---- the result

-- what a fragment brings, with its cells written
abbrev pub brought : List Write → List (Path × ℕ) → Name → Option Node → Node
brought ws numbers f None = record { properties = []; children = no_nodes }
brought ws numbers f (Some n) = written_node ws numbers (content f) n

-- what the fragments bring, merged into their sites in order
abbrev pub with_fragments : Reading → Reading → List Write → List (Path × ℕ) → List Site → Reading
with_fragments t object ws numbers [] = t
with_fragments t object ws numbers (x ∷ sites) =
    with_fragments (changed_at (λ n. merged_node n (brought ws numbers x.fragment (node_at object (content x.fragment)))) x.at t) object ws numbers sites

-- the labels of the object's nodes that land, with the texts of the paths on which they land
abbrev pub landed_symbol : Name → Option Path → List Property → List Property
landed_symbol l None properties = properties
landed_symbol l (Some q) properties = record { name = l; value = path_value q } ∷ properties

abbrev pub landed_symbols : Reading → List Site → List Property → List Property
landed_symbols object sites [] = []
landed_symbols object sites (p ∷ ps) =
    landed_symbol p.name (option_and_then (landing sites) (node_named (nodes_of object) p.value)) (landed_symbols object sites ps)

-- properties set in `__symbols__`, which is added where there is any
abbrev pub with_symbols_merged : List Property → Reading → Reading
with_symbols_merged [] t = t
with_symbols_merged (p ∷ ps) t =
    changed_at (λ n. merged_node n (record { properties = []; children = branch (codes "__symbols__") (p ∷ ps) no_nodes no_nodes })) [] t

-- The base with the object applied, which lists these cells that wait for labels and whose nodes get these numbers, its
-- fragments at these sites.
abbrev pub applied_at : Reading → Reading → List (Name × Cell) → List (Path × ℕ) → List Site → Reading
applied_at base object fixups numbers sites =
    with_symbols_merged (landed_symbols object sites (properties_of (node_at object (codes "__symbols__" ∷ []))))
    (with_fragments base object (writes base object fixups numbers) numbers sites)
