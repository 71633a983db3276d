-- What the tokens of a source say before anything is checked of them, and what it says then.
use Rattle.std.specs.Prelude.{ℕ, ◌==◌, Bool, ◌||◌, List, [], ◌∷◌, ◌++◌, map, drop, if◌then◌else◌}
use Rattle.std.specs.Option.{option_map_or}
use Rattle.std.specs.Int.{w8, w16, w32, w64, to_be_bytes, Width}
use Rattle.dt_model.specs.Names.{Name}
use Rattle.dt_model.specs.Path.{Path}
use Rattle.dt_model.specs.Source.{Reference, by_label, by_path, Part, one, number_of, text_of, Place, root, block, delete_node, child, label, property, delete_property, delete_child, close}
use Rattle.dt_lex.specs.Texts.{text_bytes}
use Rattle.dt_expr.specs.Expression.{Expression, value}
use Rattle.dt_expr.specs.Fits.{element}
use Rattle.dt_grammar.specs.Grammar.{Says}

-- what a reference is by
pub data Target : Type 0 where
  a_label : Target
  a_path : Target

-- in a cell list or a list of bytes: a label's bytes, an expression of so many tokens, a reference's bytes, a byte
pub data RawCell : Type 0 where
  label_cell : (bytes : List ℕ) → RawCell
  number_cell : (size : ℕ) (e : Expression) → RawCell
  reference_cell : (target : Target) (bytes : List ℕ) → RawCell
  byte_cell : (b : ℕ) → RawCell

pub data RawItem : Type 0 where
  cell_item : (bits : ℕ) (cells : List RawCell) → RawItem
  text_item : (bytes : List ℕ) → RawItem
  byte_item : (cells : List RawCell) → RawItem
  path_item : (target : Target) (bytes : List ℕ) → RawItem

-- an item, with the labels before and behind it
pub record RawComponent : Type 0 where
  pub before : List (List ℕ)
  pub item : RawItem
  pub behind : List (List ℕ)

-- the places of a source, with the bytes of their names; where labels say nothing, they stand beside the name
pub data RawPlace : Type 0 where
  raw_root : RawPlace
  raw_block : (target : Target) (bytes : List ℕ) → RawPlace
  raw_delete_node : (target : Target) (bytes : List ℕ) → RawPlace
  raw_child : (bytes : List ℕ) → RawPlace
  raw_label : (bytes : List ℕ) → RawPlace
  raw_property : (labels : List (List ℕ)) (bytes : List ℕ) (value : List RawComponent) → RawPlace
  raw_delete_property : (labels : List (List ℕ)) (bytes : List ℕ) → RawPlace
  raw_delete_child : (labels : List (List ℕ)) (bytes : List ℕ) → RawPlace
  raw_close : RawPlace

-- a reservation: labels, and two expressions, each of so many tokens
pub record RawReserve : Type 0 where
  pub labels : List (List ℕ)
  pub address_size : ℕ
  pub address : Expression
  pub length_size : ℕ
  pub length : Expression

pub record RawSource : Type 0 where
  pub plugin : Bool
  pub reserves : List RawReserve
  pub places : List RawPlace

-- ---- what it says

-- all bytes but the last
abbrev pub all_but_last : List ℕ → List ℕ
all_but_last [] = []
all_but_last (b ∷ []) = []
all_but_last (b ∷ c ∷ bytes) = b ∷ all_but_last (c ∷ bytes)

-- a byte more at the front of the first name
abbrev pub onto_first : ℕ → List Name → List Name
onto_first b [] = (b ∷ []) ∷ []
onto_first b (n ∷ names) = (b ∷ n) ∷ names

-- the names that end with a `/` or a `}`
abbrev pub ended_names : List ℕ → List Name
ended_names [] = []
ended_names (b ∷ bytes) = if (b == 47) || (b == 125) then [] ∷ ended_names bytes else onto_first b (ended_names bytes)

-- there is no name where the first is empty
abbrev pub path_of_names : List Name → Path
path_of_names [] = []
path_of_names ([] ∷ names) = []
path_of_names ((b ∷ n) ∷ names) = (b ∷ n) ∷ names

-- of `&l` it is l, of `&{/path}` it is the names
abbrev pub reference_in : Target → List ℕ → Reference
reference_in a_label bytes = by_label (drop 1 bytes)
reference_in a_path bytes = by_path (path_of_names (ended_names (drop 3 bytes)))

abbrev pub width_of : ℕ → Width
width_of bits = if bits == 8 then w8 else (if bits == 16 then w16 else (if bits == 64 then w64 else w32))

-- the value, 0 where there is none
abbrev pub value_or_zero : Expression → ℕ
value_or_zero e = option_map_or (λ n. n) (value e) 0

abbrev pub cell_parts : ℕ → RawCell → List Part
cell_parts bits (label_cell bytes) = []
cell_parts bits (number_cell size e) = map one (to_be_bytes (width_of bits) (element bits (value_or_zero e)))
cell_parts bits (reference_cell target bytes) = number_of (reference_in target bytes) ∷ []
cell_parts bits (byte_cell b) = one b ∷ []

abbrev pub cells_parts : ℕ → List RawCell → List Part
cells_parts bits [] = []
cells_parts bits (c ∷ cells) = cell_parts bits c ++ cells_parts bits cells

abbrev pub item_parts : RawItem → List Part
item_parts (cell_item bits cells) = cells_parts bits cells
item_parts (text_item bytes) = map one (text_bytes bytes ++ 0 ∷ [])
item_parts (byte_item cells) = cells_parts 8 cells
item_parts (path_item target bytes) = text_of (reference_in target bytes) ∷ []

abbrev pub value_parts : List RawComponent → List Part
value_parts [] = []
value_parts (c ∷ components) = item_parts c.item ++ value_parts components

abbrev pub place_meant : RawPlace → Place
place_meant raw_root = root
place_meant (raw_block target bytes) = block (reference_in target bytes)
place_meant (raw_delete_node target bytes) = delete_node (reference_in target bytes)
place_meant (raw_child bytes) = child bytes
place_meant (raw_label bytes) = label (all_but_last bytes)
place_meant (raw_property labels bytes components) = property bytes (value_parts components)
place_meant (raw_delete_property labels bytes) = delete_property bytes
place_meant (raw_delete_child labels bytes) = delete_child bytes
place_meant raw_close = close

abbrev pub reserve_of : RawReserve → ℕ × ℕ
reserve_of r = (value_or_zero r.address, value_or_zero r.length)

abbrev pub says_of : RawSource → Says
says_of s = record { plugin = s.plugin; reservations = map reserve_of s.reserves; places = map place_meant s.places }
