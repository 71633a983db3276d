-- The one blob that the writer makes of a tree: header, reservations, structure, strings, with no NOP and zeros as padding
-- (Devicetree Specification v0.4, chapter 5).
use Rattle.std.specs.Prelude.{ℕ, ◌+◌, ◌-◌, ◌%◌, ◌||◌, Bool, false, if◌then◌else◌, List, [], ◌∷◌, ◌++◌, length, replicate}
use Rattle.std.specs.List.{flat_map, list_any}
use Rattle.std.specs.Option.{unwrap_or}
use Rattle.std.specs.Str.{bytes_eq}
use Rattle.dt_model.specs.Names.{Name}
use Rattle.dt_model.specs.Tree.{Property, Forest, no_nodes, branch, Reading}
use Rattle.dt_model.specs.Format.{word, reservation_block}
use Rattle.dt_model_format.specs.Strings.{terminated, place_in}

-- ---- the strings block (5.5)

-- is the name among these?
abbrev pub has : List Name → Name → Bool
has names name = list_any (bytes_eq name) names

-- the names after one more is used, each once, in the order of first use
abbrev pub used : List Name → Name → List Name
used names name = if has names name then names else names ++ name ∷ []

-- the same after the names of properties are used
abbrev pub used_by : List Name → List Property → List Name
used_by names [] = names
used_by names (p ∷ ps) = used_by (used names p.name) ps

-- the same after those of the properties of nodes, in preorder
abbrev pub used_below : List Name → Forest → List Name
used_below names no_nodes = names
used_below names (branch name ps cs ss) = used_below (used_below (used_by names ps) cs) ss

-- is the name an end of the other, which is longer?
abbrev pub is_end : Name → Name → Bool
is_end name [] = false
is_end name (b ∷ longer) = bytes_eq name longer || is_end name longer

-- those of some names that are no end of one of all
abbrev pub kept_of : List Name → List Name → List Name
kept_of all [] = []
kept_of all (n ∷ ns) = if list_any (is_end n) all then kept_of all ns else n ∷ kept_of all ns

-- the names that are no end of another, each with a NUL, in the order of first use
abbrev pub strings_block : List Name → List ℕ
strings_block names = flat_map terminated (kept_of names names)

-- the first place at which the strings block holds the name
abbrev pub offset_of : List Name → Name → ℕ
offset_of names name = unwrap_or (place_in (strings_block names) name) 0

-- ---- the structure block (5.4)

-- zeros after so many bytes, up to a multiple of 4
abbrev pub zeros_after : ℕ → List ℕ
zeros_after size = replicate ((4 - size % 4) % 4) 0

-- PROP, the length of the value, the offset of the name, the value
abbrev pub property_block : List Name → Property → List ℕ
property_block names p =
    word 3 ++ word (length p.value) ++ word (offset_of names p.name) ++ p.value ++ zeros_after (length p.value)

-- BEGIN_NODE, and the name with a NUL
abbrev pub begin_block : Name → List ℕ
begin_block name = word 1 ++ name ++ 0 ∷ zeros_after (length name + 1)

-- each node's begin, properties, children and END_NODE
abbrev pub nodes_block : List Name → Forest → List ℕ
nodes_block names no_nodes = []
nodes_block names (branch name ps cs ss) =
    begin_block name ++ flat_map (property_block names) ps ++ nodes_block names cs ++ word 2 ++ nodes_block names ss

-- the root and its name, which is empty, with all that is below it
abbrev pub root_node : Reading → Forest
root_node t = branch [] t.properties t.children no_nodes

-- the names of all properties, in the order of first use
abbrev pub names_of : Reading → List Name
names_of t = used_below [] (root_node t)

-- the root's node, and END
abbrev pub structure_block : Reading → List ℕ
structure_block t = nodes_block (names_of t) (root_node t) ++ word 9

-- ---- the blob

-- the ten words of the header (5.2), from the boot CPU and the sizes of the blocks
abbrev pub header : (boot_cpu reservations structure strings : ℕ) → List ℕ
header boot_cpu reservations structure strings =
    word 0xd00dfeed ++ word (40 + reservations + structure + strings) ++ word (40 + reservations)
    ++ word (40 + reservations + structure) ++ word 40 ++ word 17 ++ word 16 ++ word boot_cpu ++ word strings
    ++ word structure

-- a blob of its blocks
abbrev pub assembled : (boot_cpu : ℕ) (reservations structure strings : List ℕ) → List ℕ
assembled boot_cpu reservations structure strings =
    header boot_cpu (length reservations) (length structure) (length strings) ++ reservations ++ structure ++ strings

-- the blob of a tree
abbrev pub written : Reading → List ℕ
written t = assembled t.boot_cpu (reservation_block t.reservations) (structure_block t) (strings_block (names_of t))
