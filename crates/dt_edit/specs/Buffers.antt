-- What there is room for in a blob in memory of its own, and what its changes keep.
use Rattle.std.specs.Prelude.{◌≡◌, ℕ, ◌+◌, ◌-◌, ◌≤◌, List, [], ◌∷◌, ◌++◌, length, Some}
use Rattle.std.specs.List.{flat_map}
use Rattle.dt_model.specs.Checks.{strings_of, structure_of}
use Rattle.dt_model.specs.Format.{Token, begin_node, end_node, prop, nop, end_tree, tokens_of, reservation_block}
use Rattle.dt_model.specs.Lexing.{padded}
use Rattle.dt_model.specs.Limits.{most_bytes, most_nodes}
use Rattle.dt_model.specs.Lists.{IsIn}
use Rattle.dt_model.specs.Names.{Name}
use Rattle.dt_model.specs.Tree.{Reading}
use Rattle.dt_model.specs.Valid.{node_count}
use Rattle.dt_model_format.specs.Strings.{place_in}
use Rattle.dt_read.specs.Cuts.{property_size}
use Rattle.dt_edit.specs.Editable.{reading_in}
use Rattle.dt_edit.specs.Plans.{brought_by}

-- how many bytes a token takes (Devicetree Specification v0.4, 5.4.1)
abbrev pub token_size : Token → ℕ
token_size (begin_node name) = padded (5 + length name)
token_size end_node = 4
token_size (prop p) = property_size (Some p.value)
token_size nop = 4
token_size end_tree = 4

abbrev pub tokens_size : List Token → ℕ
tokens_size [] = 0
tokens_size (token ∷ tokens) = token_size token + tokens_size tokens

-- and those of a tree, without NOPs and END
abbrev pub tree_size : Reading → ℕ
tree_size t = tokens_size (tokens_of t.properties t.children)

-- the name that a token takes from the strings
abbrev pub token_names : Token → List Name
token_names (begin_node name) = []
token_names end_node = []
token_names (prop p) = p.name ∷ []
token_names nop = []
token_names end_tree = []

-- the names of a tree's properties, node by node
abbrev pub property_names : Reading → List Name
property_names t = flat_map token_names (tokens_of t.properties t.children)

-- strings once these names are used, one after another: one that they don't hold goes behind them
abbrev pub strings_with : List ℕ → List Name → List ℕ
strings_with strings [] = strings
strings_with strings (name ∷ names) = strings_with (strings ++ brought_by (place_in strings name) name) names

-- how many bytes the structure block has beside the tree's tokens: its NOPs, and END
abbrev pub spare_size : List ℕ → ℕ
spare_size bytes = length (structure_of bytes) - tree_size (reading_in bytes)

-- how long the blob is once it holds another tree: its NOPs stay, and its strings
abbrev pub size_as : List ℕ → Reading → ℕ
size_as bytes next =
    40 + length (reservation_block (reading_in bytes).reservations) + (spare_size bytes + tree_size next) + length (strings_with (strings_of bytes) (property_names next))

-- there is room for another tree
pub record HasRoom (bytes : List ℕ) (next : Reading) : Type 0 where
  pub few : 1 + node_count next.children ≤ most_nodes
  pub fits : size_as bytes next ≤ most_bytes

-- A blob may come of another by changes: it has as many bytes of NOPs, and its strings got only names that its properties have, and that weren't there.
pub record Follows (old new : List ℕ) : Type 0 where
  pub spare : spare_size new ≡ spare_size old
  pub names : List Name
  pub strings : strings_of new ≡ strings_with (strings_of old) names
  pub used : (n : Name) → IsIn n names → IsIn n (property_names (reading_in new))
  pub kept : (n : Name) → IsIn n (property_names (reading_in old)) → IsIn n (property_names (reading_in new))
