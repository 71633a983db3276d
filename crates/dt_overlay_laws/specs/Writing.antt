-- An object with its cells written, and its nodes as they land.
use Rattle.std.specs.Prelude.{◌≡◌, ℕ, List, [], ◌∷◌, ◌++◌, map, Option, Some, None, unwrap_or, if◌then◌else◌, codes}
use Rattle.std.specs.Str.{bytes_eq}
use Rattle.dt_model.specs.Names.{Name}
use Rattle.dt_model.specs.Path.{Path}
use Rattle.dt_model.specs.Meaning.{cell}
use Rattle.dt_model.specs.Tree.{Property, Forest, no_nodes, branch, Reading, Node, node_at}
use Rattle.dt_model.specs.Overlay.{content}
use Rattle.dt_model.specs.Applied.{Write, value_after_writes, brought}
use Rattle.dt_model.specs.Numbers.{number_in}

-- a property with its cells written, but for a `phandle`, which keeps its value until its node lands
abbrev pub with_cells_of : List Write → Path → Property → Property
with_cells_of ws path p = record { name = p.name; value = if bytes_eq p.name (codes "phandle") then p.value else value_after_writes path p.name ws p.value }

abbrev pub cells_written : List Write → Path → Forest → Forest
cells_written ws path no_nodes = no_nodes
cells_written ws path (branch name properties children siblings) =
    branch name (map (with_cells_of ws (path ++ name ∷ [])) properties) (cells_written ws (path ++ name ∷ []) children) (cells_written ws path siblings)

-- the tree with the cells written
abbrev pub with_cells : List Write → Reading → Reading
with_cells ws t = record t { properties = map (with_cells_of ws []) t.properties; children = cells_written ws [] t.children }

-- a property as it lands: a `phandle` is its node's new number
abbrev pub landed_property : Option ℕ → Property → Property
landed_property number p = record { name = p.name; value = if bytes_eq p.name (codes "phandle") then cell (unwrap_or number 0) else p.value }

abbrev pub landed_forest : List (Path × ℕ) → Path → Forest → Forest
landed_forest numbers path no_nodes = no_nodes
landed_forest numbers path (branch name properties children siblings) =
    branch name (map (landed_property (number_in numbers (path ++ name ∷ []))) properties) (landed_forest numbers (path ++ name ∷ []) children)
    (landed_forest numbers path siblings)

abbrev pub landed : List (Path × ℕ) → Name → Option Node → Node
landed numbers f None = record { properties = []; children = no_nodes }
landed numbers f (Some n) =
    record { properties = map (landed_property (number_in numbers (content f))) n.properties; children = landed_forest numbers (content f) n.children }

-- ---- laws

-- what a fragment brings is what the tree with the cells written has, under the new numbers
abbrev pub LandedIsBrought : Type 0
LandedIsBrought = (object : Reading) (ws : List Write) (numbers : List (Path × ℕ)) (f : Name)
    → landed numbers f (node_at (with_cells ws object) (content f)) ≡ brought ws numbers f (node_at object (content f))
